-- What control reaches in a program of clean objects. (ld(1), the handbook of the PDP-11/70; what is suspicious for sure, and which
-- places are reached: `checks`)
--
-- Control begins at the entry point. A line leads to the one after it if control comes there, as after a branch and after `jsr pc,f`, to the
-- target of its branch, and to that of `jsr` or `jmp` by modes 37 and 67. The way ends at `jsr r5,f`: control goes to `f`, and nobody knows
-- whether it comes back to the next word. All of that is `IsReached` of the file without its symbols and its relocation, for these could
-- say more than the words.
--
-- All of each object's text is taken to be instructions, as by `-t`. Two things are asked besides. A jump or a call refers to its own text, or
-- to a name of text. After `sys fork` the parent's word is in the text, or is the first one after it.
use Rattle.std.specs.Prelude.{◌≡◌, ◌≢◌, ℕ, ◌+◌, ◌*◌, ◌/◌, ◌<◌, ◌≤◌, ◌⊎◌, true, List, [], ◌∷◌, ◌++◌, length, Option, Some, slice_get}
use Rattle.std.specs.List.{AllByRecursion}
use Rattle.aout_core.specs.{declared.symbol.Symbol.Symbol, declared.symbol.Segment.TheVariants.TextSeg, declared.reloc.Reloc.Reloc}
use Rattle.aout_core.specs.{Contents.Contents, Contents.IsWord, Strip.stripped, WellFormed.is_external, WellFormed.symbol_number}
use Rattle.aout_core.specs.declared.reloc.Kind.TheVariants as kinds
use Rattle.link_session.specs.{Starts.total, Sessions.IsObject}
use Rattle.tool_options.specs.{declared.options.Keep.TheVariants.Nothing, Choices.Choices}
use Rattle.link_out.specs.Results.{Outcome}
use Rattle.laws.specs.ReachedInstructions.{kind_said, KeepsInstruction, BeginsInstruction}
use Rattle.laws.specs.{relation.LinkedFrom.IsLinkedFrom, OperandPlaces.{addressing_of, IsOperand, IsDirect}, OperandWords.machine_value}
use Rattle.instructions.specs.{declared.mode.Addressing.Addressing, declared.operand.Operand.Operand, Instructions.jumps}
use Rattle.instructions.specs.{declared.instruction.Instruction.Instruction, declared.line.Line.TheVariants.Decoded}
use Rattle.instructions.specs.{declared.call.SystemCall.TheVariants.Fork, declared.call_table.CallRow.CallRow}
use Rattle.instructions.specs.{declared.unix.Decoder.TheVariants.Unix, declared.unix.UnixLine.TheVariants.{Machine, Call}}
use Rattle.disassemblies.specs.Lines.{unix_line_in}
use Rattle.checks.specs.{declared.evidence.Evidence.TheVariants.{Names, Promise}, Reached.is_text, ReachedLaw.IsReached}
use Rattle.checks.specs.{Suspicions.suspicions, SureLaw.NoneIsSure}

-- control reaches a place of a program, which counts the words of its text
abbrev pub IsRun : Contents → ℕ → Type 0
IsRun file place = IsReached Names (stripped file) place

-- a symbol of text of one of the objects, whose value is before the end of that text: with `-t` its place is reached
pub record TextSymbol (os : List Contents) : Type 0 where
  pub before : List Contents
  pub k : Contents
  pub after : List Contents
  pub all : os ≡ before ++ k ∷ after
  pub number : ℕ
  pub symbol : Symbol
  pub is_there : slice_get k.symbols number ≡ Some symbol
  pub is_in_text : is_text symbol ≡ true
  pub inside : symbol.value < 2 * length k.text_words

-- the operand word at a place of the text of k, with this relocation word, refers to a name and no byte beyond it, and the name is
-- that of such a symbol
pub record RefersToText (os : List Contents) (k : Contents) (a : Addressing) (place : ℕ) (r : Reloc) : Type 0 where
  pub kind : kind_said a r ≡ Some kinds.External
  pub word : ℕ
  pub is_there : slice_get k.text_words place ≡ Some word
  pub just : machine_value a (2 * place + 2) word ≡ 0
  pub mention : Symbol
  pub named : slice_get k.symbols (symbol_number r) ≡ Some mention
  pub target : TextSymbol os
  pub outer : is_external target.symbol ≡ true
  pub names : target.symbol.name ≡ mention.name

-- the operand word at a place of k, with this relocation word, refers to the text of k or to its end
pub record RefersToOwnText (k : Contents) (a : Addressing) (place : ℕ) (r : Reloc) : Type 0 where
  pub kind : kind_said a r ≡ Some kinds.TextSeg
  pub inside : (word : ℕ) → slice_get k.text_words place ≡ Some word → machine_value a (2 * place + 2) word ≤ 2 * length k.text_words

-- so does a jump or a call by modes 37 or 67 at a place of k, by its operand word and relocation word
abbrev pub JumpsTo : (Addressing → ℕ → Reloc → Type 0) → Contents → ℕ → Type 0
JumpsTo Refers k place =
    (instruction : Instruction) (a b : Option ℕ) → unix_line_in Unix k place ≡ Machine (Decoded instruction a b) →
    jumps instruction.row.operation ≡ true → (operand : Option Operand) (p : ℕ) → IsOperand instruction place operand p →
    (way : Addressing) → addressing_of operand ≡ Some way → IsDirect way → (r : Reloc) → slice_get k.text_reloc p ≡ Some r →
    Refers way p r

-- it refers to its own text, or to such a name
abbrev pub JumpsToText : List Contents → Contents → ℕ → Type 0
JumpsToText os k place = JumpsTo (λ way p r. RefersToOwnText k way p r ⊎ RefersToText os k way p r) k place

-- after `sys fork` at a place the parent goes on within the text, or at its end
abbrev pub KeepsParent : Contents → ℕ → Type 0
KeepsParent k place = (c : CallRow) → unix_line_in Unix k place ≡ Call c → c.call ≡ Fork → place + 2 ≤ length k.text_words

-- with `-t` nothing is suspicious for sure in the object; and what is asked besides
pub record IsClean (os : List Contents) (k : Contents) : Type 0 where
  pub words : AllByRecursion IsWord k.text_words
  pub quiet : NoneIsSure (suspicions Promise k)
  pub parents : (place : ℕ) → IsReached Promise k place → KeepsParent k place
  pub jumps : (place : ℕ) → IsReached Promise k place → JumpsToText os k place

-- the program begins at a symbol of text
pub record BeginsAtSymbol (os : List Contents) (x : Outcome) : Type 0 where
  pub first : TextSymbol os
  pub is : x.file.header.entry_point ≡ total TextSeg first.before + first.symbol.value

-- or at 0, as it does if no name is given
abbrev pub Begins : List Contents → Outcome → Type 0
Begins os x = (x.file.header.entry_point ≡ 0) ⊎ BeginsAtSymbol os x

-- an instruction begins with word i of the text of k, and is in the program
pub record IsKept (o : Choices) (x : Outcome) (rows : List Symbol) (os before : List Contents) (k : Contents) (i : ℕ) : Type 0 where
  pub begins : BeginsInstruction k i
  pub kept : KeepsInstruction o x rows os before k i begins.w begins.following begins.instruction

-- a place of the program is a reached place of one of the objects, and has the instruction there
pub record IsOfObject (o : Choices) (x : Outcome) (rows : List Symbol) (os : List Contents) (place : ℕ) : Type 0 where
  pub before : List Contents
  pub k : Contents
  pub after : List Contents
  pub all : os ≡ before ++ k ∷ after
  pub i : ℕ
  pub at : place ≡ total TextSeg before / 2 + i
  pub reached : IsReached Promise k i
  pub instruction : IsKept o x rows os before k i

-- clean objects make a clean program, in a link that keeps symbols, if no name is multiply defined
abbrev pub CleanObjectsMakeCleanPrograms : Type 0
CleanObjectsMakeCleanPrograms =
    (forced : List (List ℕ)) (os : List Contents) (o : Choices) (x : Outcome) → AllByRecursion IsObject os →
    AllByRecursion (IsClean os) os → o.keep ≢ Nothing → (l : IsLinkedFrom forced os o x) → x.report.multiples ≡ [] →
    x.file.header.text_size ≤ 65535 →
    Begins os x → (place : ℕ) → IsRun x.file place → IsOfObject o x l.rows os place
