-- What a linked program has of an object in which nothing is suspicious for sure. (ld(1), the handbook of the PDP-11/70; what is
-- suspicious for sure, and which places are sure: `checks`)
--
-- The instructions at the sure places are in the program: none begins with a relocated word, and none is cut. Each operand that has a word
-- is the address of the byte to which the object refers by its relocation word, or it is a number, since each pc bit suits its mode.
use Rattle.std.specs.Prelude.{◌≡◌, ℕ, ◌+◌, ◌*◌, true, false, if◌then◌else◌, List, ◌∷◌, ◌++◌, drop, Option, Some, slice_get}
use Rattle.std.specs.List.{AllByRecursion}
use Rattle.aout_core.specs.{declared.symbol.Symbol.Symbol, declared.reloc.Reloc.Reloc, declared.reloc.Kind.Kind, Contents.Contents}
use Rattle.aout_core.specs.{Contents.IsWord, WellFormed.kind_of, WellFormed.is_pc_relative}
use Rattle.aout_core.specs.declared.reloc.Kind.TheVariants as kinds
use Rattle.link_session.specs.Sessions.{IsObject}
use Rattle.tool_options.specs.Choices.{Choices}
use Rattle.link_out.specs.Results.{Outcome}
use Rattle.laws.specs.{Instructions.KeepsLineAt, OperandWords.machine_value}
use Rattle.laws.specs.{relation.LinkedFrom.IsLinkedFrom, OperandPlaces.{addressing_of, kind_meant, HasOperand, IsOperand}}
use Rattle.instructions.specs.{Modes.counts_from_pc, declared.operation.Operation.Operation, declared.mode.Addressing.Addressing}
use Rattle.instructions.specs.{declared.operand.Operand.Operand, declared.instruction.Instruction.Instruction, Instructions.instruction_of}
use Rattle.instructions.specs.{Relocated.is_relocated, Alike.is_cut}
use Rattle.checks.specs.{declared.evidence.Evidence.Evidence, Trust.is_sure, Suspicions.suspicions, Suspicions.is_immediate}
use Rattle.checks.specs.SureLaw.{NoneIsSure}

-- what an operand word refers to: the kind of its relocation word. One that is not relocated is a distance within the text in modes 67 and
-- 77, and else a number
abbrev pub kind_said : Addressing → Reloc → Option Kind
kind_said a r = if is_relocated (Some r) then kind_of r else (if counts_from_pc a then Some kinds.TextSeg else Some kinds.Absolute)

-- word p of the text of k is the operand word of such an operand. In the program the operand is the address of the byte to which the
-- word refers in k (`HasOperand`), and that is a byte of what its relocation word refers to
pub record HasOperandSaid (os : List Contents) (o : Choices) (x : Outcome) (before : List Contents) (k : Contents)
    (operation : Operation) (a : Addressing) (p : ℕ) : Type 0 where
  pub operand : HasOperand os o x before k operation a p
  pub kind : Kind
  pub said : kind_said a operand.r ≡ Some kind
  pub meant : kind_meant a operand.r ≡ Some kind
  pub bit : is_relocated (Some operand.r) ≡ true → is_pc_relative operand.r ≡ counts_from_pc a
  -- a number is the same in the program
  pub number : kind ≡ kinds.Absolute →
      machine_value a (operand.address + 2) operand.word ≡ machine_value a (2 * p + 2) operand.w

-- word p of the text of k is not the `$N` of code that runs at any address: its pc bit is not set
abbrev pub IsNoDistance : Contents → Addressing → ℕ → Type 0
IsNoDistance k a p = (r : Reloc) → slice_get k.text_reloc p ≡ Some r → is_immediate a ≡ true → is_pc_relative r ≡ false

-- the instruction that begins with word i of the text of k is in the program, with these operands
pub record KeepsInstruction (o : Choices) (x : Outcome) (rows : List Symbol) (os before : List Contents) (k : Contents)
    (i w : ℕ) (following : List ℕ) (instruction : Instruction) : Type 0 where
  pub still : is_relocated (slice_get k.text_reloc i) ≡ false
  pub kept : KeepsLineAt x.file rows os before k i w following
  pub operands : (operand : Option Operand) (p : ℕ) → IsOperand instruction i operand p → (a : Addressing) →
      addressing_of operand ≡ Some a → IsNoDistance k a p →
      HasOperandSaid os o x before k instruction.row.operation a p

-- if nothing is suspicious for sure, so it is at each sure place, if an instruction begins there and is not cut
abbrev pub ReachedInstructionsAreKept : Type 0
ReachedInstructionsAreKept =
    (forced : List (List ℕ)) (before : List Contents) (k : Contents) (after : List Contents) (o : Choices) (x : Outcome) →
    AllByRecursion IsObject (before ++ k ∷ after) → AllByRecursion IsWord k.text_words → (e : Evidence) → NoneIsSure (suspicions e k) →
    (l : IsLinkedFrom forced (before ++ k ∷ after) o x) →
    (i : ℕ) → is_sure e k i ≡ true → (w : ℕ) (following : List ℕ) → drop i k.text_words ≡ w ∷ following →
    (instruction : Instruction) → instruction_of w ≡ Some instruction → is_cut (instruction_of w) following ≡ false →
    KeepsInstruction o x l.rows (before ++ k ∷ after) before k i w following instruction

-- an instruction begins with word i of the text of k, and is not cut
pub record BeginsInstruction (k : Contents) (i : ℕ) : Type 0 where
  pub w : ℕ
  pub following : List ℕ
  pub instruction : Instruction
  pub here : drop i k.text_words ≡ w ∷ following
  pub is : instruction_of w ≡ Some instruction
  pub whole : is_cut (instruction_of w) following ≡ false

-- and one begins at each sure place; the first word of a system call is one
abbrev pub SurePlacesBegin : Type 0
SurePlacesBegin =
    (e : Evidence) (k : Contents) → NoneIsSure (suspicions e k) → (i : ℕ) → is_sure e k i ≡ true → BeginsInstruction k i
