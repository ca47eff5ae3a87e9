-- What the operands of the instructions of a linked program are. (ld(1), the handbook of the PDP-11/70)
--
-- An operand word of an object refers to a byte: one of a segment of its own object, or one so far beyond a name. In the program, by
-- the addressing that the first word has, the operand is the address of that byte. That is the effective address in modes 67 and 37,
-- the address of a pointer in mode 77, and a number in mode 27 and as an index. The machine looks in the space that the instruction
-- uses.
use Rattle.std.specs.Prelude.{◌≡◌, ◌≢◌, ℕ, ◌+◌, ◌*◌, ◌%◌, ◌<◌, ◌⊎◌, true, false, if◌then◌else◌, List, [], ◌∷◌, ◌++◌, drop, Option, Some}
use Rattle.std.specs.{Prelude.{None, Ok, slice_get}, List.AllByRecursion}
use Rattle.aout_core.specs.WellFormed.{kind_of, is_pc_relative, symbol_number}
use Rattle.aout_core.specs.{declared.symbol.Symbol.Symbol, declared.symbol.Segment.Segment, declared.symbol.Segment.TheVariants.TextSeg}
use Rattle.aout_core.specs.{declared.reloc.Reloc.Reloc, declared.reloc.Kind.Kind, Contents.Contents, Words.plus}
use Rattle.aout_core.specs.declared.reloc.Kind.TheVariants as kinds
use Rattle.link_session.specs.{Starts.size_of, Starts.own, Sessions.IsObject}
use Rattle.tool_options.specs.{declared.options.Keep.TheVariants.Nothing, Choices.Choices}
use Rattle.link_out.specs.{Results.Outcome, function.Link.link}
use Rattle.laws.specs.{relation.Relocated.entry_of, Core.{Space, of_instructions, is_in, IsWordAt}, CoreLaws.{IsPlace}}
use Rattle.laws.specs.{Operands.{operand, segment_meant, Defines, is_usable_in}, OperandWords.{machine_value, space_used}}
use Rattle.instructions.specs.{declared.operation.Operation.Operation, declared.mode.Addressing.Addressing}
use Rattle.instructions.specs.{declared.operand.Operand.TheVariants.General, declared.instruction.Instruction.Instruction}
use Rattle.instructions.specs.{declared.mode.Addressing.TheVariants.{Absolute, Relative}, declared.operand.Operand.Operand}
use Rattle.instructions.specs.{Modes.{addressing, counts_from_pc}, Instructions.{instruction_of, jumps, word_count_of}, Alike.is_cut}

-- how an operand uses its word, if it has one
abbrev pub addressing_of : Option Operand → Option Addressing
addressing_of (Some (General m r)) = addressing m r
addressing_of _ = None

-- a word that is not relocated is a distance within the text, if the machine adds the address after it
abbrev pub within_text : Option Kind → Option Kind
within_text (Some kinds.Absolute) = Some kinds.TextSeg
within_text _ = None

-- what an operand word refers to: the kind of its relocation word, if that has the pc bit in modes 67 and 77 alone; in these modes a word
-- that is not relocated is within the text
abbrev pub kind_meant : Addressing → Reloc → Option Kind
kind_meant a r =
    if counts_from_pc a then (if is_pc_relative r then kind_of r else within_text (kind_of r))
    else (if is_pc_relative r then None else kind_of r)

-- the number that a word of this kind gives in k is the address in k of byte n of a segment of k; for an absolute word it is n itself
pub record IsOwnByte (k : Contents) (kind : Option Kind) (number : ℕ) (to : Segment) (n : ℕ) : Type 0 where
  pub meant : Kind
  pub is : kind ≡ Some meant
  pub segment : segment_meant meant ≡ Some to
  pub byte : number ≡ (own k to + n) % 65536

-- the number is so many bytes beyond a name that c defines, and that is byte n of a segment of c
pub record IsNamedByte (k c : Contents) (kind : Option Kind) (r : Reloc) (number : ℕ) (to : Segment) (n : ℕ) : Type 0 where
  pub is : kind ≡ Some kinds.External
  pub symbol : Symbol
  pub named : slice_get k.symbols (symbol_number r) ≡ Some symbol
  pub start : ℕ
  pub defined : Defines c symbol.name to start
  pub byte : plus (own c to + start) number ≡ (own c to + n) % 65536

-- the number that a word gives in the program is the address of that byte there; if this space has that segment, the byte is loaded at
-- this address
pub record IsAddress (file : Contents) (os front : List Contents) (c : Contents) (to : Segment) (n : ℕ) (space : Space)
    (number : ℕ) : Type 0 where
  pub address : ℕ
  pub place : IsPlace file.header os front c to n address
  pub is : number ≡ address % 65536
  pub loaded : is_usable_in file.header.magic to space ≡ true → n < size_of to c → is_in file.header space to address ≡ true

-- a number is as far beyond the value of a name as it is beyond the name in k
pub record IsBeyondName (file k : Contents) (r : Reloc) (number in_k : ℕ) : Type 0 where
  pub symbol : Symbol
  pub row : Symbol
  pub named : slice_get k.symbols (symbol_number r) ≡ Some symbol
  pub found : entry_of file.symbols symbol.name ≡ Some row
  pub is : number ≡ plus row.value in_k

-- word i of the text of k is the operand word of an operand with this addressing. In the program the word at its place gives the
-- machine the address of the byte to which it refers in k, by its segment or by its name
pub record HasOperand (os : List Contents) (o : Choices) (x : Outcome) (before : List Contents) (k : Contents)
    (operation : Operation) (a : Addressing) (i : ℕ) : Type 0 where
  pub w : ℕ
  pub r : Reloc
  pub word_in : slice_get k.text_words i ≡ Some w
  pub reloc_in : slice_get k.text_reloc i ≡ Some r
  pub address : ℕ
  pub place : IsPlace x.file.header os before k TextSeg (2 * i) address
  pub word : ℕ
  pub is_there : IsWordAt x.file of_instructions address word
  pub segments : (to : Segment) (n : ℕ) → IsOwnByte k (kind_meant a r) (machine_value a (2 * i + 2) w) to n →
      IsAddress x.file os before k to n (space_used operation a) (machine_value a (address + 2) word)
  -- for a name, in a link without relocation that keeps symbols: as far beyond the value of the name's symbol as beyond the name in k
  pub values : o.keep ≢ Nothing → o.relocatable ≡ false → kind_meant a r ≡ Some kinds.External →
      IsBeyondName x.file k r (machine_value a (address + 2) word) (machine_value a (2 * i + 2) w)
  -- and if no name is multiply defined: the address of the byte so far beyond the definition, whichever object has it
  pub names : o.keep ≢ Nothing → x.report.multiples ≡ [] →
      (front : List Contents) (c : Contents) (back : List Contents) → os ≡ front ++ c ∷ back →
      (to : Segment) (n : ℕ) → IsNamedByte k c (kind_meant a r) r (machine_value a (2 * i + 2) w) to n →
      IsAddress x.file os front c to n (space_used operation a) (machine_value a (address + 2) word)

-- an operand of an instruction whose first word is word i, and the place of its operand word, if it has one
abbrev pub IsOperand : Instruction → ℕ → Option Operand → ℕ → Type 0
IsOperand instruction i operand p =
    ((operand ≡ instruction.first) × (p ≡ i + 1)) ⊎ ((operand ≡ instruction.second) × (p ≡ i + 1 + word_count_of instruction.first))

-- so is each operand that has a word, of each instruction in the text of k that is not cut; nothing is asked of any other word
abbrev pub OperandsAreThere : Type 0
OperandsAreThere = (forced : List (List ℕ)) (before : List Contents) (k : Contents) (after : List Contents) (o : Choices) (x : Outcome) →
    AllByRecursion IsObject (before ++ k ∷ after) → link forced (before ++ k ∷ after) o ≡ Ok x →
    (i w : ℕ) (following : List ℕ) → drop i k.text_words ≡ w ∷ following → (instruction : Instruction) →
    instruction_of w ≡ Some instruction →
    is_cut (instruction_of w) following ≡ false → (operand : Option Operand) (p : ℕ) →
    IsOperand instruction i operand p → (a : Addressing) → addressing_of operand ≡ Some a →
    HasOperand (before ++ k ∷ after) o x before k instruction.row.operation a p

-- modes 67 and 37, by which a jump or a call has the address that it goes to
abbrev pub IsDirect : Addressing → Type 0
IsDirect a = (a ≡ Relative) ⊎ (a ≡ Absolute)

-- a jump or a call of k whose operand word is word p, in the program
pub record JumpArrives (x : Outcome) (os before : List Contents) (k : Contents) (a : Addressing) (p : ℕ)
    (front : List Contents) (c : Contents) (to : Segment) (n : ℕ) : Type 0 where
  pub address : ℕ
  pub place : IsPlace x.file.header os before k TextSeg (2 * p) address
  pub word : ℕ
  pub is_there : IsWordAt x.file of_instructions address word
  pub arrives : IsAddress x.file os front c to n of_instructions (machine_value a (address + 2) word)

-- a jump or a call by one of these modes to a name reaches its definition, in the space of instructions
abbrev pub JumpsArrive : Type 0
JumpsArrive = (forced : List (List ℕ)) (before : List Contents) (k : Contents) (after : List Contents) (o : Choices) (x : Outcome) →
    AllByRecursion IsObject (before ++ k ∷ after) → o.keep ≢ Nothing → link forced (before ++ k ∷ after) o ≡ Ok x →
    x.report.multiples ≡ [] →
    (i w : ℕ) (following : List ℕ) → drop i k.text_words ≡ w ∷ following → (instruction : Instruction) → instruction_of w
    ≡ Some instruction → is_cut (instruction_of w) following ≡ false → jumps instruction.row.operation ≡ true →
    (operand : Option Operand) (p : ℕ) → IsOperand instruction i operand p → (a : Addressing) → addressing_of operand
    ≡ Some a → IsDirect a → (u : ℕ) (r : Reloc) → slice_get k.text_words p ≡ Some u → slice_get k.text_reloc p ≡ Some r →
    (front : List Contents) (c : Contents) (back : List Contents) → before ++ k ∷ after ≡ front ++ c ∷ back →
    (to : Segment) (n : ℕ) → IsNamedByte k c (kind_meant a r) r (machine_value a (2 * p + 2) u) to n →
    JumpArrives x (before ++ k ∷ after) before k a p front c to n
