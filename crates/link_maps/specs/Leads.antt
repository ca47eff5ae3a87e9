-- Where the words of an object lead, and the words that lead to a symbol. (a.out(5), as(1))
--
-- A word that a link relocates leads to the symbol whose number its relocation word has, or to an address in the segment that its relocation
-- word names. A word of text that no link changes leads to an address of text if it is a branch, or the word of an operand that counts from
-- the pc. A word leads to a symbol by its number, or if the symbol is at that address of that segment.
--
-- A word that leads beyond a label of text, data or bss may reach what the label names, as `_arr+2` does. It may as well belong to a label
-- between them that the assembler dropped. A word of text does not count for the function that it is in.
use Rattle.std.specs.Prelude.{ℕ, ◌-◌, ◌*◌, ◌/◌, Bool, false, ◌&&◌, ◌||◌, eqb, if◌then◌else◌, List, [], ◌∷◌, ◌++◌, Option, Some, None, slice_get}
use Rattle.std.specs.List.{flat_map}
use Rattle.aout_core.specs.{WellFormed.{first_of, kind_of, symbol_number}, declared.symbol.Symbol.Symbol, declared.symbol.Segment.Segment}
use Rattle.aout_core.specs.{declared.symbol.Segment.TheVariants.{TextSeg, DataSeg, BssSeg}, declared.reloc.Reloc.Reloc}
use Rattle.aout_core.specs.{declared.reloc.Kind.Kind, Addresses.{pc_target, target}, Contents.Contents, declared.part.Part.Part}
use Rattle.aout_core.specs.{Placed.placed_words, declared.placed.PlacedWord.PlacedWord, declared.part.Part.TheVariants.{Text, Data}}
use Rattle.aout_core.specs.declared.reloc.Kind.TheVariants as kinds
use Rattle.instructions.specs.{declared.mode.Addressing.Addressing, declared.operand.Operand.Operand}
use Rattle.instructions.specs.declared.operand.Operand.TheVariants.{General, Forward, Backward}
use Rattle.instructions.specs.{declared.instruction.Instruction.Instruction, Instructions.instruction_of, Modes.addressing, Modes.counts_from_pc}
use Rattle.instructions.specs.{Operands.takes_word, Relocated.is_relocated, Targets.branch_target, Targets.branch_back_target}
use Rattle.disassemblies.specs.Naming.{is_at}
use Rattle.link_maps.specs.{declared.leads.Aim.Aim, declared.leads.Lead.Lead, declared.references.ReferringWord.ReferringWord}
use Rattle.link_maps.specs.declared.leads.Aim.TheVariants.{Numbered, Addressed}
use Rattle.instructions.specs.declared.reference.Reference.{Reference}
use Rattle.link_maps.specs.References.{address_in, label_before, line_of, reference_at}

-- ---- words that a link relocates

-- where a word with this relocation word leads, if it refers to this address
abbrev pub aim_by : Option Kind → Reloc → ℕ → Option Aim
aim_by (Some kinds.External) r address = Some (Numbered (symbol_number r))
aim_by (Some kinds.TextSeg) r address = Some (Addressed TextSeg address)
aim_by (Some kinds.DataSeg) r address = Some (Addressed DataSeg address)
aim_by (Some kinds.BssSeg) r address = Some (Addressed BssSeg address)
aim_by _ r address = None

-- ---- words of text that no link changes

-- where an instruction at an address branches by an operand
abbrev pub branch_by : ℕ → Option Operand → Option ℕ
branch_by address (Some (Forward v)) = Some (branch_target address v)
branch_by address (Some (Backward v)) = Some (branch_back_target address v)
branch_by address _ = None

abbrev pub branch_of : ℕ → Instruction → Option ℕ
branch_of address i = first_of (branch_by address i.first) (branch_by address i.second)

-- the operand that has the word so many words after the first of an instruction
abbrev pub operand_at : Instruction → ℕ → Option Operand
operand_at i count = if takes_word i.first && eqb count 1 then i.first else i.second

abbrev pub is_from_pc_by : Option Addressing → Bool
is_from_pc_by None = false
is_from_pc_by (Some a) = counts_from_pc a

abbrev pub is_from_pc : Option Operand → Bool
is_from_pc (Some (General m register)) = is_from_pc_by (addressing m register)
is_from_pc _ = false

abbrev pub operand_target : Option Operand → ℕ → ℕ → Option ℕ
operand_target x w address = if is_from_pc x then Some (pc_target w address) else None

-- where the word at an address leads, in an instruction that begins at `line`
abbrev pub target_in : Option Instruction → ℕ → ℕ → ℕ → Option ℕ
target_in None line address w = None
target_in (Some i) line address w =
    if eqb line address then branch_of address i else operand_target (operand_at i ((address - line) / 2)) w address

abbrev pub instruction_by : Option ℕ → Option Instruction
instruction_by None = None
instruction_by (Some w) = instruction_of w

abbrev pub text_target : Contents → ℕ → ℕ → ℕ → Option ℕ
text_target o line offset w = target_in (instruction_by (slice_get o.text_words (line / 2))) line offset w

abbrev pub text_aim : Option ℕ → Option Aim
text_aim None = None
text_aim (Some address) = Some (Addressed TextSeg address)

abbrev pub unmoved_aim : List Bool → Contents → Part → ℕ → ℕ → Option Aim
unmoved_aim starts o Text offset w = text_aim (text_target o (line_of starts Text offset) offset w)
unmoved_aim starts o Data offset w = None

-- ---- all words

-- where the word so many bytes after the first of a part leads; nowhere if its relocation word was stripped
abbrev pub aim_of : List Bool → Contents → Part → ℕ → Option Reloc → ℕ → Option Aim
aim_of starts o part offset None w = None
aim_of starts o part offset (Some r) w =
    if is_relocated (Some r) then aim_by (kind_of r) r (target r w (address_in o part offset)) else unmoved_aim starts o part offset w

abbrev pub aim_at : List Bool → Contents → PlacedWord → Option Aim
aim_at starts o at = aim_of starts o at.part (2 * at.number) at.reloc at.word

abbrev pub lead_by : Part → ℕ → Option Aim → List Lead
lead_by part offset None = []
lead_by part offset (Some aim) = record { part = part; offset = offset; aim = aim; inside = 0 } ∷ []

abbrev pub lead_at : List Bool → Contents → PlacedWord → List Lead
lead_at starts o at = lead_by at.part (2 * at.number) (aim_at starts o at)

-- those of the words of a part that lead somewhere
abbrev pub leads_of : List Bool → Contents → Part → List Lead
leads_of starts o part = flat_map (lead_at starts o) (placed_words o part)

-- those of text, and then those of data
abbrev pub leads : List Bool → Contents → List Lead
leads starts o = leads_of starts o Text ++ leads_of starts o Data

-- ---- the words that lead to a symbol

-- to the symbol of this number
abbrev pub leads_to : Aim → ℕ → Symbol → Bool
leads_to (Numbered n) number s = eqb n number
leads_to (Addressed segment address) number s = is_at segment address s

abbrev pub reference_if : List Bool → Contents → ℕ → Symbol → Lead → List ReferringWord
reference_if starts o number s l = if leads_to l.aim number s then reference_at starts o l.part l.offset l.inside ∷ [] else []

abbrev pub references_to : List Bool → Contents → ℕ → Symbol → List ReferringWord
references_to starts o number s = flat_map (reference_if starts o number s) (leads starts o)

-- ---- the words that may reach what a symbol names

-- the label before an address is at `start`
abbrev pub begins_at : Option Reference → ℕ → ℕ → Bool
begins_at None address start = false
begins_at (Some b) address start = eqb (address - b.offset) start

-- a word of text is itself in what begins at this address of text
abbrev pub is_own : List Symbol → Part → ℕ → Segment → ℕ → Bool
is_own symbols Text offset TextSeg start = begins_at (label_before symbols TextSeg offset) offset start
is_own symbols _ offset _ start = false

abbrev pub near_by : List Symbol → Lead → Segment → ℕ → Option Reference → Option Lead
near_by symbols l segment address None = None
near_by symbols l segment address (Some b) =
    if eqb b.offset 0 || is_own symbols l.part l.offset segment (address - b.offset) then None
    else Some (record { part = l.part; offset = l.offset; aim = Addressed segment (address - b.offset); inside = b.offset })

-- a word that leads beyond a label, as one that leads to the label
abbrev pub near_of : List Symbol → Aim → Lead → Option Lead
near_of symbols (Numbered n) l = None
near_of symbols (Addressed segment address) l = near_by symbols l segment address (label_before symbols segment address)

abbrev pub if_any : Option Lead → List Lead
if_any None = []
if_any (Some l) = l ∷ []

abbrev pub near_among : List Symbol → List Lead → List Lead
near_among symbols ls = flat_map (λ l. if_any (near_of symbols l.aim l)) ls

abbrev pub near_leads : List Bool → Contents → List Lead
near_leads starts o = near_among o.symbols (leads starts o)

abbrev pub near_to : List Bool → Contents → ℕ → Symbol → List ReferringWord
near_to starts o number s = flat_map (reference_if starts o number s) (near_leads starts o)
