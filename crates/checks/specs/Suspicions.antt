-- What is suspicious in the text of an object, if its words are instructions. (a.out(5), the handbook of the PDP-11/70; what is
-- suspicious: own choice)
--
-- No instruction begins with a word that is relocated, and an operand word that is relocated has the pc bit if and only if its operand
-- counts from the pc. Each line of the sweep and each place that is reached is checked for that, in the order of the places. Any line
-- that is not reached may be of data: there a relocated word counts if it would begin an instruction whose last word is an operand word
-- that is not relocated. At a place that is reached an instruction begins, and it ends within the text. A branch there leads into the
-- text or to its end, and not within an instruction.
--
-- What is found at a sure place is sure, except for the pc bit of `$N`, which code that runs at any address may have, as in
-- `add $_x-.,r0`. A relocated word is sure too after `jsr r5` with its high byte first, if it refers to csv.
use Rattle.std.specs.Prelude.{ℕ, ◌+◌, ◌-◌, ◌*◌, ◌/◌, Bool, true, false, not, ◌&&◌, ◌||◌, eqb, nat_lt, if◌then◌else◌, List, [], ◌∷◌, ◌++◌, slice_get}
use Rattle.std.specs.Prelude.{Option, Some, None}
use Rattle.aout_core.specs.{Contents.Contents, Encoding.relocation_at, WellFormed.is_pc_relative}
use Rattle.instructions.specs.{declared.mode.Addressing.Addressing, declared.mode.Addressing.TheVariants.Immediate}
use Rattle.instructions.specs.{declared.operand.Operand.Operand, declared.operand.Operand.TheVariants.General}
use Rattle.instructions.specs.{declared.unix.Decoder.TheVariants.Unix, declared.unix.UnixLine.UnixLine}
use Rattle.instructions.specs.{declared.instruction.Instruction.Instruction, declared.line.Line.TheVariants.{Plain, Decoded}}
use Rattle.instructions.specs.{declared.unix.UnixLine.TheVariants.{Machine, Call}, Modes.{addressing, counts_from_pc}}
use Rattle.instructions.specs.{Instructions.{instruction_of, word_count_of}, Lines.{line_at, line_length}, Relocated.is_relocated}
use Rattle.disassemblies.specs.{Lines.unix_line_in, Starts.starts, Starts.is_start}
use Rattle.checks.specs.declared.finding.FindingKind.TheVariants.{RelocatedFirstWord, UnsuitablePcBit, CutInstruction, NoInstruction}
use Rattle.checks.specs.{Found.{Found, found_as, found_by}, Odd.odd, Branches.{of_lines, word_place, suspicious_branch}}
use Rattle.checks.specs.{Addresses.suspicious_addresses, Referents.suspicious_references, Uses.suspicious_uses}
use Rattle.checks.specs.{declared.evidence.Evidence.Evidence, declared.trust.Trust.Trust, Reached.{branch_of, is_external_csv}, Trust.trust}

-- the byte of the file at which the relocation word of a word of text is
abbrev pub reloc_place : Contents → ℕ → ℕ
reloc_place c place = relocation_at c.header + 2 * place

-- without its relocation the word at a place would begin an instruction of so many words, the last of them an operand word that is not
-- relocated
abbrev pub begins_words : Contents → ℕ → ℕ → Bool
begins_words c place n = nat_lt 1 n && not (is_relocated (slice_get c.text_reloc (place + n - 1)))

abbrev pub may_begin : Contents → ℕ → Bool
may_begin c place = begins_words c place (line_length (line_at c.text_words place))

-- the pc bit does not suit the mode
abbrev pub differ : Bool → Bool → Bool
differ true b = not b
differ false b = b

-- the operand is the word itself
abbrev pub is_immediate : Addressing → Bool
is_immediate Immediate = true
is_immediate _ = false

-- the operand whose word, if it has one, is at a place
abbrev pub suspicious_operand : Contents → Bool → ℕ → Option Operand → List Found
suspicious_operand c is_sure place (Some (General m r)) =
    found_by (addressing m r) (λ a. found_by (slice_get c.text_reloc place) (λ reloc.
    found_as (is_sure && not (is_immediate a)) (is_relocated (Some reloc) && differ (is_pc_relative reloc) (counts_from_pc a))
    (reloc_place c place) UnsuitablePcBit))
suspicious_operand c is_sure place _ = []

-- a word that begins no line of more words, by the instruction that it would begin
abbrev pub suspicious_lack : Bool → ℕ → Option Instruction → List Found
suspicious_lack is_sure place None = found_as is_sure true (word_place place) NoInstruction
suspicious_lack is_sure place (Some i) = found_as is_sure true (word_place place) CutInstruction

abbrev pub is_exchanged_call : Option ℕ → Bool
is_exchanged_call None = false
is_exchanged_call (Some w) = eqb w 0o73411

-- a word refers to csv, and the word before it is that of `jsr r5` with its high byte first
abbrev pub is_exchanged : Contents → ℕ → Bool
is_exchanged c place =
    nat_lt 0 place && (is_exchanged_call (slice_get c.text_words (place - 1)) && is_external_csv c (slice_get c.text_reloc place))

-- a plain word at a place
abbrev pub suspicious_plain : Contents → Trust → ℕ → ℕ → List Found
suspicious_plain c t place w =
    if is_relocated (slice_get c.text_reloc place)
    then found_as (t.is_sure || is_exchanged c place) (t.is_reached || may_begin c place) (reloc_place c place) RelocatedFirstWord
    else (if t.is_reached then suspicious_lack t.is_sure place (instruction_of w) else [])

-- the line at a place, by the evidence of the lines that a branch may enter
abbrev pub suspicious_line : Evidence → Contents → Trust → ℕ → UnixLine → List Found
suspicious_line e c t place (Machine (Plain w)) = suspicious_plain c t place w
suspicious_line e c t place (Machine (Decoded i a b)) =
    (suspicious_operand c t.is_sure (place + 1) i.first
    ++ suspicious_operand c t.is_sure (place + 1 + word_count_of i.first) i.second)
    ++ (suspicious_branch e c t place (branch_of (2 * place) i.first) ++ suspicious_branch e c t place (branch_of (2 * place) i.second))
suspicious_line e c t place (Call k) = []

abbrev pub suspicious_at : Evidence → Contents → Trust → ℕ → List Found
suspicious_at e c t place =
    suspicious_line e c t place (unix_line_in Unix c place)
    ++ (suspicious_references e c t place (unix_line_in Unix c place) ++ suspicious_uses c t place (unix_line_in Unix c place))

-- what is suspicious at a place, if it is reached or begins a line
abbrev pub suspicious_place : Evidence → Contents → ℕ → List Found
suspicious_place e c place =
    if (trust e c place).is_reached || is_start (starts Unix c) place then suspicious_at (of_lines e) c (trust e c place) place else []

-- from a place on, which has these words
abbrev pub suspicious_words : Evidence → Contents → ℕ → List ℕ → List Found
suspicious_words e c place [] = []
suspicious_words e c place (w ∷ ws) = suspicious_place e c place ++ suspicious_words e c (place + 1) ws

-- all that is suspicious; the evidence says which places are sure
abbrev pub suspicions : Evidence → Contents → List Found
suspicions e c = suspicious_words e c 0 c.text_words ++ suspicious_addresses e c

-- with what else is odd in a file that these bytes begin with: the commons of odd sizes too, or not
abbrev pub all_odd : Evidence → Bool → List ℕ → Contents → List Found
all_odd e commons bytes c = odd commons bytes c ++ suspicions e c
