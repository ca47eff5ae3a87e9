-- What the word of an operand refers to, and what is wrong with that. (a.out(5), the handbook of the PDP-11/70; what is suspicious: own
-- choice)
--
-- A word that counts from the pc and is not relocated keeps its distance to a place of its own text, so it refers to nothing else. One of
-- kind absolute with the pc bit refers to a fixed address, so not to data or bss, which move. A jump or a call leads to an even
-- address in text, or to an external, and not into a common or beyond an external. Memory of a common lies within its size. By the promise
-- no memory that is read or written lies in text.
--
-- Where the line is sure, so is what is wrong, with four exceptions. A number may be the address of a symbol of data or bss by accident. An
-- address below 001000 may be that of a vector. A function may be entered beyond its first instruction, as by `jsr pc,_f+4`, but not at an
-- odd address. Code in data or in a common may be called; by the promise there is none.
use Rattle.std.specs.Prelude.{ℕ, ◌+◌, ◌*◌, ◌%◌, Bool, true, false, not, ◌&&◌, ◌||◌, eqb, nat_le, nat_lt, if◌then◌else◌, List, [], ◌++◌}
use Rattle.std.specs.{Prelude.{length, slice_get, Option, Some, None}, List.list_any}
use Rattle.aout_core.specs.{declared.header.Header.Header, declared.symbol.Symbol.Symbol, declared.reloc.Reloc.Reloc}
use Rattle.aout_core.specs.{declared.symbol.Segment.TheVariants.DataSeg, declared.symbol.Segment.TheVariants.BssSeg}
use Rattle.aout_core.specs.{declared.reloc.Kind.Kind, Contents.Contents, Words.plus, Addresses.data_start_in}
use Rattle.aout_core.specs.WellFormed.{kind_of, is_pc_relative, symbol_number, is_undefined, masked_type, segment_number}
use Rattle.aout_core.specs.declared.reloc.Kind.TheVariants as kinds
use Rattle.instructions.specs.{declared.mode.Addressing.Addressing}
use Rattle.instructions.specs.{declared.operand.Operand.Operand, declared.operand.Operand.TheVariants.General}
use Rattle.instructions.specs.{declared.line.Line.TheVariants.Decoded, declared.unix.UnixLine.UnixLine}
use Rattle.instructions.specs.{declared.unix.UnixLine.TheVariants.Machine, Modes.addressing, Modes.counts_from_pc}
use Rattle.instructions.specs.{Instructions.jumps, Instructions.word_count_of, Relocated.is_relocated, Targets.number}
use Rattle.instructions.specs.declared.mode.Addressing.TheVariants as ways
use Rattle.checks.specs.declared.referent.Referent.TheVariants.{Nothing, Number, Near, Fixed, InText, InData, External}
use Rattle.checks.specs.declared.referent.Access.TheVariants.{Goes, Touches, Neither}
use Rattle.checks.specs.declared.referent.Mismatch.TheVariants.{Unmarked, Unrelocated, Absolute, Beyond, CommonCalled, Outgrown, OddPlace}
use Rattle.checks.specs.declared.referent.Mismatch.TheVariants.{DataCalled, TextTouched}
use Rattle.checks.specs.{declared.referent.Referent.Referent, declared.referent.Access.Access, declared.referent.Mismatch.Mismatch}
use Rattle.checks.specs.{declared.evidence.Evidence.Evidence, declared.trust.Trust.Trust, Reached.is_promised}
use Rattle.checks.specs.Branches.{word_place}
use Rattle.checks.specs.{declared.finding.FindingKind.TheVariants.UnsuitableReference, Found.{Found, found_as, found_by}, Segments.bss_to}

-- what a number refers to, by the kind of its relocation word
abbrev pub referent_of : Reloc → ℕ → Option Kind → Referent
referent_of r n (Some kinds.Absolute) = Fixed n
referent_of r n (Some kinds.TextSeg) = InText n
referent_of r n (Some kinds.DataSeg) = InData n
referent_of r n (Some kinds.BssSeg) = InData n
referent_of r n (Some kinds.External) = External (symbol_number r) n
referent_of r n None = Nothing

-- what a word with this relocation word refers to, which counts from the pc, or does not; next is the address after it. Of one with an
-- unsuitable pc bit nothing is known
abbrev pub referred : Bool → Reloc → ℕ → ℕ → Referent
referred true r next word =
    if not (is_relocated (Some r)) then Near (plus word next)
    else (if is_pc_relative r then referent_of r (plus word next) (kind_of r) else Nothing)
referred false r next word =
    if not (is_relocated (Some r)) then Number word
    else (if is_pc_relative r then Nothing else referent_of r word (kind_of r))

-- what an instruction does with what the word refers to: it goes there, or there is memory that it reads or writes
abbrev pub access_by : Bool → Addressing → Access
access_by jumps ways.Relative = if jumps then Goes else Touches
access_by jumps ways.Absolute = if jumps then Goes else Touches
access_by jumps ways.RelativeDeferred = Touches
access_by jumps _ = Neither

abbrev pub goes : Access → Bool
goes Goes = true
goes _ = false

-- an address after the text; one may go to its end, where another text follows, but memory there is data or bss, if there is any
abbrev pub is_after_text : Contents → Access → ℕ → Bool
is_after_text c access n =
    nat_lt (2 * length c.text_words) n
    || (not (goes access) && (eqb (2 * length c.text_words) n && nat_lt n (bss_to c.header)))

-- an address of data or bss
abbrev pub is_storage : Header → ℕ → Bool
is_storage h n = nat_le (data_start_in h) n && nat_lt n (bss_to h)

-- a symbol of data or bss has an address
abbrev pub is_stored_at : ℕ → Symbol → Bool
is_stored_at n s = (eqb (masked_type s) (segment_number DataSeg) || eqb (masked_type s) (segment_number BssSeg)) && eqb s.value n

-- the bytes of an undefined external, which is a common if it has any
abbrev pub common_size : Option Symbol → ℕ
common_size None = 0
common_size (Some s) = if is_undefined s then s.value else 0

-- a place in text, or one from there at a distance that no link changes; by the promise text has only instructions
abbrev pub wrong_place : Contents → Bool → Access → ℕ → Option Mismatch
wrong_place c promised Goes n = if eqb (n % 2) 1 then Some (OddPlace n) else None
wrong_place c promised Touches n = if promised && nat_lt n (2 * length c.text_words) then Some (TextTouched n) else None
wrong_place c promised Neither n = None

-- n bytes beyond an external of so many bytes
abbrev pub wrong_external : Access → ℕ → ℕ → Option Mismatch
wrong_external Goes n size = if eqb size 0 then (if eqb n 0 then None else Some (Beyond n)) else Some (CommonCalled size)
wrong_external Touches n size = if not (eqb size 0) && nat_le size n then Some (Outgrown n) else None
wrong_external Neither n size = None

-- what is wrong with what a word refers to
abbrev pub mismatch_of : Contents → Bool → Access → Referent → Option Mismatch
mismatch_of c promised access Nothing = None
mismatch_of c promised access (Number n) =
    if is_storage c.header n && list_any (is_stored_at n) c.symbols then Some (Unmarked n) else None
mismatch_of c promised access (Near n) = if is_after_text c access n then Some (Unrelocated n) else wrong_place c promised access n
mismatch_of c promised access (Fixed n) = if is_storage c.header n then Some (Absolute n) else None
mismatch_of c promised access (InText n) = wrong_place c promised access n
mismatch_of c promised access (InData n) = if goes access then Some (DataCalled n) else None
mismatch_of c promised access (External k n) = wrong_external access n (common_size (slice_get c.symbols k))

-- it is sure if the line is, by the promise or without it
abbrev pub is_certain : Bool → Mismatch → Bool
is_certain promised (Unmarked n) = false
is_certain promised (Absolute n) = nat_le 0o1000 n
is_certain promised (Beyond n) = eqb (n % 2) 1
is_certain promised (CommonCalled n) = promised
is_certain promised (DataCalled n) = promised
is_certain promised _ = true

-- the operand that has this word at a place
abbrev pub suspicious_reference : Evidence → Contents → Trust → ℕ → Bool → Option Operand → ℕ → List Found
suspicious_reference e c t place jumps (Some (General m r)) word =
    found_by (addressing m r) (λ a. found_by (slice_get c.text_reloc place) (λ reloc.
    found_by (mismatch_of c (is_promised e) (access_by jumps a) (referred (counts_from_pc a) reloc (2 * place + 2) word)) (λ wrong.
    found_as (t.is_sure && is_certain (is_promised e) wrong) true (word_place place) UnsuitableReference)))
suspicious_reference e c t place jumps _ word = []

-- both operands of the line at a place, if it is reached
abbrev pub suspicious_references : Evidence → Contents → Trust → ℕ → UnixLine → List Found
suspicious_references e c t place (Machine (Decoded i a b)) =
    if t.is_reached then
    suspicious_reference e c t (place + 1) (jumps i.row.operation) i.first (number a)
    ++ suspicious_reference e c t (place + 1 + word_count_of i.first) (jumps i.row.operation) i.second (number b)
    else []
suspicious_references e c t place line = []
