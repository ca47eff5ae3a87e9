-- What is suspicious of an instruction by itself, at a place that is reached. (the handbook of the PDP-11/70; what is suspicious: own choice)
--
-- `jmp` and `jsr` lead to memory: not to a register, nor to `$N`, which is their own word. A word of memory has an even address: that of
-- `A` and `*$A` is, but for an external, which may lie at an odd one, and of `N(r5)` and `N(sp)`, since both registers are even. Both are as
-- sure as the line. An instruction that goes on at the end of a text is never sure: the next object's text may follow. The csv of C returns by
-- r5, but another csv may not, so a call of it with another link is never sure.
use Rattle.std.specs.Prelude.{ℕ, ◌+◌, ◌/◌, ◌%◌, Bool, false, not, ◌&&◌, ◌||◌, eqb, if◌then◌else◌, List, [], ◌++◌, length, slice_get}
use Rattle.std.specs.Prelude.{slice_index, Option, Some, None}
use Rattle.aout_core.specs.{declared.reloc.Reloc.Reloc, Contents.Contents}
use Rattle.instructions.specs.{declared.mode.Addressing.Addressing, declared.mode.Register.Register}
use Rattle.instructions.specs.{declared.operand.Operand.TheVariants.General, declared.line.Line.TheVariants.Decoded}
use Rattle.instructions.specs.{declared.unix.UnixLine.UnixLine, declared.unix.UnixLine.TheVariants.Machine, Modes.addressing}
use Rattle.instructions.specs.{declared.mode.Register.TheVariants.{R5, Sp}, declared.operand.Operand.Operand}
use Rattle.instructions.specs.{Instructions.{jumps, word_count_of}, Targets.number, UnixLines.unix_length}
use Rattle.instructions.specs.declared.mode.Addressing.TheVariants as ways
use Rattle.checks.specs.{declared.trust.Trust.Trust, Branches.word_place, Reached.{flows, is_external_csv}}
use Rattle.checks.specs.{declared.finding.FindingKind.TheVariants.{UnsuitableJump, UnsuitableLink, OddOperand, NoEnd}, Found.{Found, found_as}}

-- the destination of this word of `jmp` or `jsr` is a register, or `$N`
abbrev pub leads_nowhere : ℕ → Bool
leads_nowhere w = eqb (w / 8 % 8) 0 || eqb (w % 64) 0o27

-- this word of `jsr` has another link than r5, and an operand of mode 67
abbrev pub has_other_link : ℕ → Bool
has_other_link w = eqb (w / 0o1000) 4 && (eqb (w % 64) 0o67 && not (eqb w 0o4567))

-- the operands in memory are words: no bytes, and no numbers of floating point
abbrev pub has_words : ℕ → Bool
has_words w = eqb (w / 0o100000) 0 || eqb (w / 0o10000) 0o16

-- an operand word with this relocation word is a number that is added to an even address, or an address of a segment
abbrev pub counts_from_even : Option Addressing → Register → Reloc → Bool
counts_from_even (Some ways.Indexed) R5 r = eqb (r.0 % 0o20) 0
counts_from_even (Some ways.Indexed) Sp r = eqb (r.0 % 0o20) 0
counts_from_even (Some ways.Relative) _ r = not (eqb (r.0 / 2 % 8) 4)
counts_from_even (Some ways.Absolute) _ r = not (eqb (r.0 / 2 % 8) 4)
counts_from_even _ _ r = false

abbrev pub is_odd : Option Addressing → Register → ℕ → Option Reloc → Bool
is_odd a register word None = false
is_odd a register word (Some r) = eqb (word % 2) 1 && counts_from_even a register r

-- the operand that has this word at a place
abbrev pub odd_operand : Contents → Trust → ℕ → Option Operand → ℕ → List Found
odd_operand c t place (Some (General m r)) word =
    found_as t.is_sure (is_odd (addressing m r) r word (slice_get c.text_reloc place)) (word_place place) OddOperand
odd_operand c t place _ word = []

-- a jump or a call at a place that has this first word
abbrev pub suspicious_jump : Contents → Trust → ℕ → ℕ → List Found
suspicious_jump c t place first =
    found_as t.is_sure (leads_nowhere first) (word_place place) UnsuitableJump
    ++ found_as false (has_other_link first && is_external_csv c (slice_get c.text_reloc (place + 1)))
    (word_place place) UnsuitableLink

abbrev pub suspicious_uses : Contents → Trust → ℕ → UnixLine → List Found
suspicious_uses c t place (Machine (Decoded i a b)) =
    if t.is_reached then
    (if jumps i.row.operation then suspicious_jump c t place (slice_index c.text_words place)
    else (if has_words (slice_index c.text_words place)
    then odd_operand c t (place + 1) i.first (number a) ++ odd_operand c t (place + 1 + word_count_of i.first) i.second (number b) else [])
    ++ found_as false (eqb (place + unix_length (Machine (Decoded i a b))) (length c.text_words) && flows c place i) (word_place place) NoEnd)
    else []
suspicious_uses c t place line = []
