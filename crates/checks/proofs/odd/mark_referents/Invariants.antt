use Rattle.std.proofs.Common.{◌≡◌, ℕ, ◌<◌, ◌||◌, false, drop, length}
use Rattle.std.specs.{Prelude.get_or, List.list_any}
use Rattle.checks.specs.Odd.{refers_to}
use Rattle.checks.proofs.odd.mark_referents.Given as goal

-- what is marked, and what the words refer to that are left, is what all refer to
abbrev pub invariant-loop-reloc : goal.invariant-loop-reloc
invariant-loop-reloc l =
    (length l.used ≡ length l.initial.used)
    × ((i : ℕ) → i < length l.initial.used →
    (get_or l.used i false || list_any (refers_to i) (drop l.reloc-index l.relocs)) ≡ (get_or l.initial.used i false || list_any (refers_to i) l.relocs))
