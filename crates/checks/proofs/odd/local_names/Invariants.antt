use Rattle.std.proofs.Common.{◌≡◌, ℕ, List, take}
use Rattle.std.specs.{BTreeMap.get, Cmp.Lexicographic.slice_cmp, Ordering.nat_cmp}
use Rattle.checks.specs.Odd.{first_named, is_placed_local}
use Rattle.checks.proofs.odd.local_names.Given as goal

-- the names of the symbols so far are noted
abbrev pub invariant-loop-number : goal.invariant-loop-number
invariant-loop-number l =
    (name : List ℕ) → get (slice_cmp nat_cmp) l.locals name ≡ first_named is_placed_local name (take l.number l.symbols)
