use Rattle.std.proofs.Common.{◌≡◌, ℕ, List, ◌++◌, false}
use Rattle.listings.specs.Listing.{IsLine}
use Rattle.listings.proofs.said.put_printed.Given as goal

abbrev pub invariant-loop-byte : goal.invariant-loop-byte
invariant-loop-byte l =
    l.text.is_cut ≡ false → (l.initial.text.is_cut ≡ false)
    × ((bytes : List ℕ) × IsLine bytes × (l.text.bytes ≡ l.initial.text.bytes ++ bytes))
