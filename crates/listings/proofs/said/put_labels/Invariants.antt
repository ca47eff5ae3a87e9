use Rattle.std.proofs.Common.{◌≡◌, ℕ, List, ◌++◌, false, length}
use Rattle.texts.specs.Lines.{text_of}
use Rattle.listings.specs.Listing.{AreSkipped}
use Rattle.listings.proofs.said.put_labels.Given as goal

abbrev pub invariant-loop-rest : goal.invariant-loop-rest
invariant-loop-rest l =
    l.text.is_cut ≡ false → (l.initial.text.is_cut ≡ false)
    × ((ls : List (List ℕ)) × AreSkipped ls × (l.text.bytes ≡ l.initial.text.bytes ++ text_of ls))

abbrev pub decreases-loop-rest : goal.decreases-loop-rest
decreases-loop-rest l = length l.rest
