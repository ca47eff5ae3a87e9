use Rattle.std.proofs.Common.{◌≡◌, ℕ, List, ◌++◌, false}
use Rattle.texts.specs.Lines.{text_of}
use Rattle.listings.specs.Listing.{AreSkipped}
use Rattle.listings.proofs.said.put_notes.Given as goal

abbrev pub invariant-loop-note : goal.invariant-loop-note
invariant-loop-note l =
    l.text.is_cut ≡ false → (l.initial.text.is_cut ≡ false)
    × ((ls : List (List ℕ)) × AreSkipped ls × (l.text.bytes ≡ l.initial.text.bytes ++ text_of ls))
