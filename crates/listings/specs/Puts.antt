-- What is put at the end of a text, of which only its form is known; unless the text is cut now.
use Rattle.std.specs.Prelude.{◌≡◌, ℕ, false, List, ◌++◌}
use Rattle.texts.specs.{Lines.text_of, Texts.Written}
use Rattle.listings.specs.Listing.{IsRemark, remarked}

-- bytes
abbrev pub PutsSuch : (List ℕ → Type 0) → Written → Written → Type 0
PutsSuch Are old new = new.is_cut ≡ false → (old.is_cut ≡ false) × ((bytes : List ℕ) × Are bytes × (new.bytes ≡ old.bytes ++ bytes))

-- lines
abbrev pub PutsLines : (List (List ℕ) → Type 0) → Written → Written → Type 0
PutsLines Are old new = new.is_cut ≡ false → (old.is_cut ≡ false) × ((ls : List (List ℕ)) × Are ls × (new.bytes ≡ old.bytes ++ text_of ls))

-- a remark with what stands before it, in front of which there is something that depends on it
abbrev pub IsRemarked : List ℕ → Type 0
IsRemarked bytes = (said : List ℕ) × IsRemark said × (bytes ≡ remarked said)
