-- What contracts see of a text: its bytes. As long as it is not cut, they are all that was put.
use Rattle.std.specs.Prelude.{◌≡◌, ℕ, Bool, false, List, [], ◌++◌}

-- once memory ran out the text is cut, and nothing is known of its bytes
pub record Written : Type 0 where
  pub bytes : List ℕ
  pub is_cut : Bool

abbrev pub nothing_written : Written
nothing_written = record { bytes = []; is_cut = false }

-- these bytes were put at the end of a text, unless it is cut now; a text that was cut stays cut
abbrev pub Puts : Written → Written → List ℕ → Type 0
Puts old new bytes = new.is_cut ≡ false → (old.is_cut ≡ false) × (new.bytes ≡ old.bytes ++ bytes)
