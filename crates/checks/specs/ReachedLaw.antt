-- What it means that a place is reached, without how it is found.
use Rattle.std.specs.{Prelude.{◌≡◌, ℕ, ◌/◌, ◌%◌, ◌<◌, Bool, true, false, ◌&&◌, ◌↔◌, eqb, length, Option, Some, None}, List.list_any}
use Rattle.aout_core.specs.Contents.{Contents}
use Rattle.checks.specs.{declared.evidence.Evidence.Evidence, Reached.leads_to, Reached.evident, Reached.is_reached}

abbrev pub is_place : ℕ → Option ℕ → Bool
is_place place None = false
is_place place (Some address) = eqb (address % 2) 0 && eqb (address / 2) place

-- a place of the text is reached if there is evidence of it, or if the line at a place that is reached leads to it
pub data IsReached (e : Evidence) (c : Contents) : ℕ → Type 0 where
  Evident : (place : ℕ) → place < length c.text_words → list_any (is_place place) (evident e c) ≡ true → IsReached e c place
  Led : (from place : ℕ) → IsReached e c from → place < length c.text_words →
      list_any (is_place place) (leads_to e c from) ≡ true → IsReached e c place

-- these places are found, and no others
abbrev pub ReachedLaw : Type 0
ReachedLaw = (e : Evidence) (c : Contents) (place : ℕ) → (is_reached e c place ≡ true) ↔ IsReached e c place
