-- What contracts see of a wire, its device and its latch, and what a write to it does.
--
-- A wire is a reader or a writer with a latch that goes on when the device fails, and stays on. What a writer holds is a list of
-- bytes if it is known (`Some`), and writing appends to it: all of the bytes, or on a fault a prefix of them.
use Rattle.std.specs.{Prelude.{◌≡◌, ℕ, List, [], ◌++◌, ◌↔◌, Bool, false, Option, Result, IsErr, IsTrue, MatchResult}, Io.KnownBytes.Appends}

-- a device, and whether it has failed
pub record Latched (D : Type 0) : Type 0 where
  pub device : D
  pub has_failed : Bool

-- a prefix of the bytes went out
abbrev pub AppendsPrefix : Option (List ℕ) → Option (List ℕ) → List ℕ → Type 0
AppendsPrefix old new bytes = (sent : List ℕ) × (rest : List ℕ) × (bytes ≡ sent ++ rest) × Appends old new sent

-- all the bytes went out, or on a fault a prefix of them
abbrev pub Puts : {T E : Type 0} → Result T E → Option (List ℕ) → Option (List ℕ) → List ℕ → Type 0
Puts result old new bytes = MatchResult result (λ _. Appends old new bytes) (λ _. AppendsPrefix old new bytes)

-- a write of the bytes `text` to a wire whose device holds its `contents`: all of them go out, or on a fault a prefix of
-- them. It is a fault if and only if the latch is on afterwards. A wire whose latch was on is left as it was
pub record Writes {W T E : Type 0} (contents : W → Option (List ℕ)) (result : Result T E) (old new : Latched W)
    (text : List ℕ) : Type 0 where
  pub fault : IsErr result ↔ IsTrue new.has_failed
  pub latched : IsTrue old.has_failed → (new ≡ old)
  pub bytes : Puts result (contents old.device) (contents new.device) text

-- nothing waits on a wire that has not failed
abbrev pub IsPassedOn : {W : Type 0} → (W → List ℕ) → Latched W → Type 0
IsPassedOn waiting wire = wire.has_failed ≡ false → waiting wire.device ≡ []
