-- What a writer holds after a text was written to it: all of the text, or if it failed a prefix.
use Rattle.std.specs.{Prelude.{◌≡◌, ℕ, Bool, true, false, if◌then◌else◌, List, Option}, Io.KnownBytes.Appends}
use Rattle.aout_core.specs.{Refusals.device_fault, Wires.AppendsPrefix, Wires.Latched}
use Rattle.host.specs.{declared.file_system.Stored.Stored, declared.file_system.Stored.TheVariants.{Kept, Failed}}

-- all the bytes went out, or if the device failed a prefix of them
abbrev pub PutsUnless : Bool → Option (List ℕ) → Option (List ℕ) → List ℕ → Type 0
PutsUnless false old new bytes = Appends old new bytes
PutsUnless true old new bytes = AppendsPrefix old new bytes

-- a text was stored on a device that did not fail, also when it was flushed; or the device failed, and holds a prefix of it
pub record IsStoredOn {W : Type 0} (contents : W → Option (List ℕ)) (stored : Stored) (old new : Latched W) (text : List ℕ) : Type 0 where
  pub ends : stored ≡ (if new.has_failed then Failed device_fault else Kept)
  pub bytes : PutsUnless new.has_failed (contents old.device) (contents new.device) text
