-- A file that is read up to so many bytes or is not, and arguments that are refused, by the reason.
use Rattle.std.specs.Prelude.{◌≡◌, ℕ, Bool, true, false, List, take, Option, Some, None, Result, Ok, Err, IfSome, Vec}
use Rattle.std.specs.declared.alloc.Global.{Global}
use Rattle.aout_core.specs.{declared.whole.FileFault.FileFault, declared.whole.FileFault.TheVariants.{NotOpened, Failed, Memory}}
use Rattle.host.specs.{Arguments.Given, declared.reasons.Reason.Reason, Events.History, Events.Extends, Sources.ReadsFront, Sources.reading}

-- what is known of a reader's bytes, and whether it failed while so many were read
abbrev pub Takes : ℕ → Option (List ℕ) → Bool → Result (Vec ℕ Global) FileFault → Type 0
Takes most known failed (Ok bytes) = (failed ≡ false) × IfSome known (λ all. bytes.items ≡ take most all)
Takes most known failed (Err Failed) = failed ≡ true
Takes most known failed (Err (Memory _)) = failed ≡ false
Takes most known failed (Err NotOpened) = ⊥

-- the file at a path was closed, and its device had failed or had not
abbrev pub Closes : History → History → List ℕ → Bool → Type 0
Closes old new path failed = (known : Option (List ℕ)) × Extends old new (reading path (Some known) failed)

-- the file at a path was read
abbrev pub TakesAt : ℕ → History → History → List ℕ → Result (Vec ℕ Global) FileFault → Type 0
TakesAt most old new path (Ok bytes) = ReadsFront most old new path bytes.items
TakesAt most old new path (Err NotOpened) = Extends old new (reading path None false)
TakesAt most old new path (Err Failed) = Closes old new path true
TakesAt most old new path (Err (Memory _)) = Closes old new path false

-- whether a file was not read for want of it or of its device, and not of memory
abbrev pub is_of_system : FileFault → Bool
is_of_system (Memory _) = false
is_of_system _ = true

-- what was read, unless there is a reason to refuse it
abbrev pub after : Option Reason → Given → Result Given Reason
after None given = Ok given
after (Some reason) given = Err reason
