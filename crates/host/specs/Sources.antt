-- A file that is read whole, or is not, and one that is stored, or is not.
use Rattle.std.specs.Prelude.{◌≡◌, ◌⊎◌, ℕ, Bool, true, false, List, [], ◌∷◌, codes, length, nat_lt, take, Option, Some, None, IfSome}
use Rattle.host.specs.{Answers.Stops, Events.{Event, History, Extends, closed, opened}, declared.answer.Fault.Fault, declared.file_system.Stored.Stored}
use Rattle.host.specs.declared.file_system.Stored.TheVariants as file_system

-- the file at a path could not be opened (`None`); or it was, and was closed, and its device had failed or had not
abbrev pub reading : List ℕ → Option (Option (List ℕ)) → Bool → List Event
reading path None failed = opened path None ∷ []
reading path (Some known) failed = opened path (Some known) ∷ closed failed ∷ []

-- the file at a path was opened and closed, its device had not failed, and this holds of its bytes, if they are known
abbrev pub ReadsOn : History → History → List ℕ → (List ℕ → Type 0) → Type 0
ReadsOn old new path holds = (known : Option (List ℕ)) × Extends old new (reading path (Some known) false) × IfSome known holds

-- these are its bytes
abbrev pub ReadsAt : History → History → List ℕ → List ℕ → Type 0
ReadsAt old new path bytes = ReadsOn old new path (λ all. bytes ≡ all)

-- these are its first bytes, at most so many
abbrev pub ReadsFront : ℕ → History → History → List ℕ → List ℕ → Type 0
ReadsFront most old new path bytes = ReadsOn old new path (λ all. bytes ≡ take most all)

-- whether it could not be opened, or its device failed
abbrev pub is_broken : Option (Option (List ℕ)) → Bool → Bool
is_broken None failed = true
is_broken (Some known) failed = failed

-- then the answer has the status 2; or memory ran out
abbrev pub EndsBroken : History → History → List ℕ → Fault → Type 0
EndsBroken old new path fault =
    (found : Option (Option (List ℕ))) × (failed : Bool) × Extends old new (reading path found failed) × Stops (is_broken found failed) 2 fault

-- whether a file has more bytes than this, as far as they are known
abbrev pub is_longer : ℕ → Option (List ℕ) → Bool
is_longer most None = true
is_longer most (Some bytes) = nat_lt most (length bytes)

-- it has more bytes than this, and the answer has the status 2; or memory ran out
abbrev pub EndsTooLong : ℕ → History → History → List ℕ → Fault → Type 0
EndsTooLong most old new path fault =
    (known : Option (List ℕ)) × Extends old new (reading path (Some known) false) × Stops (is_longer most known) 2 fault

-- it was not read, for one of these reasons
abbrev pub EndsReading : ℕ → History → History → List ℕ → Fault → Type 0
EndsReading most old new path fault = EndsBroken old new path fault ⊎ EndsTooLong most old new path fault

-- a file that was to be stored is
abbrev pub is_kept : Stored → Bool
is_kept file_system.Kept = true
is_kept (file_system.NotCreated _) = false
is_kept (file_system.Failed _) = false

-- what is said of a file that is not stored: it could not be made, or its device failed
abbrev pub stored_text : Stored → Option (List ℕ)
stored_text file_system.Kept = None
stored_text (file_system.NotCreated _) = Some (codes "cannot create")
stored_text (file_system.Failed _) = Some (codes "write error")
