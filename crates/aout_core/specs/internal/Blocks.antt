-- What waits in a block, on its way to a wire or from one.
use Rattle.std.specs.Prelude.{◌≡◌, ℕ, ◌+◌, min, List, ◌++◌, length, Option, Result, MatchResult}
use Rattle.std.specs.Io.KnownBytes.{Appends, Consumes, prepend_known}
use Rattle.aout_core.specs.{declared.file.ReadFault.ReadFault, declared.file.ReadFault.TheVariants.Truncated}
use Rattle.aout_core.specs.{declared.file.ReadFault.TheVariants.Device, internal.ReadParts.EndsEarly, Wires.AppendsPrefix}

-- all the bytes went out but those that wait
abbrev pub AppendsBut : Option (List ℕ) → Option (List ℕ) → List ℕ → List ℕ → Type 0
AppendsBut old new waiting bytes = (sent : List ℕ) × (bytes ≡ sent ++ waiting) × Appends old new sent

-- all the bytes went out but those that wait, or on a fault a prefix of them
abbrev pub PutsBut : {T E : Type 0} → Result T E → Option (List ℕ) → Option (List ℕ) → List ℕ → List ℕ → Type 0
PutsBut result old new waiting bytes = MatchResult result (λ _. AppendsBut old new waiting bytes) (λ _. AppendsPrefix old new bytes)

-- the bytes that were read and not taken, and how many were not read
pub record Awaited : Type 0 where
  pub waiting : List ℕ
  pub missing : ℕ

abbrev pub awaited : Awaited → ℕ
awaited a = length a.waiting + a.missing

-- the end came before so many bytes, or the device failed
abbrev pub EndsBefore : ReadFault → Option (List ℕ) → Option (List ℕ) → ℕ → Type 0
EndsBefore Truncated old new size = EndsEarly old new 0 size
EndsBefore (Device _) old new size = Unit {0}
EndsBefore fault old new size = ⊥

-- as many bytes were read as a block has space for, or all that were missing if they are fewer
pub record Refills (block missing : ℕ) (before after : Option (List ℕ)) (new : Awaited) : Type 0 where
  pub taken : Consumes before after new.waiting
  pub size : length new.waiting ≡ min missing block
  pub left : awaited new ≡ missing

-- these bytes were taken: first what waited, and then what could still be read
pub record Takes (old : Awaited) (before : Option (List ℕ)) (new : Awaited) (after : Option (List ℕ)) (out : List ℕ) : Type 0 where
  pub taken : Consumes (prepend_known old.waiting before) (prepend_known new.waiting after) out
  pub left : awaited old ≡ length out + awaited new
