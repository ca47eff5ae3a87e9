-- A file, the bytes that were taken for it and not written yet, and for how many more there is room.
use Rattle.std.specs.{Prelude.{ℕ, List, Option}, Io.KnownBytes.append_known}

pub record Held (F : Type 0) : Type 0 where
  pub file : F
  pub held : List ℕ
  pub space : ℕ

-- what was written, with what is held
abbrev pub written : {F : Type 0} → (F → Option (List ℕ)) → Held F → Option (List ℕ)
written contents h = append_known (contents h.file) h.held
