-- Named files: for each the bytes of its path, and its contents. (nm(1), size(1))
use Rattle.std.specs.{Prelude.ℕ, Prelude.List, Prelude.map, Prelude.string_bytes, declared.string.String.String}
use Rattle.aout_core.specs.Contents.{Contents}

abbrev pub by_bytes : {A : Type 0} → List (String A × Contents) → List (List ℕ × Contents)
by_bytes files = map (λ f. (string_bytes f.0, f.1)) files
