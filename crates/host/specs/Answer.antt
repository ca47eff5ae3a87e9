-- What a program writes at its end, and its status.
use Rattle.std.specs.Prelude.{ℕ, List}

-- for standard output, for standard error, and the status
pub record Answer : Type 0 where
  pub output : List ℕ
  pub errors : List ℕ
  pub status : ℕ
