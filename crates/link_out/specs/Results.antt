-- What a link gives: a file, and a report of names. (ld(1))
use Rattle.std.specs.Prelude.{ℕ, List, Option}
use Rattle.aout_core.specs.Contents.{Contents}

-- names multiply defined, reserved names that are defined or common, an entry point that is not in text, undefined names
pub record ReportNames : Type 0 where
  pub multiples : List (List ℕ)
  pub reserved : List (List ℕ)
  pub entry_bad : Option (List ℕ)
  pub undefined : List (List ℕ)

pub record Outcome : Type 0 where
  pub file : Contents
  pub report : ReportNames
