-- What a link has to pass.
use Rattle.std.specs.Prelude.{◌≡◌, ℕ, ◌≤◌, true, false, List, length, None}
use Rattle.aout_core.specs.Contents.{Contents}
use Rattle.tool_options.specs.Choices.{option_fault}
use Rattle.link_out.specs.{function.Plans.Plan, function.Tables.local_rows, function.Tables.table, function.Tables.has_number_too_large}

-- the options are allowed, no fault refuses the link, and so many locals are written
pub record IsPassed (p : Plan) (os : List Contents) (locals : ℕ) : Type 0 where
  pub allowed : option_fault p.choices.layout p.choices.relocatable p.choices.keep ≡ None
  pub short : p.at.bss_end ≤ 65535
  pub few : length (table p os) ≤ 5461
  pub numbered : p.choices.relocatable ≡ true → has_number_too_large p os ≡ false
  pub count : locals ≡ length (local_rows p os)
