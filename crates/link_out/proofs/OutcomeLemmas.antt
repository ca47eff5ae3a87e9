-- The file and the report of a link that no fault refuses.
use Rattle.std.proofs.Common.{◌≡◌, ℕ, ◌≤◌, false, ◌&&◌, List, length, ap, rules}
use Rattle.aout_core.specs.{Contents.Contents}
use Rattle.std.specs.Prelude.{Ok, nat_lt}
use Rattle.link_out.specs.{function.Plans.Plan, function.Tables.{table, has_number_too_large}, function.Reports.report_of}
use Rattle.link_out.specs.function.Link.{Outcome, linked_file, link_by}

-- what a link that no fault refuses passed, and what it gives
pub record IsMade (p : Plan) (os : List Contents) (x : Outcome) : Type 0 where
  pub short : nat_lt 65535 p.at.bss_end ≡ false
  pub few : nat_lt 5461 (length (table p os)) ≡ false
  pub numbered : p.choices.relocatable && has_number_too_large p os ≡ false
  pub outcome : (let y : Outcome = record { file = linked_file p os; report = report_of p } in y) ≡ x

-- what a link that is made has passed, and what it gives
pub made : (p : Plan) (os : List Contents) (x : Outcome) → link_by p os ≡ Ok x → IsMade p os x
made p os x h = search rules

-- the other way round
pub is_made : (p : Plan) (os : List Contents) (x : Outcome) → IsMade p os x → link_by p os ≡ Ok x
is_made p os x m = search rules

-- its file
pub made_file : (p : Plan) (os : List Contents) (x : Outcome) → link_by p os ≡ Ok x → linked_file p os ≡ x.file
made_file p os x h = ap (λ (y : Outcome). y.file) (made p os x h).outcome

-- its report
pub made_report : (p : Plan) (os : List Contents) (x : Outcome) → link_by p os ≡ Ok x → report_of p ≡ x.report
made_report p os x h = ap (λ (y : Outcome). y.report) (made p os x h).outcome

-- a number that is at most the limit is not over it
pub not_over : (m n : ℕ) → n ≤ m → nat_lt m n ≡ false
not_over m n h = search rules
