-- Objects in groups, each replaced by its partial link, again and again. (ld(1), the option `-r`)
use Rattle.std.specs.{Prelude.ℕ, Prelude.List, Prelude.◌∷◌, Prelude.◌++◌}
use Rattle.aout_core.specs.{Contents.Contents}
use Rattle.tool_options.specs.{declared.options.Keep.Keep, Choices.Choices}
use Rattle.link_out.specs.function.Link.{Outcome}
use Rattle.link_out.specs.laws.PartialLinks.{KeepsNoMore, IsPartialLink, IsPart}

-- objects, some runs of which were replaced by their partial links, again and again
pub data IsGrouped (forced : List (List ℕ)) (less : Keep) (os : List Contents) : List Contents → Type 0 where
  ungrouped : IsGrouped forced less os os
  grouped : (own : List (List ℕ)) (before run after : List Contents) (by : Choices) (x : Outcome) →
      IsGrouped forced less os (before ++ (run ++ after)) →
      IsPart own forced → IsPartialLink own run by x → KeepsNoMore less by.keep → IsGrouped forced less os (before ++ x.file ∷ after)
