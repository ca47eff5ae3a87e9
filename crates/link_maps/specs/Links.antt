-- The link that a map shows, as that of the inputs from which its objects were read. (ld(1))
--
-- A map also shows the objects after the one that a session refuses. So it needs each input to be an object, taken or not.
use Rattle.std.specs.Prelude.{◌≡◌, ℕ, zero, suc, List, [], ◌∷◌, length, Option, Result, Ok, Err, IfSome}
use Rattle.aout_core.specs.{Contents.Contents, Decoding.decode}
use Rattle.tool_options.specs.Choices.{Choices}
use Rattle.link_out.specs.Inputs.{Refusal, of_input, not_added, not_linked, at_path, linked, object_in}
use Rattle.link_out.specs.{declared.linked.Linked.Linked, declared.linked.LinkFault.LinkFault, Outcomes.outcome_of, Steps.and_then}
use Rattle.link_out.specs.Results as results
use Rattle.link_maps.specs.{declared.members.Objects.Objects, declared.outcome.Outcome.Outcome}

-- the objects of all inputs, or the first that is not one
abbrev pub read_inputs : List (List ℕ × List ℕ) → Result (List Contents) Refusal
read_inputs [] = Ok []
read_inputs (i ∷ is) = and_then (at_path i.0 (object_in (decode i.1))) (λ o. and_then (read_inputs is) (λ os. Ok (o ∷ os)))

-- the path of the input with this number
abbrev pub path_at : List (List ℕ × List ℕ) → ℕ → List ℕ
path_at [] number = []
path_at (i ∷ is) zero = i.0
path_at (i ∷ is) (suc number) = path_at is number

abbrev pub link_shown : Result Linked LinkFault → Result results.Outcome Refusal
link_shown (Ok l) = Ok (outcome_of l)
link_shown (Err fault) = Err (not_linked fault)

-- what the map shows is the link of these inputs: why the first object that is left was refused, or what becomes of the link of all
pub record ShowsLink (forced : List (List ℕ)) (choices : Choices) (inputs : List (List ℕ × List ℕ)) (all : Objects)
    (outcome : Option Outcome) : Type 0 where
  pub refused : IfSome all.refused
      (λ r. linked forced inputs choices ≡ Err (of_input (path_at inputs (length all.session.entries)) (not_added r.cause)))
  pub made : IfSome outcome (λ x. linked forced inputs choices ≡ link_shown x.linked)
