use Rattle.std.proofs.Common.{◌≡◌, List}
use Rattle.link_session.specs.Labelled.{Labelled}
use Rattle.v7tools.specs.{LinkAnswers.inputs_of, LinkAnswers.Said, LinkAnswers.TakesAll, internal.InputParts.StopsWith}
use Rattle.v7tools.proofs.link.linking.take_inputs.Given as goal

-- the inputs so far are taken; so what becomes of those left, after them, becomes of all
abbrev pub invariant-loop-path : goal.invariant-loop-path
invariant-loop-path g l = record {
  forced : l.session.forced ≡ l.initial.session.forced;
  taken : (more : List Labelled) →
      TakesAll l.session.forced l.session.entries (inputs_of g.R.Read.remaining l.path-iterator.rest.items) more →
      TakesAll l.initial.session.forced l.initial.session.entries (inputs_of g.R.Read.remaining l.fn.inputs.items) more;
  stops : (said : Said) (left : List Labelled) →
      StopsWith l.session.forced l.session.entries (inputs_of g.R.Read.remaining l.path-iterator.rest.items) said left →
      StopsWith l.initial.session.forced l.initial.session.entries (inputs_of g.R.Read.remaining l.fn.inputs.items) said left;
}
