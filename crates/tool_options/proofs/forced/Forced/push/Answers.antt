use Rattle.std.proofs.Common.{◌≡◌, ℕ, ◌+◌, List, false, rules, subst}
use Rattle.std.specs.Prelude.{slice_set, take}
use Rattle.tool_options.specs.ForcedNames.{takes, with_name}
use Rattle.tool_options.proofs.ForcedLemmas.{pushed_when, full_when}
use Rattle.tool_options.proofs.forced.Forced.push.Goals as goal

pub returns-then-self-eq-MOST-clause-answer : goal.returns-then-self-eq-MOST-clause-answer
returns-then-self-eq-MOST-clause-answer c =
    subst (λ (names : List (List ℕ)). false ≡ takes names c.args.name) c.self.view_is
    (full_when c.self.inside.slots c.self.inside.count c.args.name c.self.invariant c.if-self-eq-MOST.true (search rules)).0

pub returns-then-self-eq-MOST-clause-names : goal.returns-then-self-eq-MOST-clause-names
returns-then-self-eq-MOST-clause-names c =
    subst (λ (names : List (List ℕ)). names ≡ with_name names c.args.name) c.self.view_is
    (full_when c.self.inside.slots c.self.inside.count c.args.name c.self.invariant c.if-self-eq-MOST.true (search rules)).1

pub invariant_of-self : goal.invariant_of-self
invariant_of-self c =
    (pushed_when c.self.inside.slots c.self.inside.count c.args.name c.self.invariant c.if-self-eq-MOST.false (search rules)).0

pub returns-clause-names : goal.returns-clause-names
returns-clause-names c =
    subst (λ (names : List (List ℕ)). take (c.self.inside.count + 1)
    (slice_set c.self.inside.slots c.self.inside.count c.args.name) ≡ with_name names c.args.name) c.self.view_is
    (pushed_when c.self.inside.slots c.self.inside.count c.args.name c.self.invariant c.if-self-eq-MOST.false (search rules)).1
