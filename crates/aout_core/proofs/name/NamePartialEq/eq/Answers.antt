use Rattle.std.proofs.Common.{◌∙◌}
use Rattle.std.specs.{Prelude.nat_eq, Cmp.Lexicographic.pointwise}
use Rattle.aout_core.proofs.NameOrderLemmas.{names_alike}
use Rattle.aout_core.proofs.name.NamePartialEq.eq.Goals as goal

pub returns : goal.returns
returns c =
    let a = c.self.inside.padded_bytes in
    let b = c.other.inside.padded_bytes in
    (λ i. nat_eq (c.number_of.ensures.value i) (c.number_of-2.ensures.value i))
    ∙ names_alike a b c.number_of.ensures.eight c.number_of-2.ensures.eight c.number_of.ensures.small
    c.number_of-2.ensures.small c.self.invariant c.other.invariant
    ∙ (λ i. pointwise nat_eq (c.self.view_is i) (c.other.view_is i))
