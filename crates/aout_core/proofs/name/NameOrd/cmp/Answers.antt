use Rattle.std.proofs.Common.{◌∙◌}
use Rattle.std.specs.{Ordering.nat_cmp, Cmp.Lexicographic.slice_cmp}
use Rattle.aout_core.proofs.NameOrderLemmas.{names_ordered}
use Rattle.aout_core.proofs.name.NameOrd.cmp.Goals as goal

pub returns : goal.returns
returns c =
    let a = c.self.inside.padded_bytes in
    let b = c.other.inside.padded_bytes in
    c.cmp.ensures
    ∙ (λ i. nat_cmp (c.number_of.ensures.value i) (c.number_of-2.ensures.value i))
    ∙ names_ordered a b c.number_of.ensures.eight c.number_of-2.ensures.eight c.number_of.ensures.small
    c.number_of-2.ensures.small c.self.invariant c.other.invariant
    ∙ (λ i. slice_cmp nat_cmp (c.self.view_is i) (c.other.view_is i))
