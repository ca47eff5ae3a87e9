use Rattle.std.proofs.Common.{◌≡◌, ◌<◌, [], ◌∷◌, List, None, length, slice_index_or, refl, ap, arith, rules}
use Rattle.link_session.specs.{declared.mark.Place.TheVariants.InText, internal.Chains.Link}
use Rattle.link_session.proofs.bind.tests.bind_only_the_chain.Goals as goal

-- the chain holds cell 2 only
pub bind_chain-rest-requires : goal.bind_chain-rest-requires
bind_chain-rest-requires c d =
    let links : d.in_ok-image-2.field-0.items ≡ None ∷ None ∷ None ∷ None ∷ [] = search rules in
    let long : length d.in_ok-image.field-0.items ≡ 4 = search rules in
    let below : 2 < length d.in_ok-image.field-0.items = omega (arith, long) in record {
      places = InText 2 ∷ [];
      visits = (d.to.ensures, ap (λ (l : List Link). slice_index_or l 2 None) links);
      apart = (refl, tt);
      inside = (below, tt);
    }
