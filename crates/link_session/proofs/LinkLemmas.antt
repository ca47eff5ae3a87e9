-- A place is what its number leads to.
use Rattle.std.proofs.Common.{◌≡◌, ℕ, ◌+◌, ◌<◌, Some, rules}
use Rattle.link_session.specs.{declared.mark.Place.TheVariants.InText, declared.mark.Place.TheVariants.InData, internal.Links.linked_place}

pub text_link : (i : ℕ) → i < 65536 → linked_place (i + 1) ≡ Some (InText i)
text_link i h = search rules

pub data_link : (i : ℕ) → linked_place (i + 65537) ≡ Some (InData i)
data_link i = search rules
