-- How a link is one number: 0 at the end of a chain, 1 and on in text, 65,537 and on in data.
use Rattle.std.specs.Prelude.{ℕ, zero, suc, ◌+◌, ◌-◌, cond, nat_lt, Option, Some, None}
use Rattle.link_session.specs.{declared.mark.Place.Place, declared.mark.Place.TheVariants.InText, declared.mark.Place.TheVariants.InData}

abbrev pub linked_place : ℕ → Option Place
linked_place zero = None
linked_place (suc n) = cond (nat_lt n 65536) (Some (InText n)) (Some (InData (n - 65536)))

abbrev pub link_code : Option Place → ℕ
link_code None = 0
link_code (Some (InText i)) = i + 1
link_code (Some (InData i)) = i + 65537
