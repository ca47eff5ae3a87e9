-- What an iterator over names gives.
use Rattle.std.proofs.{Common.length, Common.ap, iter.runs.Sources.from_front, iter.runs.Sources.as_is}
use Rattle.std.specs.Iterator.{YieldsFirst}
use Rattle.link_session.specs.Image.{Named, GivesInOrder}

-- the iterator of `Session::externals` gives the names one after another
pub gives_in_order : GivesInOrder
gives_in_order p s =
    as_is p p.from (from_front (YieldsFirst (λ (left : Named). left)) (λ x. x) (λ (left : Named). left)
    (λ s t h. ap length h.0) (λ s x t h. h) p s)
