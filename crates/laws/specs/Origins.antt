-- Each object of a link fits the file that it gives, where it is in the list, and all of them by one table of names. (ld(1))
use Rattle.std.specs.{Prelude.{◌≡◌, ℕ, List, ◌∷◌, ◌++◌}, List.AllByRecursion}
use Rattle.aout_core.specs.{declared.symbol.Segment.TheVariants.{TextSeg, DataSeg}, Contents.Contents}
use Rattle.link_session.specs.{Starts.total, Sessions.IsObject}
use Rattle.tool_options.specs.Choices.{Choices}
use Rattle.link_out.specs.{Results.Outcome}
use Rattle.laws.specs.relation.LinkedFrom.{IsLinkedFrom}
use Rattle.origins.specs.{Fits.Fits, Fits.IsPlace, Fits.Moves}

-- the addresses of the names are the same for all objects; each fits at the texts of the objects before it, and at their data
abbrev pub AllFit : Type 0
AllFit =
    (forced : List (List ℕ)) (os : List Contents) (o : Choices) (x : Outcome) → IsLinkedFrom forced os o x →
    (address : List ℕ → ℕ) × ((before : List Contents) (k : Contents) (after : List Contents) → os ≡ before ++ k ∷ after →
    (p : Moves) × (p.address ≡ address) × Fits x.file k (total TextSeg before) (total DataSeg before) p)

-- so `places` has them: they are even addresses of the text
abbrev pub EachIsFound : Type 0
EachIsFound =
    (forced : List (List ℕ)) (os : List Contents) (o : Choices) (x : Outcome) → AllByRecursion IsObject os → IsLinkedFrom forced os o x →
    (before : List Contents) (k : Contents) (after : List Contents) → os ≡ before ++ k ∷ after → IsPlace x.file k (total TextSeg before)
