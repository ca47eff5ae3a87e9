-- Objects that are added to a session, one after another.
use Rattle.std.proofs.Common.{◌≡◌, ℕ, List, [], ◌∷◌, ◌++◌, Some, subst, sym}
use Rattle.std.specs.Prelude.{slice_get}
use Rattle.link_session.specs.{Labelled.Labelled, Undo.Kept}
use Rattle.v7_origin.specs.{Whole.AreChosen, Whole.IsOf, Whole.Source, internal.Lists.IsAdded}

-- one more is added
pub chosen_more : (sources : List Source) (ns : List ℕ) (xs : List Labelled) (n : ℕ) (x : Labelled) (source : Source) →
    AreChosen sources ns xs → slice_get sources n ≡ Some source → IsOf source x → AreChosen sources (ns ++ n ∷ []) (xs ++ x ∷ [])
chosen_more sources [] [] n x source chosen at is = ((source, at, is), tt)
chosen_more sources [] (y ∷ ys) n x source chosen at is = absurd chosen
chosen_more sources (m ∷ ms) [] n x source chosen at is = absurd chosen
chosen_more sources (m ∷ ms) (y ∷ ys) n x source chosen at is = (chosen.0, chosen_more sources ms ys n x source chosen.1 at is)

pub chosen_added : (sources : List Source) (ns : List ℕ) (old new : Kept) (n : ℕ) (source : Source) → AreChosen sources ns old.entries →
    slice_get sources n ≡ Some source → IsAdded source old new → AreChosen sources (ns ++ n ∷ []) new.entries
chosen_added sources ns old new n source chosen at (forced, (x, is, same)) =
    subst (AreChosen sources (ns ++ n ∷ [])) (sym same) (chosen_more sources ns old.entries n x source chosen at is)
