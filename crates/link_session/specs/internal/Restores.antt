-- What marks bring back: those of cells that were bound, and all that an object leaves.
use Rattle.std.specs.{Prelude.{◌≡◌, ℕ, ◌+◌, ◌≤◌, Bool, true, false, not, ◌&&◌, cond, List, [], ◌∷◌, ◌++◌, map, length}, List.AllByRecursion}
use Rattle.aout_core.specs.Contents.{Contents}
use Rattle.link_session.specs.internal.Additions.{state_marks, settled_cell, next_mentions, next_named, joined_image}
use Rattle.link_session.specs.{declared.cell.Cell.Cell, declared.cell.Target.Target, declared.cell.Target.TheVariants.External}
use Rattle.link_session.specs.{declared.mark.Mark.Mark, declared.mark.Place.Place, Image.Image, Undo.put_all_back, Undo.undo, Undo.IsInside}
use Rattle.link_session.specs.{Marks.cells_marked, Marks.states_marked, Mentions.externals_in, internal.Counts.to_bind}
use Rattle.link_session.specs.{internal.Threads.bound_heads, internal.Chains.Link, internal.Chains.cell_at, internal.Chains.heads_back}

abbrev pub is_waiting : Target → Bool
is_waiting (External i) = true
is_waiting _ = false

-- a cell that waited no longer waits
abbrev pub gets_bound : Cell → Cell → Bool
gets_bound was is = is_waiting was.target && not (is_waiting is.target)

-- the marks hold the cell before, if it gets bound; and else it stays and they hold nothing
pub record HoldBound (was is : Cell) (marked : List Cell) : Type 0 where
  pub holds : marked ≡ cond (gets_bound was is) (was ∷ []) []
  pub stays : gets_bound was is ≡ false → is ≡ was

-- the marks bring the earlier cells and heads back, are inside the cells, and hold exactly the cells that get bound
pub record Restores (texts datas : List Cell) (heads : List Link) (new_texts new_datas : List Cell)
    (new_heads : List Link) (marks : List Mark) : Type 0 where
  pub cells : (m : Image) → m.text_cells ≡ new_texts → m.data_cells ≡ new_datas →
      put_all_back marks m ≡ (record m { text_cells = texts; data_cells = datas })
  pub heads_are : heads_back marks new_heads ≡ heads
  pub inside : (m : Image) → length m.text_cells ≡ length texts → length m.data_cells ≡ length datas → AllByRecursion (IsInside m) marks
  pub cells_are : (place : Place) → HoldBound (cell_at texts datas place) (cell_at new_texts new_datas place) (cells_marked place marks)
  pub no_states : (i : ℕ) → states_marked i marks ≡ []

-- such marks were appended
pub record LeavesMarks (texts datas : List Cell) (heads : List Link) (new_texts new_datas : List Cell)
    (new_heads : List Link) (old new : List Mark) : Type 0 where
  pub marks : List Mark
  pub last : new ≡ old ++ marks
  pub restores : Restores texts datas heads new_texts new_datas new_heads marks

-- the earlier cells, settled by the object
abbrev pub settled_by_next : Image → Contents → List Cell → List Cell
settled_by_next m o cs = map (settled_cell (next_named m o)) cs

-- the marks take the object back from the image that it was joined to: they bring image and heads back, are inside the image, are no
-- more than the cells that the object binds and its external symbols, and hold the cells that get bound and the states that change
pub record TakesBack (m : Image) (o : Contents) (heads : List Link) (marks : List Mark) : Type 0 where
  pub undoes : undo marks (joined_image m o) m ≡ m
  pub heads_are : heads_back marks (bound_heads m o heads) ≡ heads
  pub inside : AllByRecursion (IsInside m) marks
  pub few : length marks ≤ length (to_bind (next_named m o) m.text_cells)
      + (length (to_bind (next_named m o) m.data_cells) + length (externals_in o))
  pub cells_are : (place : Place) →
      HoldBound (cell_at m.text_cells m.data_cells place)
      (cell_at (settled_by_next m o m.text_cells) (settled_by_next m o m.data_cells) place) (cells_marked place marks)
  pub states_are : (i : ℕ) → states_marked i marks ≡ states_marked i (state_marks (length m.externals) m.externals (next_mentions m o))
