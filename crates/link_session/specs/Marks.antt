-- Marks are exactly the difference that an addition makes to what was there.
--
-- An earlier cell that the addition changes has one mark, which holds the cell before; any other earlier cell has none. An earlier
-- name has one mark for each mention by the object that changes its state, in the order of the mentions: the first mark holds the
-- state before the addition, and each later one the state that the mention before it led to. So a name has a mark if and only if its
-- state is changed, and a common that grows several times has several marks.
use Rattle.std.specs.Prelude.{◌≡◌, ◌≢◌, ℕ, Bool, false, cond, eqb, nat_eq, List, [], ◌∷◌, ◌++◌, Some, slice_get}
use Rattle.aout_core.specs.Contents.{Contents}
use Rattle.link_session.specs.{Mentions.{Mention, mentions, mentions_in, externals}, declared.cell.Cell.Cell, declared.state.State.State}
use Rattle.link_session.specs.{declared.state.State.TheVariants.{Defined, Wanted}, declared.mark.Mark.Mark}
use Rattle.link_session.specs.{declared.mark.Mark.TheVariants.{CellWas, StateWas}, declared.mark.Place.Place}
use Rattle.link_session.specs.{declared.mark.Place.TheVariants.{InText, InData}, States.{state, is_definition}, Image.image}

abbrev pub same_place : Place → Place → Bool
same_place (InText i) (InText j) = nat_eq i j
same_place (InData i) (InData j) = nat_eq i j
same_place _ _ = false

-- what the marks hold of one place, in order
abbrev pub cells_marked : Place → List Mark → List Cell
cells_marked place [] = []
cells_marked place (CellWas p c ∷ ks) = cond (same_place place p) (c ∷ cells_marked place ks) (cells_marked place ks)
cells_marked place (StateWas i s ∷ ks) = cells_marked place ks

-- what the marks hold of one external, in order
abbrev pub states_marked : ℕ → List Mark → List State
states_marked index [] = []
states_marked index (CellWas p c ∷ ks) = states_marked index ks
states_marked index (StateWas i s ∷ ks) = cond (nat_eq index i) (s ∷ states_marked index ks) (states_marked index ks)

-- what the marks hold of a cell: the cell before, if it changed, and else nothing
pub record HoldCell (was is : Cell) (marked : List Cell) : Type 0 where
  pub same : is ≡ was → marked ≡ []
  pub changed : is ≢ was → marked ≡ was ∷ []

abbrev pub same_state : State → State → Bool
same_state (Defined segment offset) (Defined again place) = is_definition again place (Some (segment, offset))
same_state (Wanted size) (Wanted more) = eqb size more
same_state _ _ = false

-- the state of a name after the earlier mentions, if one more mention changes it
abbrev pub state_changed : List Mention → Mention → List ℕ → List State
state_changed earlier m name = cond (same_state (state earlier name) (state (earlier ++ m ∷ []) name)) [] (state earlier name ∷ [])

-- the state of the name before each of the mentions that changes it
abbrev pub states_changed : List Mention → List Mention → List ℕ → List State
states_changed earlier [] name = []
states_changed earlier (m ∷ ms) name = state_changed earlier m name ++ states_changed (earlier ++ m ∷ []) ms name

-- the marks are the difference that the object makes when it is added after these: for each cell and each name that was there
pub record IsDifference (forced : List (List ℕ)) (os : List Contents) (o : Contents) (marks : List Mark) : Type 0 where
  pub text : (i : ℕ) (was is : Cell) → slice_get (image forced os).text_cells i ≡ Some was →
      slice_get (image forced (os ++ o ∷ [])).text_cells i ≡ Some is → HoldCell was is (cells_marked (InText i) marks)
  pub «data» : (i : ℕ) (was is : Cell) → slice_get (image forced os).data_cells i ≡ Some was →
      slice_get (image forced (os ++ o ∷ [])).data_cells i ≡ Some is → HoldCell was is (cells_marked (InData i) marks)
  pub names : (i : ℕ) (name : List ℕ) → slice_get (externals forced os) i ≡ Some name →
      states_marked i marks ≡ states_changed (mentions forced os) (mentions_in os o) name
