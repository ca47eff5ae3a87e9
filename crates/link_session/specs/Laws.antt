-- The laws of sessions, each proved by a function of the module `laws`.
--
-- A withdrawal takes back exactly what an addition did. A name has a mark if and only if its state changed, and its first mark holds
-- the state before. Where the segments of an object start, and by how much its addresses are shifted, follows from the whole list
-- of the objects before it.
use Rattle.std.specs.Prelude.{◌≡◌, ◌≢◌, ℕ, List, [], ◌∷◌, ◌++◌, Some, slice_get}
use Rattle.aout_core.specs.{declared.symbol.Segment.Segment, Contents.Contents}
use Rattle.link_session.specs.{Starts.{shift, no_starts, starts_after, next_starts, shifts_at, shift_by}, declared.mark.Mark.Mark}
use Rattle.link_session.specs.{declared.state.State.State, Labelled.Labelled, Mentions.{mentions, externals}, States.state}
use Rattle.link_session.specs.{Marks.{IsDifference, states_marked}, Undo.Kept, Sessions.{Adds, Withdraws}}

-- what is taken away right after an addition is the object that was added, and the session is what it was
abbrev pub WithdrawLaw : Type 0
WithdrawLaw = (old between new : Kept) (added taken : Labelled) → Adds old between added → Withdraws between new taken →
    (new ≡ old) × (taken ≡ added)

-- what the marks hold of a state: nothing, if it is as it was, and else the state before comes first
pub record HoldState (was is : State) (marked : List State) : Type 0 where
  pub same : is ≡ was → marked ≡ []
  pub changed : is ≢ was → (later : List State) × (marked ≡ was ∷ later)

-- of each name that was there before an addition
abbrev pub MarksLaw : Type 0
MarksLaw = (forced : List (List ℕ)) (os : List Contents) (o : Contents) (marks : List Mark) → IsDifference forced os o marks →
    (i : ℕ) (name : List ℕ) → slice_get (externals forced os) i ≡ Some name →
    HoldState (state (mentions forced os) name) (state (mentions forced (os ++ o ∷ [])) name) (states_marked i marks)

-- starts and shifts, object by object, are those that the list of the objects before gives
pub record StartsLaw : Type 0 where
  pub first : no_starts ≡ starts_after []
  pub next : (earlier : List Contents) (o : Contents) → next_starts (starts_after earlier) o.header ≡ starts_after (earlier ++ o ∷ [])
  pub shifts : (earlier : List Contents) (o : Contents) (segment : Segment) →
      shift_by (shifts_at (starts_after earlier) o.header) segment ≡ shift earlier o segment
