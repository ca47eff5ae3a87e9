-- Which numbers of symbols are too large in a file with relocation, by the states of the names alone.
use Rattle.std.specs.Prelude.{ℕ, ◌+◌, Bool, false, not, ◌&&◌, cond, eqb, List, Option, Some, None, slice_get}
use Rattle.aout_core.specs.{declared.symbol.Segment.Segment, declared.symbol.Segment.TheVariants.BssSeg}
use Rattle.link_session.specs.{declared.cell.Target.Target, declared.cell.Target.TheVariants.External, declared.state.State.State}
use Rattle.link_session.specs.{declared.state.State.TheVariants.Defined, declared.state.State.TheVariants.Wanted}
use Rattle.link_out.specs.function.Tables.{number_too_large}

-- the segment that a name is bound to, by whether commons are laid out
abbrev pub kept_bound : Bool → State → Option Segment
kept_bound commons (Defined segment offset) = Some segment
kept_bound commons (Wanted size) = cond (not (eqb size 0) && commons) (Some BssSeg) None

abbrev pub kept_bound_of : Bool → Option (List ℕ × State) → Option Segment
kept_bound_of commons None = None
kept_bound_of commons (Some e) = kept_bound commons e.1

abbrev pub is_too_large : List (List ℕ × State) → Bool → ℕ → Target → Bool
is_too_large es commons locals (External i) = number_too_large (kept_bound_of commons (slice_get es i)) (locals + i)
is_too_large es commons locals _ = false
