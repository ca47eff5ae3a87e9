-- The parts of a report, and when there are none.
use Rattle.std.specs.{Prelude.{ℕ, Bool, not, ◌&&◌, eqb, List, ◌++◌, filter, length, is_none, codes}, List.flat_map}
use Rattle.link_session.specs.{Mentions.Mention, States.state}
use Rattle.link_out.specs.{Results.ReportNames, function.Reports.line, function.Reports.is_undefined}

-- no line
abbrev pub is_silent : ReportNames → Bool
is_silent f = eqb (length f.multiples) 0 && (eqb (length f.reserved) 0 && (is_none f.entry_bad && eqb (length f.undefined) 0))

-- the lines of names that are multiply defined
abbrev pub multiple_lines : List (List ℕ) → List ℕ
multiple_lines names = flat_map (λ n. line (n ++ codes ": Multiply defined")) names

-- those of the names that are defined or common
abbrev pub taken_among : List Mention → List (List ℕ) → List (List ℕ)
taken_among ms names = filter (λ n. not (is_undefined (state ms n))) names
