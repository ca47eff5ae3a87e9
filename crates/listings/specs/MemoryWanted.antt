-- For which listings memory may run out while they are read.
--
-- Only words, symbols, and mistakes after the first are kept. So memory is requested for a row of a section that begins with a digit, and
-- for a mistake after another one.
use Rattle.std.specs.Prelude.{◌≢◌, ◌⊎◌, ℕ, List, [], ◌∷◌, IsErr, IsSome, IsTrue}
use Rattle.listings.specs.Reading.{begins_with_digit, row_read, State, line_read, at_first_line}
use Rattle.listings.specs.{declared.fault.Section.TheVariants.InHeader, Columns.Row, Columns.row_of, Drafts.Draft}
use Rattle.listings.specs.declared.draft.Addresses.{Addresses}
use Rattle.texts.specs.Lines.{lines_in}

-- a word, a symbol, or a mistake in its place
abbrev pub IsEntry : Draft → Row → Type 0
IsEntry d r = IsTrue (begins_with_digit r.first) × (d.section ≢ InHeader)

-- a mistake after another one
abbrev pub IsLater : State → Row → Type 0
IsLater s r = IsSome s.noted.first × IsErr (row_read s.draft r)

abbrev pub MayRunOutInLines : State → List (List ℕ) → Type 0
MayRunOutInLines s [] = ⊥
MayRunOutInLines s (l ∷ ls) = IsEntry s.draft (row_of l) ⊎ (IsLater s (row_of l) ⊎ MayRunOutInLines (line_read s l) ls)

abbrev pub ListingMayRunOut : Addresses → List ℕ → Type 0
ListingMayRunOut a text = MayRunOutInLines (at_first_line a) (lines_in text)
