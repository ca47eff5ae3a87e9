-- The lines of a listing, and the columns of a line.
--
-- A line ends with a newline, or with the text. Blanks separate its columns, and each byte up to 32 is a blank. Of those below 32 a
-- listing has only tabs, newlines, and carriage returns before newlines. The first four columns make a row; a column that is missing is
-- the empty list.
use Rattle.std.specs.Prelude.{ℕ, ◌+◌, ◌-◌, Bool, false, ◌&&◌, not, nat_lt, eqb, if◌then◌else◌, List, [], ◌∷◌, length, Option, Some, None}
use Rattle.std.specs.List.{list_any}
use Rattle.listings.specs.{declared.fault.Fault.Fault, declared.fault.Reason.TheVariants.StrayByte}
use Rattle.texts.specs.Lines.{lines_in}

-- the first line, and what follows its newline
abbrev pub first_line : List ℕ → List ℕ
first_line [] = []
first_line (b ∷ bs) = if eqb b 10 then [] else b ∷ first_line bs

abbrev pub other_lines : List ℕ → List ℕ
other_lines [] = []
other_lines (b ∷ bs) = if eqb b 10 then bs else other_lines bs

abbrev pub is_blank : ℕ → Bool
is_blank b = nat_lt b 33

-- without the blanks at the front
abbrev pub skip : List ℕ → List ℕ
skip [] = []
skip (b ∷ bs) = if is_blank b then skip bs else b ∷ bs

-- up to the first blank, and from there on
abbrev pub column : List ℕ → List ℕ
column [] = []
column (b ∷ bs) = if is_blank b then [] else b ∷ column bs

abbrev pub after_column : List ℕ → List ℕ
after_column [] = []
after_column (b ∷ bs) = if is_blank b then b ∷ bs else after_column bs

-- a byte that no listing has, by the bytes after it
abbrev pub begins_with_newline : List ℕ → Bool
begins_with_newline [] = false
begins_with_newline (b ∷ bs) = eqb b 10

abbrev pub is_stray : ℕ → List ℕ → Bool
is_stray b rest = nat_lt b 32 && (not (eqb b 9) && not (eqb b 13 && begins_with_newline rest))

-- the first such byte of a text from a place of a line on
abbrev pub stray_from : ℕ → ℕ → List ℕ → Option Fault
stray_from n k [] = None
stray_from n k (b ∷ bs) =
    if eqb b 10 then stray_from (n + 1) 1 bs
    else (if is_stray b bs then Some (record { line = n; column = k; reason = StrayByte }) else stray_from n (k + 1) bs)

abbrev pub first_stray : List ℕ → Option Fault
first_stray text = stray_from 1 1 text

pub record Row : Type 0 where
  pub first : List ℕ
  pub second : List ℕ
  pub third : List ℕ
  pub fourth : List ℕ

-- what is left of a line from a column on
abbrev pub from_first : List ℕ → List ℕ
from_first line = skip line

abbrev pub from_second : List ℕ → List ℕ
from_second line = skip (after_column (from_first line))

abbrev pub from_third : List ℕ → List ℕ
from_third line = skip (after_column (from_second line))

abbrev pub from_fourth : List ℕ → List ℕ
from_fourth line = skip (after_column (from_third line))

abbrev pub row_of : List ℕ → Row
row_of line =
    record {
      first = column (from_first line);
      second = column (from_second line);
      third = column (from_third line);
      fourth = column (from_fourth line);
    }

abbrev pub from_column : ℕ → List ℕ → List ℕ
from_column k line =
    if eqb k 0 then from_first line else (if eqb k 1 then from_second line else (if eqb k 2 then from_third line else from_fourth line))

-- the place at which a column of a line begins, counted from 1, or the end of the line if the column is missing
abbrev pub column_place : ℕ → List ℕ → ℕ
column_place k line = 1 + (length line - length (from_column k line))

-- neither blank nor a comment, by the first column
abbrev pub is_said : List ℕ → Bool
is_said [] = false
is_said (b ∷ bs) = not (eqb b 47)

abbrev pub says_something : List ℕ → Bool
says_something text = list_any (λ (l : List ℕ). is_said (row_of l).first) (lines_in text)
