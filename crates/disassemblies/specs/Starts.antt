-- The lines of a file's text, one after the other, the words at which they begin, and the line that has a word. (as(1))
use Rattle.std.specs.Prelude.{ℕ, zero, suc, ◌+◌, ◌-◌, Bool, true, false, nat_lt, if◌then◌else◌, List, [], ◌∷◌, ◌++◌, Option, Some, None}
use Rattle.std.specs.Prelude.{length, replicate, slice_get}
use Rattle.aout_core.specs.Contents.{Contents}
use Rattle.instructions.specs.{declared.unix.Decoder.Decoder, declared.unix.Decoder.TheVariants.Unix, declared.unix.UnixLine.UnixLine}
use Rattle.instructions.specs.{UnixLines.unix_length}
use Rattle.disassemblies.specs.Listed.{listed_line}

-- what each step from a place on gives by its place and its words, up to so many words, and what their end gives; at most so many steps
abbrev pub steps_from : {A : Type 0} → (ℕ → ℕ) → ℕ → (ℕ → ℕ → List A) → List A → ℕ → ℕ → List A
steps_from step count of end zero place = end
steps_from step count of end (suc most) place =
    let n : ℕ = step place in
    if nat_lt place count then of place n ++ steps_from step count of end most (place + n) else end

-- how many words a line has
abbrev pub length_at : Decoder → Contents → ℕ → ℕ
length_at d c place = unix_length (listed_line d c place)

-- what the lines from a place on give, and what the end of the text gives
abbrev pub lines_from : {A : Type 0} → Decoder → Contents → (ℕ → ℕ → List A) → List A → ℕ → ℕ → List A
lines_from d c of end most place = steps_from (length_at d c) (length c.text_words) of end most place

abbrev pub by_lines : {A : Type 0} → Decoder → Contents → (ℕ → ℕ → List A) → List A → List A
by_lines d c of end = lines_from d c of end (length c.text_words) 0

-- the first word of a line of so many, and its others
abbrev pub start : ℕ → List Bool
start n = true ∷ replicate (n - 1) false

-- for each word of the text, whether a line begins there
abbrev pub starts : Decoder → Contents → List Bool
starts d c = by_lines d c (λ place n. start n) []

abbrev pub start_by : Option Bool → Bool
start_by None = false
start_by (Some b) = b

-- a line begins at a place
abbrev pub is_start : List Bool → ℕ → Bool
is_start starts i = start_by (slice_get starts i)

-- the place at which the line begins that has the word at a place: the last one up to it at which a line begins
abbrev pub line_start : List Bool → ℕ → ℕ
line_start starts zero = 0
line_start starts (suc i) = if is_start starts (suc i) then suc i else line_start starts i

-- the line that begins at a place of a text of Unix, if one does
abbrev pub swept_line : Contents → ℕ → Option UnixLine
swept_line c place = if is_start (starts Unix c) place then Some (listed_line Unix c place) else None
