-- The rows of the table are in the order of their words, so the row of a word is found by halves.
use Rattle.std.proofs.Common.{◌≡◌, ℕ, ◌+◌, ◌-◌, ◌*◌, ◌<◌, ◌≤◌, Bool, true, false, ◌&&◌, nat_le, nat_lt, if◌then◌else◌, Option, Some, None}
use Rattle.std.proofs.Common.{List, [], ◌∷◌, ◌++◌, length, slice_index_or, refl, sym, ap, subst, ◌∙◌, cond, arith}
use Rattle.std.proofs.{lemmas.Bool.Decides.nat_tests, lemmas.Bool.and_parts, lemmas.Bool.false_from_ne_true}
use Rattle.std.specs.List.{find, filter}
use Rattle.instructions.specs.{declared.field.Field.Field, declared.table.TheConstants.ROWS, declared.table.Row.Row, Fields.{place, size}}
use Rattle.instructions.specs.{Table.table, Rows.{part, begins, row_of}, Laws.{placed, in_order, SameTable, OneRow}}
use Rattle.instructions.specs.declared.field.Field.TheVariants as fields
use Rattle.instructions.proofs.FieldLemmas.{row_sum}

-- what a field adds at most
abbrev pub most : Option Field → ℕ
most None = 0
most (Some f) = (size f - 1) * place f

abbrev pub last : Row → ℕ
last r = r.base + most r.first + most r.second

-- the words of each row follow those of the rows before it, and none is below a number
abbrev pub are_in_order : ℕ → List Row → Bool
are_in_order low [] = true
are_in_order low (r ∷ rows) = nat_le low r.base && are_in_order (last r + 1) rows

abbrev pub found : ℕ → List Row → Option Row
found w rows = find (λ o. begins o w) rows

part_most : (f : Option Field) (w : ℕ) → part f w ≤ most f
part_most None w = omega arith
part_most (Some fields.Source) w = omega arith
part_most (Some fields.Destination) w = omega arith
part_most (Some fields.Floating) w = omega arith
part_most (Some fields.Register) w = omega arith
part_most (Some fields.LowRegister) w = omega arith
part_most (Some fields.Accumulator) w = omega arith
part_most (Some fields.Forward) w = omega arith
part_most (Some fields.Backward) w = omega arith
part_most (Some fields.NineBits) w = omega arith
part_most (Some fields.Byte) w = omega arith
part_most (Some fields.SixBits) w = omega arith
part_most (Some fields.ThreeBits) w = omega arith

-- the words of a row are from its base to its last
words_within : (r : Row) (w : ℕ) → begins r w ≡ true → (r.base ≤ w) × (w ≤ last r)
words_within r w h =
    let sum = row_sum r w h in
    let one = part_most r.first w in
    let two = part_most r.second w in
    (omega arith, omega arith)

-- a row before or after a word is passed over
passed : (w : ℕ) (r : Row) (rows : List Row) → (begins r w ≡ true → ⊥) → found w (r ∷ rows) ≡ found w rows
passed w r rows h = ap (λ b. cond b (Some r) (found w rows)) (false_from_ne_true (begins r w) h)

none_below : (low w : ℕ) (rows : List Row) → are_in_order low rows ≡ true → w < low → found w rows ≡ None
none_below low w [] h small = refl
none_below low w (r ∷ rows) h small =
    let parts = and_parts (nat_le low r.base) (are_in_order (last r + 1) rows) h in
    let from : low ≤ r.base = grind (arith, nat_tests) in
    passed w r rows (λ is. let within = words_within r w is in omega arith)
    ∙ none_below (last r + 1) w rows parts.1 (omega arith)

follows : (low : ℕ) (front : List Row) (row : Row) (back : List Row) → are_in_order low (front ++ row ∷ back) ≡ true → low ≤ row.base
follows low [] row back h =
    let parts = and_parts (nat_le low row.base) (are_in_order (last row + 1) back) h in
    grind (arith, nat_tests)
follows low (r ∷ front) row back h =
    let parts = and_parts (nat_le low r.base) (are_in_order (last r + 1) (front ++ row ∷ back)) h in
    let from : low ≤ r.base = grind (arith, nat_tests) in
    let rest = follows (last r + 1) front row back parts.1 in
    omega arith

front_in_order : (low : ℕ) (front : List Row) (row : Row) (back : List Row) →
    are_in_order low (front ++ row ∷ back) ≡ true → are_in_order low front ≡ true
front_in_order low [] row back h = refl
front_in_order low (r ∷ front) row back h =
    let parts = and_parts (nat_le low r.base) (are_in_order (last r + 1) (front ++ row ∷ back)) h in
    ap (λ b. b && are_in_order (last r + 1) front) parts.0 ∙ front_in_order (last r + 1) front row back parts.1

back_in_order : (low : ℕ) (front : List Row) (row : Row) (back : List Row) → are_in_order low (front ++ row ∷ back) ≡ true →
    (lower : ℕ) × (are_in_order lower (row ∷ back) ≡ true)
back_in_order low [] row back h = (low, h)
back_in_order low (r ∷ front) row back h =
    let parts = and_parts (nat_le low r.base) (are_in_order (last r + 1) (front ++ row ∷ back)) h in
    back_in_order (last r + 1) front row back parts.1

later_found : (low w : ℕ) (front : List Row) (row : Row) (back : List Row) → are_in_order low (front ++ row ∷ back) ≡ true →
    row.base ≤ w → found w (front ++ row ∷ back) ≡ found w (row ∷ back)
later_found low w [] row back h large = refl
later_found low w (r ∷ front) row back h large =
    let parts = and_parts (nat_le low r.base) (are_in_order (last r + 1) (front ++ row ∷ back)) h in
    let after = follows (last r + 1) front row back parts.1 in
    passed w r (front ++ row ∷ back) (λ is. let within = words_within r w is in omega arith)
    ∙ later_found (last r + 1) w front row back parts.1 large

earlier_found : (low w : ℕ) (front : List Row) (row : Row) (back : List Row) → are_in_order low (front ++ row ∷ back) ≡ true →
    w < row.base → found w (front ++ row ∷ back) ≡ found w front
earlier_found low w [] row back h small =
    let parts = and_parts (nat_le low row.base) (are_in_order (last row + 1) back) h in
    passed w row back (λ is. let within = words_within row w is in omega arith)
    ∙ none_below (last row + 1) w back parts.1 (omega arith)
earlier_found low w (r ∷ front) row back h small =
    let parts = and_parts (nat_le low r.base) (are_in_order (last r + 1) (front ++ row ∷ back)) h in
    ap (λ o. cond (begins r w) (Some r) o) (earlier_found (last r + 1) w front row back parts.1 small)

-- what is left of the rows is in order, and has the row of the word if the table does
abbrev pub Holds : ℕ → List Row → Type 0
Holds w rows = ((low : ℕ) × (are_in_order low rows ≡ true)) × (found w rows ≡ row_of w)

-- the rows of the code are those of the table, in the order of their bases
pub same_table : SameTable
same_table = refl

-- the rows of some that a word is in
abbrev rows_with : ℕ → List Row → List Row
rows_with w rows = filter (λ o. begins o w) rows

-- a row that has the word or does not, and how many rows have it
counted : (b : Bool) (r : Row) (rows : List Row) → length (cond b (r ∷ rows) rows) ≡ (if b then 1 else 0) + length rows
counted true r rows = omega arith
counted false r rows = omega arith

-- placing a row among others changes neither how many have a word nor, if one at most has it, which is found
placed_by : (w : ℕ) (row other : Row) (rows rest : List Row) (t : Bool) → length (rows_with w rest) ≡ length (rows_with w (row ∷ rows)) →
    length (rows_with w (if t then row ∷ (other ∷ rows) else other ∷ rest)) ≡ length (rows_with w (row ∷ (other ∷ rows)))
placed_by w row other rows rest true e = refl
placed_by w row other rows rest false e =
    let a = counted (begins other w) other (rows_with w rest) in
    let b = counted (begins row w) row (rows_with w rows) in
    let c = counted (begins row w) row (rows_with w (other ∷ rows)) in
    let d = counted (begins other w) other (rows_with w rows) in
    omega (arith, a, b, c, d, e)

placed_count : (w : ℕ) (row : Row) (rows : List Row) → length (rows_with w (placed row rows)) ≡ length (rows_with w (row ∷ rows))
placed_count w row [] = refl
placed_count w row (other ∷ rows) = placed_by w row other rows (placed row rows) (nat_lt row.base other.base) (placed_count w row rows)

order_count : (w : ℕ) (rows : List Row) → length (rows_with w (in_order rows)) ≡ length (rows_with w rows)
order_count w [] = refl
order_count w (row ∷ rows) =
    let a = counted (begins row w) row (rows_with w (in_order rows)) in
    let b = counted (begins row w) row (rows_with w rows) in
    omega (arith, placed_count w row (in_order rows), order_count w rows, a, b)

-- of two rows one at most has the word, so their order does not matter
exchanged : (a b : Bool) (r s : Row) (rest : Option Row) (n : ℕ) → (if a then 1 else 0) + ((if b then 1 else 0) + n) ≤ 1 →
    cond b (Some s) (cond a (Some r) rest) ≡ cond a (Some r) (cond b (Some s) rest)
exchanged true true r s rest n h = absurd (omega arith)
exchanged true false r s rest n h = refl
exchanged false b r s rest n h = refl

found_by : (w : ℕ) (row other : Row) (rows rest : List Row) (t : Bool) →
    length (rows_with w (row ∷ (other ∷ rows))) ≤ 1 → found w rest ≡ found w (row ∷ rows) →
    found w (if t then row ∷ (other ∷ rows) else other ∷ rest) ≡ found w (row ∷ (other ∷ rows))
found_by w row other rows rest true one e = refl
found_by w row other rows rest false one e =
    let c = counted (begins row w) row (rows_with w (other ∷ rows)) in
    let d = counted (begins other w) other (rows_with w rows) in
    ap (λ o. cond (begins other w) (Some other) o) e
    ∙ exchanged (begins row w) (begins other w) row other (found w rows) (length (rows_with w rows)) (omega (arith, c, d, one))

placed_found : (w : ℕ) (row : Row) (rows : List Row) → length (rows_with w (row ∷ rows)) ≤ 1 →
    found w (placed row rows) ≡ found w (row ∷ rows)
placed_found w row [] one = refl
placed_found w row (other ∷ rows) one =
    let b = counted (begins row w) row (rows_with w rows) in
    let c = counted (begins row w) row (rows_with w (other ∷ rows)) in
    let d = counted (begins other w) other (rows_with w rows) in
    found_by w row other rows (placed row rows) (nat_lt row.base other.base) one (placed_found w row rows (omega (arith, b, c, d, one)))

order_found : (w : ℕ) (rows : List Row) → length (rows_with w rows) ≤ 1 → found w (in_order rows) ≡ found w rows
order_found w [] one = refl
order_found w (row ∷ rows) one =
    let a = counted (begins row w) row (rows_with w (in_order rows)) in
    let b = counted (begins row w) row (rows_with w rows) in
    placed_found w row (in_order rows) (omega (arith, a, b, order_count w rows, one))
    ∙ ap (λ o. cond (begins row w) (Some row) o) (order_found w rows (omega (arith, b, one)))

-- of rows in order one at most has a word
none_counted : (low w : ℕ) (rows : List Row) → are_in_order low rows ≡ true → w < low → length (rows_with w rows) ≡ 0
none_counted low w [] h small = refl
none_counted low w (r ∷ rows) h small =
    let parts = and_parts (nat_le low r.base) (are_in_order (last r + 1) rows) h in
    let from : low ≤ r.base = grind (arith, nat_tests) in
    let not_this : begins r w ≡ false = false_from_ne_true (begins r w) (λ is. let within = words_within r w is in omega arith) in
    ap (λ b. length (cond b (r ∷ rows_with w rows) (rows_with w rows))) not_this ∙ none_counted (last r + 1) w rows parts.1 (omega arith)

one_by : (w : ℕ) (r : Row) (rows : List Row) (b : Bool) → begins r w ≡ b → (b ≡ true → length (rows_with w rows) ≡ 0) →
    length (rows_with w rows) ≤ 1 → length (cond b (r ∷ rows_with w rows) (rows_with w rows)) ≤ 1
one_by w r rows true is none one = omega (arith, none refl)
one_by w r rows false is none one = one

one_counted : (low w : ℕ) (rows : List Row) → are_in_order low rows ≡ true → length (rows_with w rows) ≤ 1
one_counted low w [] h = omega arith
one_counted low w (r ∷ rows) h =
    let parts = and_parts (nat_le low r.base) (are_in_order (last r + 1) rows) h in
    one_by w r rows (begins r w) refl
    (λ is. let within = words_within r w is in none_counted (last r + 1) w rows parts.1 (omega arith))
    (one_counted (last r + 1) w rows parts.1)

pub one_row : OneRow
one_row w =
    let same = order_count w table in let one : length (rows_with w ROWS) ≤ 1 = one_counted 0 w ROWS refl in
    omega (arith, same, one, ap (λ rows. length (rows_with w rows)) same_table)

pub table_holds : (w : ℕ) → Holds w ROWS
unfolding row_of
table_holds w = ((0, refl), ap (λ rows. found w rows) same_table ∙ order_found w table (one_row w))

back_holds : (w : ℕ) (front : List Row) (row : Row) (back : List Row) → Holds w (front ++ row ∷ back) → row.base ≤ w → Holds w (row ∷ back)
back_holds w front row back h large =
    (back_in_order h.0.0 front row back h.0.1, sym (later_found h.0.0 w front row back h.0.1 large) ∙ h.1)

front_holds : (w : ℕ) (front : List Row) (row : Row) (back : List Row) → Holds w (front ++ row ∷ back) → w < row.base → Holds w front
front_holds w front row back h small =
    ((h.0.0, front_in_order h.0.0 front row back h.0.1), sym (earlier_found h.0.0 w front row back h.0.1 small) ∙ h.1)

-- the first row of a half says which half has the row of the word
pub in_back : (w : ℕ) (d : Row) (rows front back : List Row) → rows ≡ front ++ back → 0 < length back → Holds w rows →
    (slice_index_or back 0 d).base ≤ w → Holds w back
in_back w d rows front [] e some h large = absurd (omega arith)
in_back w d rows front (row ∷ back) e some h large = back_holds w front row back (subst (Holds w) e h) large

pub in_front : (w : ℕ) (d : Row) (rows front back : List Row) → rows ≡ front ++ back → 0 < length back → Holds w rows →
    w < (slice_index_or back 0 d).base → Holds w front
in_front w d rows front [] e some h small = absurd (omega arith)
in_front w d rows front (row ∷ back) e some h small = front_holds w front row back (subst (Holds w) e h) small
