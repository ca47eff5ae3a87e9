-- Columns and lines that were written are found again.
use Rattle.std.proofs.Common.{◌≡◌, ℕ, zero, suc, replicate, ◌≤◌, List, [], ◌∷◌, ◌++◌, refl, ap, arith, append_assoc, le-ltb, ◌∙◌, rules}
use Rattle.std.proofs.{lemmas.Bool.ne_eqb, lemmas.List.append-nil}
use Rattle.std.specs.List.{AllByRecursion}
use Rattle.listings.specs.Columns.{skip, column, after_column, from_third, from_fourth, row_of}
use Rattle.listings.specs.{Listing.{IsLine, gap, remarked}, Reading.is_digits, Reading.is_numbered}
use Rattle.listings.proofs.OctalLemmas.{AreDigits, IsNumber}
use Rattle.texts.specs.Lines.{lines_in, text_of}

-- no blank, and no byte below it
abbrev pub IsInk : List ℕ → Type 0
IsInk f = AllByRecursion (λ (b : ℕ). 33 ≤ b) f

-- and at least one byte
abbrev pub IsColumn : List ℕ → Type 0
IsColumn [] = ⊥
IsColumn (b ∷ bs) = IsInk (b ∷ bs)

number_ink : (ds : List ℕ) → AreDigits ds → IsInk ds
number_ink [] h = tt
number_ink (d ∷ ds) h = let low = h.0.0 in (omega arith, number_ink ds h.1)

pub ink : (f : List ℕ) → IsColumn f → IsInk f
ink f h = search rules

pub number_column : (ds : List ℕ) → IsNumber ds → IsColumn ds
number_column ds h = search (rules, number_ink)

column_all : (f : List ℕ) → IsInk f → column f ≡ f
column_all [] h = refl
column_all (b ∷ bs) h = rw (le-ltb b 33 h.0) (ap (λ (x : List ℕ). b ∷ x) (column_all bs h.1))

column_more : (f rest : List ℕ) → IsInk f → column (f ++ 32 ∷ rest) ≡ f
column_more [] rest h = refl
column_more (b ∷ bs) rest h = rw (le-ltb b 33 h.0) (ap (λ (x : List ℕ). b ∷ x) (column_more bs rest h.1))

past_all : (f : List ℕ) → IsInk f → after_column f ≡ []
past_all [] h = refl
past_all (b ∷ bs) h = rw (le-ltb b 33 h.0) (past_all bs h.1)

past_more : (f rest : List ℕ) → IsInk f → after_column (f ++ 32 ∷ rest) ≡ 32 ∷ rest
past_more [] rest h = refl
past_more (b ∷ bs) rest h = rw (le-ltb b 33 h.0) (past_more bs rest h.1)

skip_column : (f rest : List ℕ) → IsColumn f → skip (f ++ rest) ≡ f ++ rest
skip_column f rest h = search rules

skip_all : (f : List ℕ) → IsColumn f → skip f ≡ f
skip_all f h = search rules

skip_blanks : (n : ℕ) (rest : List ℕ) → skip (replicate n 32 ++ rest) ≡ skip rest
skip_blanks zero rest = refl
skip_blanks (suc n) rest = skip_blanks n rest

-- the first column of a text, and what follows it
first_more : (n : ℕ) (f rest : List ℕ) → IsColumn f → column (skip (gap n f rest)) ≡ f
first_more n f rest h = rw (skip_column f (32 ∷ (replicate n 32 ++ rest)) h) (column_more f (replicate n 32 ++ rest) (ink f h))

left_more : (n : ℕ) (f rest : List ℕ) → IsColumn f → skip (after_column (skip (gap n f rest))) ≡ skip rest
left_more n f rest h = search (rules, skip_column, past_more, ink, skip_blanks)

-- the last column that counts, and a remark
first_last : (f t : List ℕ) → IsColumn f → column (skip (f ++ remarked t)) ≡ f
first_last f [] h = rw (append-nil f, skip_all f h) (column_all f (ink f h))
first_last f (b ∷ bs) h = first_more 1 f (b ∷ bs) h

pub row_two : (i : ℕ) (f g t : List ℕ) → IsColumn f → IsColumn g →
    (let line = gap i f (g ++ remarked t) in
    row_of line ≡ record { first = f; second = g; third = column (from_third line); fourth = column (from_fourth line) })
row_two i f g t hf hg = cc (first_more i f (g ++ remarked t) hf, left_more i f (g ++ remarked t) hf, first_last g t hg)

pub row_three : (i j : ℕ) (f g k t : List ℕ) → IsColumn f → IsColumn g → IsColumn k →
    (let line = gap i f (gap j g (k ++ remarked t)) in
    row_of line ≡ record { first = f; second = g; third = k; fourth = column (from_fourth line) })
row_three i j f g k t hf hg hk = search (rules, left_more, first_more, first_last)

pub row_four : (i j l : ℕ) (f g k m t : List ℕ) → IsColumn f → IsColumn g → IsColumn k → IsColumn m →
    row_of (gap i f (gap j g (gap l k (m ++ remarked t)))) ≡ record { first = f; second = g; third = k; fourth = m }
row_four i j l f g k m t hf hg hk hm = search (rules, left_more, first_more, first_last)

-- a remark after the last column that counts
left_last : (f t : List ℕ) → IsColumn f → skip (after_column (skip (f ++ remarked t))) ≡ skip t
left_last f [] h = rw (append-nil f, skip_all f h, past_all f (ink f h)) refl
left_last f (b ∷ bs) h = left_more 1 f (b ∷ bs) h

pub third_numbered : (i : ℕ) (f g t : List ℕ) → IsColumn f → IsColumn g →
    is_digits (column (from_third (gap i f (g ++ remarked t)))) ≡ is_numbered t
third_numbered i f g t hf hg =
    ap (λ (l : List ℕ). is_digits (column (skip (after_column l)))) (left_more i f (g ++ remarked t) hf)
    ∙ ap (λ (l : List ℕ). is_digits (column l)) (left_last g t hg)

pub fourth_numbered : (i j : ℕ) (f g k t : List ℕ) → IsColumn f → IsColumn g → IsColumn k →
    is_digits (column (from_fourth (gap i f (gap j g (k ++ remarked t))))) ≡ is_numbered t
fourth_numbered i j f g k t hf hg hk =
    ap (λ (l : List ℕ). is_digits (column (skip (after_column (skip (after_column l)))))) (left_more i f (gap j g (k ++ remarked t)) hf)
    ∙ third_numbered j g k t hg hk

-- lines
pub line_of_column : (f : List ℕ) → IsInk f → IsLine f
line_of_column [] h = tt
line_of_column (b ∷ bs) h = let low = h.0 in (omega arith, line_of_column bs h.1)

blanks_line : (n : ℕ) (g : List ℕ) → IsLine g → IsLine (replicate n 32 ++ g)
blanks_line zero g h = h
blanks_line (suc n) g h = (omega arith, blanks_line n g h)

pub line_append : (f g : List ℕ) → IsInk f → IsLine g → IsLine (f ++ g)
line_append [] g hf hg = hg
line_append (b ∷ bs) g hf hg = let low = hf.0 in (omega arith, line_append bs g hf.1 hg)

pub line_gap : (n : ℕ) (f g : List ℕ) → IsColumn f → IsLine g → IsLine (gap n f g)
line_gap n f g hf hg = line_append f (32 ∷ (replicate n 32 ++ g)) (ink f hf) (omega arith, blanks_line n g hg)

pub line_last : (f t : List ℕ) → IsColumn f → IsLine t → IsLine (f ++ remarked t)
line_last f t hf ht = search (rules, line_append, ink)

line_again : (l rest : List ℕ) → IsLine l → lines_in (l ++ 10 ∷ rest) ≡ l ∷ lines_in rest
line_again [] rest h = refl
line_again (b ∷ bs) rest h = search (rules, ne_eqb, line_again bs rest h.1)

pub lines_again : (ls : List (List ℕ)) → AllByRecursion IsLine ls → lines_in (text_of ls) ≡ ls
lines_again [] h = refl
lines_again (l ∷ ls) h = cc (append_assoc l (10 ∷ []) (text_of ls), line_again l (text_of ls) h.0, lines_again ls h.1)
