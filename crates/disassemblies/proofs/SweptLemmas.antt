-- The line that begins at a place is found among the lines at their first words.
use Rattle.std.proofs.Common.{◌≡◌, ℕ, zero, suc, ◌+◌, ◌-◌, ◌≤◌, Bool, true, false, nat_lt, if◌then◌else◌, List, [], ◌∷◌, ◌++◌, length}
use Rattle.std.proofs.Common.{replicate, Option, Some, None, refl, sym, ◌∙◌, ap, subst, arith}
use Rattle.std.specs.Prelude.{slice_get}
use Rattle.aout_core.specs.Contents.{Contents}
use Rattle.instructions.specs.{declared.unix.Decoder.TheVariants.Unix, declared.unix.UnixLine.UnixLine, UnixLines.unix_length}
use Rattle.disassemblies.specs.Starts.{lines_from, start, starts, is_start, swept_line}
use Rattle.disassemblies.specs.{Listed.listed_line, internal.Swept.line_words, internal.Swept.swept}
use Rattle.disassemblies.proofs.ListedLemmas.{listed_short}

-- what is at a place
abbrev pub line_by : Option (Option UnixLine) → Option UnixLine
line_by None = None
line_by (Some o) = o

-- the words from a place on have lines, and marks of their beginnings
abbrev Says : Contents → ℕ → List (Option UnixLine) → List Bool → Type 0
Says c p lines marks = (i : ℕ) → line_by (slice_get lines i) ≡ (if is_start marks i then Some (listed_line Unix c (p + i)) else None)

moved : (c : Contents) (p q i j : ℕ) (b : Bool) → p + i ≡ q + j →
    (if b then Some (listed_line Unix c (p + i)) else None) ≡ (if b then Some (listed_line Unix c (q + j)) else None)
moved c p q i j b e = ap (λ (k : ℕ). if b then Some (listed_line Unix c k) else None) e

says_next : (c : Contents) (p : ℕ) (lines : List (Option UnixLine)) (marks : List Bool) → Says c (p + 1) lines marks →
    Says c p (None ∷ lines) (false ∷ marks)
says_next c p lines marks h zero = refl
says_next c p lines marks h (suc i) = h i ∙ moved c (p + 1) p i (suc i) (is_start marks i) (omega arith)

says_more : (c : Contents) (n p : ℕ) (lines : List (Option UnixLine)) (marks : List Bool) → Says c (p + n) lines marks →
    Says c p (replicate n None ++ lines) (replicate n false ++ marks)
says_more c zero p lines marks h = let same : p + 0 ≡ p = omega arith in subst (λ (q : ℕ). Says c q lines marks) same h
says_more c (suc n) p lines marks h =
    let same : p + suc n ≡ p + 1 + n = omega arith in
    says_next c p (replicate n None ++ lines) (replicate n false ++ marks)
    (says_more c n (p + 1) lines marks (subst (λ (q : ℕ). Says c q lines marks) same h))

says_line : (c : Contents) (n p : ℕ) (lines : List (Option UnixLine)) (marks : List Bool) → 1 ≤ n → Says c (p + n) lines marks →
    Says c p (line_words (listed_line Unix c p) n ++ lines) (start n ++ marks)
says_line c n p lines marks some h zero =
    let same : p ≡ p + 0 = omega arith in ap (λ (k : ℕ). Some (listed_line Unix c k)) same
says_line c n p lines marks some h (suc i) =
    let same : p + n ≡ p + 1 + (n - 1) = omega arith in
    let rest : Says c (p + 1) (replicate (n - 1) None ++ lines) (replicate (n - 1) false ++ marks) =
    says_more c (n - 1) (p + 1) lines marks (subst (λ (q : ℕ). Says c q lines marks) same h) in
    rest i ∙ moved c (p + 1) p i (suc i) (is_start (replicate (n - 1) false ++ marks) i) (omega arith)

says_nothing : (c : Contents) (p : ℕ) → Says c p [] []
says_nothing c p zero = refl
says_nothing c p (suc i) = refl

abbrev of_words : Contents → ℕ → ℕ → List (Option UnixLine)
of_words c place n = line_words (listed_line Unix c place) n

says_by : (c : Contents) (p n : ℕ) (lines : List (Option UnixLine)) (marks : List Bool) (t : Bool) → 1 ≤ n → Says c (p + n) lines marks →
    Says c p (if t then of_words c p n ++ lines else []) (if t then start n ++ marks else [])
says_by c p n lines marks true some h = says_line c n p lines marks some h
says_by c p n lines marks false some h = says_nothing c p

says_from : (c : Contents) (most p : ℕ) →
    Says c p (lines_from Unix c (λ place n. of_words c place n) [] most p) (lines_from Unix c (λ place n. start n) [] most p)
says_from c zero p = says_nothing c p
says_from c (suc most) p =
    let n : ℕ = unix_length (listed_line Unix c p) in
    says_by c p n (lines_from Unix c (λ place n. of_words c place n) [] most (p + n))
    (lines_from Unix c (λ place n. start n) [] most (p + n)) (nat_lt p (length c.text_words)) (listed_short Unix c p).0
    (says_from c most (p + n))

swept_at : (c : Contents) (place : ℕ) → line_by (slice_get (swept Unix c) place) ≡ swept_line c place
swept_at c place =
    says_from c (length c.text_words) 0 place ∙ moved c 0 place place 0 (is_start (starts Unix c) place) (omega arith)
    ∙ (let same : place + 0 ≡ place = omega arith in
    ap (λ (k : ℕ). if is_start (starts Unix c) place then Some (listed_line Unix c k) else None) same)

pub there : (c : Contents) (lines : List (Option UnixLine)) (place : ℕ) (line : Option UnixLine) → lines ≡ swept Unix c →
    slice_get lines place ≡ Some line → line ≡ swept_line c place
there c lines place line whole found =
    sym (ap line_by found) ∙ ap (λ (l : List (Option UnixLine)). line_by (slice_get l place)) whole ∙ swept_at c place

pub nowhere : (c : Contents) (lines : List (Option UnixLine)) (place : ℕ) → lines ≡ swept Unix c → slice_get lines place ≡ None →
    None ≡ swept_line c place
nowhere c lines place whole found =
    sym (ap line_by found) ∙ ap (λ (l : List (Option UnixLine)). line_by (slice_get l place)) whole ∙ swept_at c place

same_by : (o : UnixLine) (line : UnixLine) (t : Bool) → Some line ≡ (if t then Some o else None) → line ≡ o
same_by o line true e = cc
same_by o line false e = absurd cc

-- the line that begins at a place is the one there
pub line_there : (c : Contents) (place : ℕ) (line : UnixLine) → Some line ≡ swept_line c place → line ≡ listed_line Unix c place
line_there c place line e = same_by (listed_line Unix c place) line (is_start (starts Unix c) place) e
