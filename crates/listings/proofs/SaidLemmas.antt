-- What is said beside a file is skipped by a reader.
use Rattle.std.proofs.lemmas.Grind.{common_steps}
use Rattle.std.proofs.Common.{◌≡◌, ℕ, Bool, true, false, eqb, List, [], ◌∷◌, ◌++◌, refl, arith, rules, append_assoc, ap, sym, ◌∙◌}
use Rattle.std.proofs.lemmas.Bool.Decides.{nat_tests}
use Rattle.std.specs.{Prelude.{◌≢◌, codes, ◌&&◌, not, nat_le, if◌then◌else◌, Ok}, List.{AllByRecursion, list_all}}
use Rattle.listings.specs.{Columns.{Row, row_of}, Drafts.Draft, Listing.{IsLine, IsSkipped, AreSkipped, remarked}}
use Rattle.listings.specs.Reading.{begins_with_digit, is_decimal, is_label, row_by, row_read}
use Rattle.texts.specs.Lines.{text_of}
use Rattle.texts.proofs.LineLemmas.{two_texts}

byte_high : (b : ℕ) (bs : List ℕ) (t : Bool) → nat_le 32 b ≡ t → (t && list_all (λ (b : ℕ). nat_le 32 b) bs) ≡ true →
    (list_all (λ (b : ℕ). nat_le 32 b) bs ≡ true → IsLine bs) → IsLine (b ∷ bs)
byte_high b bs true e h more = (grind (arith, nat_tests), more h)
byte_high b bs false e h more = absurd (cc)

pub plain_line : (bs : List ℕ) → list_all (λ (b : ℕ). nat_le 32 b) bs ≡ true → IsLine bs
plain_line [] h = tt
plain_line (b ∷ bs) h = byte_high b bs (nat_le 32 b) refl h (plain_line bs)

pub note_skipped : (l : List ℕ) → IsLine l → IsSkipped (47 ∷ l)
note_skipped l h = ((omega arith, h), λ d. refl)

either : {A : Type 0} (t : Bool) (x : A) → (if t then x else x) ≡ x
either true x = refl
either false x = refl

skipped_by : (first : List ℕ) (d : Draft) (r : Row) → begins_with_digit first ≡ false → is_label r ≡ true → row_by first d r ≡ Ok d
skipped_by [] d r digit label = refl
skipped_by (b ∷ bs) d r digit label = rw (digit, label) (either (eqb b 47) (Ok d))

both_parts : (x y : Bool) → (not x && y) ≡ true → (x ≡ false) × (y ≡ true)
both_parts true y h = absurd (cc)
both_parts false y h = (refl, h)

pub label_skipped : (l : List ℕ) → list_all (λ (b : ℕ). nat_le 32 b) l ≡ true →
    (not (begins_with_digit (row_of l).first) && is_label (row_of l)) ≡ true → IsSkipped l
label_skipped l plain label =
    let both = both_parts (begins_with_digit (row_of l).first) (is_label (row_of l)) label in
    (plain_line l plain, λ d. skipped_by (row_of l).first d (row_of l) both.0 both.1)

pub skipped_append : (xs ys : List (List ℕ)) → AreSkipped xs → AreSkipped ys → AreSkipped (xs ++ ys)
skipped_append [] ys hx hy = hy
skipped_append (x ∷ xs) ys hx hy = (hx.0, skipped_append xs ys hx.1 hy)

-- a note that was put
pub note_bytes : (t0 t1 t2 t3 l : List ℕ) → t1 ≡ t0 ++ 47 ∷ [] → t2 ≡ t1 ++ l → t3 ≡ t2 ++ 10 ∷ [] → t3 ≡ t0 ++ text_of ((47 ∷ l) ∷ [])
note_bytes t0 t1 t2 t3 l e1 e2 e3 = grind (arith, common_steps)

pub line_bytes : (t0 t1 t2 l : List ℕ) → t1 ≡ t0 ++ l → t2 ≡ t1 ++ 10 ∷ [] → t2 ≡ t0 ++ text_of (l ∷ [])
line_bytes t0 t1 t2 l e1 e2 = grind (arith, common_steps)

-- more lines after those that were put
pub more_lines : (t0 t1 t2 : List ℕ) (xs ys : List (List ℕ)) → t1 ≡ t0 ++ text_of xs → t2 ≡ t1 ++ text_of ys → t2 ≡ t0 ++ text_of (xs ++ ys)
more_lines t0 t1 t2 xs ys e1 e2 =
    e2
    ∙ ap (λ (t : List ℕ). t ++ text_of ys) e1
    ∙ append_assoc t0 (text_of xs) (text_of ys)
    ∙ ap (λ (t : List ℕ). t0 ++ t) (sym (two_texts xs ys))

-- a remark that was put, as it is or after a slash
pub said_bytes : (t0 t1 t2 said : List ℕ) → said ≢ [] → t1 ≡ t0 ++ codes "  " → t2 ≡ t1 ++ said → t2 ≡ t0 ++ remarked said
said_bytes t0 t1 t2 [] some e1 e2 = absurd (some refl)
said_bytes t0 t1 t2 (b ∷ bs) some e1 e2 = grind (arith, common_steps)

pub slash_bytes : (t0 t1 t2 t3 l : List ℕ) → t1 ≡ t0 ++ codes "  " → t2 ≡ t1 ++ 47 ∷ [] → t3 ≡ t2 ++ l → t3 ≡ t0 ++ remarked (47 ∷ l)
slash_bytes t0 t1 t2 t3 l e1 e2 e3 = grind (arith, common_steps)
