-- The places that lead to more, one after the other.
use Rattle.std.proofs.Common.{◌≡◌, ℕ, zero, suc, ◌+◌, ◌-◌, ◌<◌, ◌≤◌, refl, sym, ap, ◌∙◌, inl, inr, arith}
use Rattle.std.proofs.{lemmas.Bool.{cases_lt, eq-eqb, lt-ltb, le-ltb}, lemmas.List.get_or_past, lemmas.List.Folds.list_any_at}
use Rattle.std.specs.Prelude.{Bool, true, false, eqb, List, length, get_or, slice_index}
use Rattle.aout_core.specs.Contents.{Contents}
use Rattle.checks.specs.{declared.evidence.Evidence.Evidence, Reached.{leads_to, visited_all, spread}, internal.Marks.AreMarks}

-- the step of `spread`, if a place is left
first : (e : Evidence) (c : Contents) (more next : ℕ) (found : List ℕ) → next < length found →
    spread e c (suc more) next found
    ≡ spread e c more (next + 1) (visited_all (length c.text_words) found (leads_to e c (slice_index found next)))
first e c more next found h = rw (lt-ltb next (length found) h) refl

pub spread_more : (e : Evidence) (c : Contents) (n next : ℕ) (found new whole : List ℕ) → next < n → next < length found →
    new ≡ visited_all (length c.text_words) found (leads_to e c (slice_index found next)) → spread e c (n - next) next found ≡ whole →
    spread e c (n - (next + 1)) (next + 1) new ≡ whole
spread_more e c n next found new whole inside h is so_far =
    let left : n - next ≡ suc (n - (next + 1)) = omega arith in
    ap (λ (l : List ℕ). spread e c (n - (next + 1)) (next + 1) l) is
    ∙ sym (ap (λ (k : ℕ). spread e c k next found) left ∙ first e c (n - (next + 1)) next found h)
    ∙ so_far

-- no place is left
pub spread_all : (e : Evidence) (c : Contents) (more next : ℕ) (found : List ℕ) → length found ≤ next → spread e c more next found ≡ found
spread_all e c zero next found h = refl
spread_all e c (suc more) next found h = rw (le-ltb next (length found) h) refl

-- each place that has been found is one of the text
pub found_inside : (marks : List Bool) (found : List ℕ) (next d : ℕ) → AreMarks marks found → next < length found →
    get_or found next d < length marks
found_inside marks found next d h inside =
    let place : ℕ = get_or found next d in
    let marked : get_or marks place false ≡ true =
    h place ∙ list_any_at (eqb place) found next d inside (eq-eqb place place refl) in
    elim (cases_lt place (length marks)) [
      | inl below ↦ below
      | inr above ↦ let none : get_or marks place false ≡ false = get_or_past marks place false above in absurd cc
    ]
