-- The places that are found are those that are reached: each is, and none is missed, since there are no more than words of text.
use Rattle.std.proofs.Common.{◌≡◌, ℕ, zero, suc, ◌+◌, ◌/◌, ◌%◌, ◌<◌, ◌≤◌, Option, Some, None, refl, sym, ap, ◌∙◌, inl, inr, arith}
use Rattle.std.proofs.Common.{append_assoc, rules}
use Rattle.std.proofs.lemmas.Bool.{cases_eq, eq-eqb, ne_eqb, eqb-true, ltb-true, ltb-false, lt-ltb, not-true, or_cases, and_parts}
use Rattle.std.proofs.{lemmas.Cmp.nat_eq_equiv, lemmas.Map.Keys.IsDistinct-push, lemmas.Map.Steps.length-le_from_distinct_below}
use Rattle.std.proofs.{lemmas.List.{get_or_append_left, append-nil}, lemmas.List.Folds.{list_any-append, list_any_at}}
use Rattle.std.specs.Prelude.{Bool, true, false, not, ◌&&◌, ◌||◌, eqb, nat_lt, if◌then◌else◌, List, [], ◌∷◌, ◌++◌, length, slice_index}
use Rattle.std.specs.List.{list_any, IsDistinct}
use Rattle.aout_core.specs.Contents.{Contents}
use Rattle.checks.specs.declared.evidence.Evidence.{Evidence}
use Rattle.checks.specs.Reached.{leads_to, is_new, visited, visited_all, evident, spread, reached, is_reached}
use Rattle.checks.specs.ReachedLaw.{is_place, IsReached, Evident, Led, ReachedLaw}

abbrev has : ℕ → List ℕ → Bool
has p found = list_any (eqb p) found

or-false : (b : Bool) → (b || false) ≡ b
or-false b = search rules

or-true : (b : Bool) → (b || true) ≡ true
or-true b = search rules

-- with one place more, if a test holds
same_place : (even below there : Bool) (p : ℕ) (found : List ℕ) → has p found ≡ there →
    has p (if even && (below && not there) then found ++ p ∷ [] else found) ≡ (there || ((even && true) && below))
same_place even below there p found e = search (rules, list_any-append, eq-eqb, or-false, or-true)

other_place : (new : Bool) (p k : ℕ) (found : List ℕ) → eqb p k ≡ false → has p (if new then found ++ k ∷ [] else found) ≡ has p found
other_place new p k found e = search (rules, list_any-append, or-false)

none_more : (even below there : Bool) → (there || ((even && false) && below)) ≡ there
none_more even below there = search rules

-- a place has been found after an address if it had been before, or if it has the address
visited_has : (n p : ℕ) (found : List ℕ) (o : Option ℕ) → has p (visited n found o) ≡ (has p found || (is_place p o && nat_lt p n))
visited_has n p found None = sym (or-false (has p found))
visited_has n p found (Some a) = elim (cases_eq (a / 2) p) [
  | inl e ↦ ap (λ (k : ℕ). has p (if eqb (a % 2) 0 && (nat_lt k n && not (has k found)) then found ++ k ∷ [] else found)) e
      ∙ same_place (eqb (a % 2) 0) (nat_lt p n) (has p found) p found refl
      ∙ ap (λ (b : Bool). has p found || ((eqb (a % 2) 0 && b) && nat_lt p n)) (sym (eq-eqb (a / 2) p e))
  | inr e ↦ other_place (is_new n found a) p (a / 2) found (ne_eqb p (a / 2) (λ h. e (sym h)))
      ∙ sym (none_more (eqb (a % 2) 0) (nat_lt p n) (has p found))
      ∙ ap (λ (b : Bool). has p found || ((eqb (a % 2) 0 && b) && nat_lt p n)) (sym (ne_eqb (a / 2) p e))
]

in_either : (a h l b : Bool) → ((a || (h && b)) || (l && b)) ≡ (a || ((h || l) && b))
in_either a h l b = search rules

visited_all_has : (n p : ℕ) (found : List ℕ) (os : List (Option ℕ)) →
    has p (visited_all n found os) ≡ (has p found || (list_any (is_place p) os && nat_lt p n))
visited_all_has n p found [] = sym (or-false (has p found))
visited_all_has n p found (o ∷ os) =
    visited_all_has n p (visited n found o) os
    ∙ ap (λ (b : Bool). b || (list_any (is_place p) os && nat_lt p n)) (visited_has n p found o)
    ∙ in_either (has p found) (is_place p o) (list_any (is_place p) os) (nat_lt p n)

-- a place to which one of the addresses leads has been found
visited_led : (n p : ℕ) (found : List ℕ) (os : List (Option ℕ)) → list_any (is_place p) os ≡ true → p < n →
    has p (visited_all n found os) ≡ true
visited_led n p found os led below = rw (visited_all_has n p found os, led, lt-ltb p n below) (or-true (has p found))

-- each place that is found is reached

abbrev AreReached : Evidence → Contents → List ℕ → Type 0
AreReached v c found = (p : ℕ) → has p found ≡ true → IsReached v c p

more_reached : (v : Evidence) (c : Contents) (found : List ℕ) (os : List (Option ℕ)) → AreReached v c found →
    ((p : ℕ) → p < length c.text_words → list_any (is_place p) os ≡ true → IsReached v c p) →
    AreReached v c (visited_all (length c.text_words) found os)
more_reached v c found os before led p e =
    let n : ℕ = length c.text_words in
    elim (or_cases (has p found) (list_any (is_place p) os && nat_lt p n) (sym (visited_all_has n p found os) ∙ e)) [
      | inl h ↦ before p h
      | inr h ↦ let both : (list_any (is_place p) os ≡ true) × (nat_lt p n ≡ true) = and_parts (list_any (is_place p) os) (nat_lt p n) h in
          led p (ltb-true p n both.1) both.0
    ]

member_at : (found : List ℕ) (next : ℕ) → next < length found → has (slice_index found next) found ≡ true
member_at found next h =
    list_any_at (eqb (slice_index found next)) found next 0 h (eq-eqb (slice_index found next) (slice_index found next) refl)

spread_reached : (v : Evidence) (c : Contents) (more next : ℕ) (found : List ℕ) → AreReached v c found →
    AreReached v c (spread v c more next found)
spread_reached v c zero next found before = before
spread_reached v c (suc more) next found before =
    by (nat_lt next (length found)) refl
    (λ h. spread_reached v c more (next + 1) (visited_all (length c.text_words) found (leads_to v c (slice_index found next))) h)
  where
    by : (t : Bool) → nat_lt next (length found) ≡ t →
        (AreReached v c (visited_all (length c.text_words) found (leads_to v c (slice_index found next))) →
        AreReached v c (spread v c more (next + 1) (visited_all (length c.text_words) found (leads_to v c (slice_index found next))))) →
        AreReached v c (if t then spread v c more (next + 1)
        (visited_all (length c.text_words) found (leads_to v c (slice_index found next))) else found)
    by true e later = later (more_reached v c found (leads_to v c (slice_index found next)) before
        (λ p below led. Led (slice_index found next) p
        (before (slice_index found next) (member_at found next (ltb-true next (length found) e))) below led))
    by false e later = before

none_found : (v : Evidence) (c : Contents) → AreReached v c []
none_found v c p e = absurd cc

only_reached : (v : Evidence) (c : Contents) (p : ℕ) → is_reached v c p ≡ true → IsReached v c p
only_reached v c =
    let n : ℕ = length c.text_words in
    spread_reached v c n 0 (visited_all n [] (evident v c))
    (more_reached v c [] (evident v c) (none_found v c) (λ p below led. Evident p below led))

-- no place that is reached is missed

abbrev Grows : List ℕ → List ℕ → Type 0
Grows old new = (more : List ℕ) × (new ≡ old ++ more)

grows_by : (old : List ℕ) → Grows old old
grows_by old = ([], sym (append-nil old))

grows_twice : (a b c : List ℕ) → Grows a b → Grows b c → Grows a c
grows_twice a b c (x, e) (y, h) = (x ++ y, h ∙ ap (λ (l : List ℕ). l ++ y) e ∙ append_assoc a x y)

visited_grows : (n : ℕ) (found : List ℕ) (o : Option ℕ) → Grows found (visited n found o)
visited_grows n found None = grows_by found
visited_grows n found (Some a) = by (is_new n found a)
  where
    by : (t : Bool) → Grows found (if t then found ++ a / 2 ∷ [] else found)
    by true = (a / 2 ∷ [], refl)
    by false = grows_by found

visited_all_grows : (n : ℕ) (found : List ℕ) (os : List (Option ℕ)) → Grows found (visited_all n found os)
visited_all_grows n found [] = grows_by found
visited_all_grows n found (o ∷ os) =
    grows_twice found (visited n found o) (visited_all n (visited n found o) os) (visited_grows n found o)
    (visited_all_grows n (visited n found o) os)

grown_has : (p : ℕ) (old new : List ℕ) → Grows old new → has p old ≡ true → has p new ≡ true
grown_has p old new (more, e) h =
    ap (has p) e ∙ list_any-append (eqb p) old more ∙ ap (λ (b : Bool). b || has p more) h

grown_at : (old new : List ℕ) (j : ℕ) → Grows old new → j < length old → slice_index new j ≡ slice_index old j
grown_at old new j (more, e) h = ap (λ (l : List ℕ). slice_index l j) e ∙ get_or_append_left old more 0 j h

place_of_member : (p : ℕ) (xs : List ℕ) → has p xs ≡ true → (j : ℕ) × (j < length xs) × (slice_index xs j ≡ p)
place_of_member p [] e = absurd cc
place_of_member p (x ∷ xs) e = elim (or_cases (eqb p x) (has p xs) e) [
  | inl h ↦ (0, omega arith, sym (eqb-true p x h))
  | inr h ↦ let (j, below, is) = place_of_member p xs h in (suc j, omega arith, is)
]

visited_distinct : (n : ℕ) (found : List ℕ) (o : Option ℕ) → IsDistinct eqb found → IsDistinct eqb (visited n found o)
visited_distinct n found None d = d
visited_distinct n found (Some a) d = by (is_new n found a) refl
  where
    by : (t : Bool) → is_new n found a ≡ t → IsDistinct eqb (if t then found ++ a / 2 ∷ [] else found)
    by true e =
        let new : not (has (a / 2) found) ≡ true =
        (and_parts (nat_lt (a / 2) n) (not (has (a / 2) found))
        (and_parts (eqb (a % 2) 0) (nat_lt (a / 2) n && not (has (a / 2) found)) e).1).1 in
        IsDistinct-push nat_eq_equiv found (a / 2) d (not-true (has (a / 2) found) new)
    by false e = d

visited_all_distinct : (n : ℕ) (found : List ℕ) (os : List (Option ℕ)) → IsDistinct eqb found → IsDistinct eqb (visited_all n found os)
visited_all_distinct n found [] d = d
visited_all_distinct n found (o ∷ os) d = visited_all_distinct n (visited n found o) os (visited_distinct n found o d)

visited_all_below : (n : ℕ) (found : List ℕ) (os : List (Option ℕ)) → ((p : ℕ) → has p found ≡ true → p < n) →
    (p : ℕ) → has p (visited_all n found os) ≡ true → p < n
visited_all_below n found os before p e =
    elim (or_cases (has p found) (list_any (is_place p) os && nat_lt p n) (sym (visited_all_has n p found os) ∙ e)) [
      | inl h ↦ before p h
      | inr h ↦ ltb-true p n (and_parts (list_any (is_place p) os) (nat_lt p n) h).1
    ]

-- what `spread` keeps: each place that was found before the next one has led to those that it leads to
record IsSpreadTo (v : Evidence) (c : Contents) (next : ℕ) (found : List ℕ) : Type 0 where
  distinct : IsDistinct eqb found
  below : (p : ℕ) → has p found ≡ true → p < length c.text_words
  done : (j p : ℕ) → j < next → j < length found → p < length c.text_words →
      list_any (is_place p) (leads_to v c (slice_index found j)) ≡ true → has p found ≡ true

next_spread : (v : Evidence) (c : Contents) (next : ℕ) (found : List ℕ) → IsSpreadTo v c next found → next < length found →
    IsSpreadTo v c (next + 1) (visited_all (length c.text_words) found (leads_to v c (slice_index found next)))
next_spread v c next found w inside =
    let n : ℕ = length c.text_words in
    let os : List (Option ℕ) = leads_to v c (slice_index found next) in
    let new : List ℕ = visited_all n found os in
    let grows : Grows found new = visited_all_grows n found os in record {
      distinct = visited_all_distinct n found os w.distinct;
      below = visited_all_below n found os w.below;
      done = λ j p before there below led. elim (cases_eq j next) [
        | inl e ↦
            let early : j < length found = omega arith in
            let same : slice_index new j ≡ slice_index found next = grown_at found new j grows early ∙ ap (slice_index found) e in
            visited_led n p found os (sym (ap (λ (k : ℕ). list_any (is_place p) (leads_to v c k)) same) ∙ led) below
        | inr e ↦
            let earlier : j < next = omega arith in
            let early : j < length found = omega arith in
            grown_has p found new grows
            (w.done j p earlier early below
            (sym (ap (λ (k : ℕ). list_any (is_place p) (leads_to v c k)) (grown_at found new j grows early)) ∙ led))
      ];
    }

abbrev IsClosed : Evidence → Contents → List ℕ → Type 0
IsClosed v c found =
    (q p : ℕ) → has q found ≡ true → p < length c.text_words → list_any (is_place p) (leads_to v c q) ≡ true →
    has p found ≡ true

spread_to_end : (v : Evidence) (c : Contents) (next : ℕ) (found : List ℕ) → IsSpreadTo v c next found → length found ≤ next → IsClosed v c found
spread_to_end v c next found w all q p member below led =
    let (j, inside, is) = place_of_member q found member in
    w.done j p (omega arith) inside below (ap (λ (k : ℕ). list_any (is_place p) (leads_to v c k)) is ∙ led)

spread_closed : (v : Evidence) (c : Contents) (more next : ℕ) (found : List ℕ) → IsSpreadTo v c next found → length c.text_words ≤ more + next →
    IsClosed v c (spread v c more next found)
spread_closed v c zero next found w enough =
    let few : length found ≤ length c.text_words = length-le_from_distinct_below found (length c.text_words) w.distinct w.below in
    spread_to_end v c next found w (omega arith)
spread_closed v c (suc more) next found w enough =
    by (nat_lt next (length found)) refl
    (λ h. spread_closed v c more (next + 1)
    (visited_all (length c.text_words) found (leads_to v c (slice_index found next))) h (omega arith))
  where
    by : (t : Bool) → nat_lt next (length found) ≡ t →
        (IsSpreadTo v c (next + 1) (visited_all (length c.text_words) found (leads_to v c (slice_index found next))) →
        IsClosed v c (spread v c more (next + 1) (visited_all (length c.text_words) found (leads_to v c (slice_index found next))))) →
        IsClosed v c (if t then spread v c more (next + 1)
        (visited_all (length c.text_words) found (leads_to v c (slice_index found next))) else found)
    by true e later = later (next_spread v c next found w (ltb-true next (length found) e))
    by false e later = spread_to_end v c next found w (ltb-false next (length found) e)

spread_grows : (v : Evidence) (c : Contents) (more next : ℕ) (found : List ℕ) → Grows found (spread v c more next found)
spread_grows v c zero next found = grows_by found
spread_grows v c (suc more) next found =
    by (nat_lt next (length found))
    (spread_grows v c more (next + 1) (visited_all (length c.text_words) found (leads_to v c (slice_index found next))))
  where
    by : (t : Bool) → Grows (visited_all (length c.text_words) found (leads_to v c (slice_index found next)))
        (spread v c more (next + 1) (visited_all (length c.text_words) found (leads_to v c (slice_index found next)))) →
        Grows found (if t then spread v c more (next + 1)
        (visited_all (length c.text_words) found (leads_to v c (slice_index found next))) else found)
    by true later =
        let os : List (Option ℕ) = leads_to v c (slice_index found next) in
        let new : List ℕ = visited_all (length c.text_words) found os in
        grows_twice found new (spread v c more (next + 1) new) (visited_all_grows (length c.text_words) found os) later
    by false later = grows_by found

-- where the search begins
abbrev begun : Evidence → Contents → List ℕ
begun v c = visited_all (length c.text_words) [] (evident v c)

begun_spread : (v : Evidence) (c : Contents) → IsSpreadTo v c 0 (begun v c)
unfolding IsDistinct
begun_spread v c = record {
  distinct = visited_all_distinct (length c.text_words) [] (evident v c) tt;
  below = visited_all_below (length c.text_words) [] (evident v c) (λ p e. absurd cc);
  done = λ j p before there below led. absurd (omega arith);
}

none_missed : (v : Evidence) (c : Contents) (p : ℕ) → IsReached v c p → is_reached v c p ≡ true
none_missed v c p (Evident place below led) =
    grown_has place (begun v c) (reached v c) (spread_grows v c (length c.text_words) 0 (begun v c))
    (visited_led (length c.text_words) place [] (evident v c) led below)
none_missed v c p (Led from place r below led) =
    spread_closed v c (length c.text_words) 0 (begun v c) (begun_spread v c) (omega arith) from place (none_missed v c from r) below led

pub reached_law : ReachedLaw
reached_law v c p = (only_reached v c p, none_missed v c p)
