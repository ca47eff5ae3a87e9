-- Chains as lists of places.
use Rattle.std.proofs.lemmas.Grind.{common_steps}
use Rattle.std.proofs.Common.{◌≡◌, ◌≢◌, ◌<◌, ◌≤◌, ◌+◌, ℕ, zero, suc, Bool, true, false, cond, ◌||◌, List, [], ◌∷◌, ◌++◌, map}
use Rattle.std.proofs.Common.{length, Some, None, nat_eq, slice_index_or, slice_set, eqb, refl, sym, ap, ◌∙◌, subst, arith, rules}
use Rattle.std.proofs.{lemmas.List.length-map, lemmas.Bool.cases_eq, lemmas.Bool.or_parts, lemmas.Bool.Decides.nat_tests}
use Rattle.std.proofs.{lemmas.Map.Keys.IsDistinct-cons, lemmas.Map.Steps.length-le_from_distinct_below}
use Rattle.std.specs.List.{IsDistinct, list_any, AllByRecursion}
use Rattle.aout_core.specs.{declared.symbol.Segment.Segment, Words.plus}
use Rattle.link_session.specs.internal.Chains.{Link, link_at, IsChain, is_on, AreApart, IsWithin, bound_to, bound_one, bound_where, nowhere}
use Rattle.link_session.specs.{internal.Chains.walk, declared.cell.Cell.Cell, declared.cell.Target.Target, declared.mark.Place.Place}
use Rattle.link_session.specs.{declared.mark.Place.TheVariants.{InText, InData}, Marks.same_place, Cells.segment_target}

-- One cell.

bound_one-set : (segment : Segment) (offset i : ℕ) (cs : List Cell) (d : Cell) → i < length cs →
    slice_set cs i (bound_to segment offset (slice_index_or cs i d)) ≡ bound_one segment offset i cs
bound_one-set segment offset i [] d h = absurd (omega arith)
bound_one-set segment offset zero (c ∷ cs) d h = refl
bound_one-set segment offset (suc i) (c ∷ cs) d h = ap (λ (l : List Cell). c ∷ l) (bound_one-set segment offset i cs d (omega arith))

-- the cell at an index bound
pub bound_at : (segment : Segment) (offset i : ℕ) (target : Target) (cs : List Cell) → i < length cs → target ≡ segment_target segment →
    slice_set cs i (record {
      value = plus (slice_index_or cs i nowhere).value offset;
      target = target;
      pc = (slice_index_or cs i nowhere).pc;
    }) ≡ bound_one segment offset i cs
bound_at segment offset i target cs h t = cc (bound_one-set segment offset i cs nowhere h)

-- one more cell is bound
pub bound_where-one : (segment : Segment) (offset : ℕ) (f g : ℕ → Bool) (i : ℕ) → f i ≡ false → g i ≡ true →
    ((j : ℕ) → i ≢ j → f j ≡ g j) → (cs : List Cell) →
    bound_one segment offset i (bound_where f segment offset cs) ≡ bound_where g segment offset cs
bound_where-one segment offset f g i off on others [] = refl
bound_where-one segment offset f g zero off on others (c ∷ cs) = search rules
bound_where-one segment offset f g (suc i) off on others (c ∷ cs) =
    λ k. cond (others 0 (λ e. omega arith) k) (bound_to segment offset c) c ∷ bound_where-one segment offset
    (λ n. f (suc n)) (λ n. g (suc n)) i off on (λ j ne. others (suc j) (λ e. ne (omega arith))) cs k

-- the loop over a chain begins so
pub none_bound : (segment : Segment) (offset : ℕ) (cs : List Cell) → cs ≡ bound_where (λ i. false) segment offset cs
none_bound segment offset [] = refl
none_bound segment offset (c ∷ cs) = ap (λ (l : List Cell). c ∷ l) (none_bound segment offset cs)

-- binding changes no number of cells
pub length-bound_where : (test : ℕ → Bool) (segment : Segment) (offset : ℕ) (cs : List Cell) →
    length (bound_where test segment offset cs) ≡ length cs
length-bound_where test segment offset [] = refl
length-bound_where test segment offset (c ∷ cs) = ap suc (length-bound_where (λ i. test (suc i)) segment offset cs)

-- the cell at an index
pub index_where : (test : ℕ → Bool) (segment : Segment) (offset : ℕ) (cs : List Cell) (i : ℕ) → (test i ≡ true → i < length cs) →
    slice_index_or (bound_where test segment offset cs) i nowhere
    ≡ cond (test i) (bound_to segment offset (slice_index_or cs i nowhere)) (slice_index_or cs i nowhere)
index_where test segment offset [] i h = search rules
index_where test segment offset (c ∷ cs) zero h = refl
index_where test segment offset (c ∷ cs) (suc i) h =
    index_where (λ n. test (suc n)) segment offset cs i (λ e. let below = h e in omega arith)

-- Places.

-- a place that is added at the end of a list is on it, and no other comes
pub on_last : (ps : List Place) (p q : Place) → is_on (ps ++ q ∷ []) p ≡ (is_on ps p || same_place p q)
on_last [] p q = search rules
on_last (x ∷ ps) p q = search (rules, on_last ps p q)

-- these two compute tests of numbers: of a number with itself
pub own_number : (i : ℕ) → nat_eq i i ≡ true
own_number i = grind (arith, nat_tests)

-- and with another one
pub other_number : (i j : ℕ) → i ≢ j → nat_eq i j ≡ false
other_number i j ne = grind (arith, nat_tests)

-- these two compute a test of two parts: if the second part fails
pub or_false : (t : Bool) → (t || false) ≡ t
or_false t = search rules

-- and if it holds
pub or_true : (t : Bool) → (t || true) ≡ true
or_true t = search rules

same_sym : (p q : Place) → same_place p q ≡ same_place q p
same_sym p q = search rules

-- the test of two places decides whether they are equal
pub same_is : (p q : Place) → same_place p q ≡ true → p ≡ q
same_is p q e = search rules

-- two parts of a chain
pub on_either : (ps qs : List Place) (p : Place) → is_on (ps ++ qs) p ≡ (is_on ps p || is_on qs p)
on_either [] qs p = refl
on_either (x ∷ ps) qs p = search (rules, on_either ps qs p)

-- if the places of a list differ, so do those of each part
pub apart_parts : (ps qs : List Place) → AreApart (ps ++ qs) → AreApart ps × AreApart qs
apart_parts [] qs h = (tt, h)
apart_parts (p ∷ ps) qs h = search (rules, or_parts, on_either, apart_parts ps qs h.1)

-- and no place is in both parts
pub apart_from : (ps qs : List Place) → AreApart (ps ++ qs) → (p : Place) → is_on ps p ≡ true → is_on qs p ≡ false
apart_from [] qs h p e = absurd (cc)
apart_from (q ∷ ps) qs h p e = search (rules, same_is, or_parts, on_either, apart_from ps qs h.1 p)

-- the place after a prefix of a chain is not in that prefix
pub not_after : (done rest : List Place) (p : Place) → AreApart (done ++ p ∷ rest) → is_on done p ≡ false
not_after [] rest p h = refl
not_after (q ∷ done) rest p h = grind (arith, common_steps, same_sym, or_parts, not_after done rest p h.1)

-- At most as many places as there are cells.

abbrev number : ℕ → Place → ℕ
number t (InText i) = i
number t (InData j) = t + j

numbers_apart : (t d : ℕ) (p q : Place) → IsWithin t d p → IsWithin t d q → same_place p q ≡ false → eqb (number t p) (number t q) ≡ false
numbers_apart t d p q h k e = search rules

all_apart : (t d : ℕ) (p : Place) → IsWithin t d p → (ps : List Place) → AllByRecursion (IsWithin t d) ps →
    is_on ps p ≡ false → AllByRecursion (λ y. eqb (number t p) y ≡ false) (map (number t) ps)
all_apart t d p h [] k e = tt
all_apart t d p h (q ∷ ps) k e =
    let parts = or_parts (same_place p q) (is_on ps p) e in (numbers_apart t d p q h k.0 parts.0, all_apart t d p h ps k.1 parts.1)

distinct : (t d : ℕ) (ps : List Place) → AreApart ps → AllByRecursion (IsWithin t d) ps → IsDistinct eqb (map (number t) ps)
unfolding IsDistinct
distinct t d [] a h = tt
distinct t d (p ∷ ps) a h = IsDistinct-cons eqb (number t p) (map (number t) ps) (all_apart t d p h.0 ps h.1 a.0) (distinct t d ps a.1 h.1)

number_below : (t d : ℕ) (p : Place) → IsWithin t d p → number t p < t + d
number_below t d p h = search rules

below : (t d : ℕ) (ps : List Place) → AllByRecursion (IsWithin t d) ps → (q : ℕ) → list_any (eqb q) (map (number t) ps) ≡ true → q < t + d
below t d [] h q e = absurd (cc)
below t d (p ∷ ps) h q e = search (rules, cases_eq, number_below, other_number, below t d ps h.1 q)

-- places that differ are no more than the words of the image: so each walk along a chain ends
pub few_places : (t d : ℕ) (ps : List Place) → AreApart ps → AllByRecursion (IsWithin t d) ps → length ps ≤ t + d
few_places t d ps a h = omega (
  arith,
  length-le_from_distinct_below (map (number t) ps) (t + d) (distinct t d ps a h) (below t d ps h),
  distinct t d ps a h,
  below t d ps h,
  length-map ps (number t),
)

-- a place on a list of places inside the cells is inside
pub on_inside : (t d : ℕ) (ps : List Place) (p : Place) → AllByRecursion (IsWithin t d) ps → is_on ps p ≡ true → IsWithin t d p
on_inside t d [] p h e = absurd (cc)
on_inside t d (q ∷ ps) p h e = search (rules, nat_tests, on_inside t d ps p h.1)

-- Walks.

-- a head leads along one chain only
pub chain-unique : (ts ds : List Link) (head : Link) (ps qs : List Place) → IsChain ts ds head ps → IsChain ts ds head qs → ps ≡ qs
chain-unique ts ds head [] [] a b = refl
chain-unique ts ds head [] (q ∷ qs) a b = absurd (let e = sym a ∙ b.0 in cc)
chain-unique ts ds head (p ∷ ps) [] a b = absurd (let e = sym b ∙ a.0 in cc)
chain-unique ts ds head (p ∷ ps) (q ∷ qs) a b =
    let same : p ≡ q = (let e = sym a.0 ∙ b.0 in cc) in
    let tail = chain-unique ts ds (link_at ts ds q) ps qs (subst (λ (r : Place). IsChain ts ds (link_at ts ds r) ps) same a.1) b.1 in
    λ j. same j ∷ tail j

-- a walk that may take enough steps visits the chain
pub walk-is : (n : ℕ) (ts ds : List Link) (next : Link) (rest : List Place) → IsChain ts ds next rest →
    length rest ≤ n → walk n ts ds next ≡ rest
walk-is zero ts ds next [] c h = refl
walk-is zero ts ds next (p ∷ ps) c h = absurd (omega arith)
walk-is (suc n) ts ds next [] c h = ap (walk (suc n) ts ds) c
walk-is (suc n) ts ds next (p ∷ ps) c h = cc (walk-is n ts ds (link_at ts ds p) ps c.1 (omega arith))

-- the first place of what is ahead
pub record Ahead (ts ds : List Link) (rest : List Place) (p : Place) : Type 0 where
  pub tail : List Place
  pub is : rest ≡ p ∷ tail
  pub goes_on : IsChain ts ds (link_at ts ds p) tail

-- at a next place, the rest of the chain begins with that place
pub next_ahead : (ts ds : List Link) (next : Link) (rest : List Place) (p : Place) → IsChain ts ds next rest →
    next ≡ Some p → Ahead ts ds rest p
next_ahead ts ds next [] p c e = absurd (let bad = sym c ∙ e in cc)
next_ahead ts ds next (q ∷ rest) p c e = search rules

-- without a next place, nothing of the chain is left
pub none_ahead : (ts ds : List Link) (next : Link) (rest : List Place) → IsChain ts ds next rest → next ≡ None → rest ≡ []
none_ahead ts ds next [] c e = refl
none_ahead ts ds next (q ∷ rest) c e = absurd (let bad = sym e ∙ c.0 in cc)
