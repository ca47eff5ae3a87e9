-- The orders of nm are those of std's comparisons by a key.
use Rattle.std.proofs.Common.{◌≡◌, ℕ, Bool, true, false, ◌&&◌, ◌||◌, cond, eqb, List, refl, ap, ◌∙◌, nat_lt, nat_cmp, is_lt}
use Rattle.std.proofs.{lemmas.Cmp.{nat_cmp_total, nat_list_cmp_total, on_total, then_total}, lemmas.List.MinMax.ranks_by}
use Rattle.std.specs.{List.Sorted.{IsSortedByKey, IsStableByKey}, declared.cmp.Ordering.TheVariants.{Less, Equal, Greater}}
use Rattle.std.specs.{Cmp.Lexicographic.slice_cmp, Ordering.ordering_then, declared.cmp.Ordering.Ordering}
use Rattle.aout_core.specs.declared.symbol.Symbol.{Symbol}
use Rattle.symtools.specs.NmLists.{name_before, value_before, in_order}
use Rattle.symtools.proofs.SortLemmas.{in_order-from_sort}

abbrev pub name_of : Symbol → List ℕ
name_of s = s.name

abbrev pub value_and_name : Symbol → ℕ × List ℕ
value_and_name s = (s.value, s.name)

abbrev pub pair_cmp : ℕ × List ℕ → ℕ × List ℕ → Ordering
pair_cmp p q = ordering_then (nat_cmp p.0 q.0) (slice_cmp nat_cmp p.1 q.1)

first-or-second : (less equal : Bool) (r : Ordering) →
    is_lt (ordering_then (cond less Less (cond equal Equal Greater)) r) ≡ less || (equal && is_lt r)
first-or-second true equal r = refl
first-or-second false true r = refl
first-or-second false false r = refl

by-pair : (s t : Symbol) → is_lt (pair_cmp (value_and_name s) (value_and_name t)) ≡ value_before s t
by-pair s t = first-or-second (nat_lt s.value t.value) (eqb s.value t.value) (slice_cmp nat_cmp s.name t.name)

pub sorted_by_name : (xs ys : List Symbol) → IsSortedByKey name_of (slice_cmp nat_cmp) ys →
    IsStableByKey name_of (slice_cmp nat_cmp) xs ys → ys ≡ in_order name_before xs
sorted_by_name xs ys sorted stable = in_order-from_sort name_before (ranks_by nat_list_cmp_total name_of) xs ys sorted stable

pub sorted_by_value : (xs ys : List Symbol) → IsSortedByKey value_and_name pair_cmp ys →
    IsStableByKey value_and_name pair_cmp xs ys → ys ≡ in_order value_before xs
sorted_by_value xs ys sorted stable =
    let total = then_total (on_total (λ (p : ℕ × List ℕ). p.0) nat_cmp_total) (on_total (λ (p : ℕ × List ℕ). p.1) nat_list_cmp_total) in
    in_order-from_sort (λ s t. is_lt (pair_cmp (value_and_name s) (value_and_name t))) (ranks_by total value_and_name) xs ys sorted stable
    ∙ ap (λ before. in_order before xs) (λ i s t. by-pair s t i)
