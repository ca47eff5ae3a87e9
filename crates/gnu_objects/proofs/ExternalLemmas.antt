-- Externals of several files, and what a map finds for their names.
use Rattle.std.proofs.Common.{◌≡◌, ℕ, ◌+◌, ◌<◌, ◌||◌, Bool, false, if◌then◌else◌, List, [], ◌∷◌, ◌++◌, drop, take, length, Option}
use Rattle.std.proofs.{Common.{Some, None, get_or, append_assoc, sym, ap, ◌∙◌, subst, rules}, lemmas.List.{drop_more, map_more}}
use Rattle.std.proofs.lemmas.List.Folds.{list_any-append}
use Rattle.std.specs.{List.list_any, Option.is_some}
use Rattle.indexmap.specs.IndexMap.{IndexMap}
use Rattle.gnu_objects.specs.{Staying.are_alike, internal.AlikeNames.{found, PutsName}, internal.Externals.{HasNames, names_in}}
use Rattle.gnu_objects.specs.{Clashes.{alike_after, clashing}, declared.alike.Equals.Equals, declared.external.External.External}

last_first : (a b : Bool) → (a || (b || false)) ≡ (b || a)
last_first a b = search rules

any_more : (p : List ℕ → Bool) (xs : List (List ℕ)) (x : List ℕ) → list_any p (xs ++ x ∷ []) ≡ (p x || list_any p xs)
any_more p xs x = list_any-append p xs (x ∷ []) ∙ last_first (list_any p xs) (p x)

some_or : (t : Bool) (n : ℕ) (o : Option ℕ) → is_some (if t then Some n else o) ≡ (t || is_some o)
some_or t n o = search rules

-- one external more
names_done : (all : List External) (i : ℕ) (e : External) → i < length all → e ≡ get_or all i e →
    names_in (take (i + 1) all) ≡ names_in (take i all) ++ e.name.now ∷ []
names_done all i e within at =
    map_more (λ (x : External). x.name.now) all i e within ∙ ap (λ (x : External). names_in (take i all) ++ x.name.now ∷ []) (sym at)

names_left : (all : List External) (i : ℕ) (e : External) → i < length all → e ≡ get_or all i e →
    names_in (drop i all) ≡ e.name.now ∷ names_in (drop (i + 1) all)
names_left all i e within at =
    ap names_in (drop_more all i e within) ∙ ap (λ (x : External). x.name.now ∷ names_in (drop (i + 1) all)) (sym at)

module _ (all : List External) (i : ℕ) (e : External) where
  abbrev adds : List (List ℕ)
  adds = clashing (names_in (take i all)) e.name.now

  -- what it adds to the names that were found
  pub found_more : (so_far found : List (List ℕ)) → i < length all → e ≡ get_or all i e → found ≡ so_far ++ adds →
      alike_after [] (names_in all) ≡ so_far ++ alike_after (names_in (take i all)) (names_in (drop i all)) →
      alike_after [] (names_in all) ≡ found ++ alike_after (names_in (take (i + 1) all)) (names_in (drop (i + 1) all))
  found_more so_far found within at is left =
      left ∙ ap (λ (l : List (List ℕ)). so_far ++ alike_after (names_in (take i all)) l) (names_left all i e within at)
      ∙ ap (λ (l : List (List ℕ)). so_far ++ (adds ++ alike_after l (names_in (drop (i + 1) all)))) (sym (names_done all i e within at))
      ∙ sym (append_assoc so_far adds (alike_after (names_in (take (i + 1) all)) (names_in (drop (i + 1) all))))
      ∙ ap (λ (l : List (List ℕ)). l ++ alike_after (names_in (take (i + 1) all)) (names_in (drop (i + 1) all))) (sym is)

module _ {S : Type 0} where
  pub no_names : (names : IndexMap (List ℕ) Equals S) → ((q : List ℕ) → found names q ≡ None) → HasNames [] names
  no_names names none q = ap is_some (none q)

  -- a name more is put in
  pub has_more : (done : List (List ℕ)) (name : List ℕ) (number : ℕ) (old new : IndexMap (List ℕ) Equals S) →
      HasNames done old → PutsName name number old new → HasNames (done ++ name ∷ []) new
  has_more done name number old new has puts q =
      ap is_some (puts q) ∙ some_or (are_alike q name) number (found old q) ∙ ap (λ (b : Bool). are_alike q name || b) (has q)
      ∙ sym (any_more (are_alike q) done name)

  pub has_next : (all : List External) (i : ℕ) (e : External) (number : ℕ) (old new : IndexMap (List ℕ) Equals S) → i < length all →
      e ≡ get_or all i e → HasNames (names_in (take i all)) old → PutsName e.name.now number old new → HasNames (names_in (take (i + 1) all)) new
  has_next all i e number old new within at has puts =
      subst (λ (l : List (List ℕ)). HasNames l new) (sym (names_done all i e within at))
      (has_more (names_in (take i all)) e.name.now number old new has puts)
