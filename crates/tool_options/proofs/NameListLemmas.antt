-- Names seen, and names that are new after them.
use Rattle.std.proofs.Common.{◌≡◌, ℕ, Bool, true, false, cond, ◌||◌, List, [], ◌∷◌, ◌++◌, refl, ◌∙◌, ap, append_assoc, append-nil, sym}
use Rattle.std.proofs.{lemmas.List.Folds.list_any-append, lemmas.Slice.Eq.bytes_eq-Decides}
use Rattle.std.specs.Prelude.{bytes_eq}
use Rattle.tool_options.specs.NameLists.{is_among, new_names}

pub new_names-append : (seen xs ys : List (List ℕ)) → new_names seen (xs ++ ys) ≡ new_names seen xs ++ new_names (seen ++ xs) ys
new_names-append seen [] ys = rw append-nil refl
new_names-append seen (x ∷ xs) ys = by_test (is_among seen x) (new_names-append (seen ++ x ∷ []) xs ys ∙ rw append_assoc refl)
  where
    by_test : (t : Bool) → new_names (seen ++ x ∷ []) (xs ++ ys) ≡ new_names (seen ++ x ∷ []) xs ++ new_names (seen ++ (x ∷ xs)) ys →
        cond t (new_names (seen ++ x ∷ []) (xs ++ ys)) (x ∷ new_names (seen ++ x ∷ []) (xs ++ ys))
        ≡ cond t (new_names (seen ++ x ∷ []) xs) (x ∷ new_names (seen ++ x ∷ []) xs) ++ new_names (seen ++ (x ∷ xs)) ys
    by_test true shorter = shorter
    by_test false shorter = ap (λ (ns : List (List ℕ)). x ∷ ns) shorter

pub is_among-append : (xs ys : List (List ℕ)) (name : List ℕ) → is_among (xs ++ ys) name ≡ (is_among xs name || is_among ys name)
is_among-append xs ys name = list_any-append (bytes_eq name) xs ys

-- a name equal to one that is seen is seen
same_is_among : (seen : List (List ℕ)) (x name : List ℕ) → is_among seen x ≡ true → bytes_eq name x ≡ true → is_among seen name ≡ true
same_is_among seen x name h e = let same : name ≡ x = (bytes_eq-Decides name x).0 e in rw same h

-- the two steps of the next lemma, on tests: s, whether the name is seen; b, whether it is the first one; n and m, whether it
-- is among the rest
seen_first : (s b n m : Bool) → (b ≡ true → s ≡ true) → ((s || (b || false)) || n) ≡ ((s || (b || false)) || m) → (s || n) ≡ (s || (b || m))
seen_first true b n m h e = refl
seen_first false true n m h e = absurd (let f : false ≡ true = h refl in cc)
seen_first false false n m h e = e

new_first : (s b n m : Bool) → ((s || (b || false)) || n) ≡ ((s || (b || false)) || m) → (s || (b || n)) ≡ (s || (b || m))
new_first true b n m e = refl
new_first false true n m e = refl
new_first false false n m e = e

-- what is seen, or kept as new, is what is seen or mentioned
pub is_among-new_names : (seen names : List (List ℕ)) (name : List ℕ) →
    (is_among seen name || is_among (new_names seen names) name) ≡ (is_among seen name || is_among names name)
is_among-new_names seen [] name = refl
is_among-new_names seen (x ∷ xs) name = by_test (is_among seen x) refl (is_among-new_names (seen ++ x ∷ []) xs name)
  where
    by_test : (t : Bool) → is_among seen x ≡ t →
        (is_among (seen ++ x ∷ []) name || is_among (new_names (seen ++ x ∷ []) xs) name)
        ≡ (is_among (seen ++ x ∷ []) name || is_among xs name) →
        (is_among seen name || is_among (cond t (new_names (seen ++ x ∷ []) xs) (x ∷ new_names (seen ++ x ∷ []) xs)) name)
        ≡ (is_among seen name || (bytes_eq name x || is_among xs name))
    by_test true e shorter =
        seen_first (is_among seen name) (bytes_eq name x) (is_among (new_names (seen ++ x ∷ []) xs) name)
        (is_among xs name) (same_is_among seen x name e) (rw is_among-append at shorter)
    by_test false e shorter =
        new_first (is_among seen name) (bytes_eq name x) (is_among (new_names (seen ++ x ∷ []) xs) name)
        (is_among xs name) (rw is_among-append at shorter)

-- a name seen once more
pub seen_again : (seen : List (List ℕ)) (x : List ℕ) → is_among seen x ≡ true → (n : List ℕ) → is_among (seen ++ x ∷ []) n ≡ is_among seen n
seen_again seen x h n = is_among-append seen (x ∷ []) n ∙ by_test (bytes_eq n x) refl (is_among seen n) refl
  where
    by_test : (t : Bool) → bytes_eq n x ≡ t → (s : Bool) → is_among seen n ≡ s → (s || (t || false)) ≡ s
    by_test t te true se = refl
    by_test false te false se = refl
    by_test true te false se = absurd (let bad : false ≡ true = sym se ∙ same_is_among seen x n h te in cc)

-- what is new depends only on which names are seen
pub new_names-seen : (a b xs : List (List ℕ)) → ((n : List ℕ) → is_among a n ≡ is_among b n) → new_names a xs ≡ new_names b xs
new_names-seen a b [] h = refl
new_names-seen a b (x ∷ xs) h =
    let rest : new_names (a ++ x ∷ []) xs ≡ new_names (b ++ x ∷ []) xs = new_names-seen (a ++ x ∷ []) (b ++ x ∷ []) xs more in
    λ i. cond (h x i) (rest i) (x ∷ rest i)
  where
    more : (n : List ℕ) → is_among (a ++ x ∷ []) n ≡ is_among (b ++ x ∷ []) n
    more n = is_among-append a (x ∷ []) n ∙ ap (λ (t : Bool). t || is_among (x ∷ []) n) (h n) ∙ sym (is_among-append b (x ∷ []) n)
