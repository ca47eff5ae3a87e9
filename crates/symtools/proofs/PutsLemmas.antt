-- What a call on a wire leaves, by its answer, and a row of texts of which one more went out.
use Rattle.std.proofs.Common.{◌≡◌, ℕ, ◌+◌, ◌<◌, List, [], ◌∷◌, ◌++◌, length, take, slice_index_or, Option, Ok, Err, IsTrue, is_ok, Bool}
use Rattle.std.proofs.Common.{true, false, true≢false, refl, sym, ap, ◌∙◌, subst, append-nil}
use Rattle.std.proofs.{KnownBytes.Appends-trans, lemmas.Grind.flat_map-append, lemmas.List.take_more}
use Rattle.std.specs.{List.flat_map, Io.KnownBytes.Appends}

-- a call that answers a fault wherever the latch is on leaves it off on success
pub not_failed : {T E : Type 0} (x : T) (e : E) (latch : Bool) → (IsTrue latch → Ok x ≡ Err e) → latch ≡ false
not_failed x e true told = absurd (true≢false (ap is_ok (told refl)))
not_failed x e false told = refl

-- of a row of texts the one at place i went out too
pub row_more : {A : Type 0} (encoding : A → List ℕ) (items : List A) (i : ℕ) (item : A) (a b c : Option (List ℕ)) →
    i < length items → item ≡ slice_index_or items i item →
    Appends a b (flat_map encoding (take i items)) → Appends b c (encoding item) → Appends a c (flat_map encoding (take (i + 1) items))
row_more encoding items i item a b c within is sent one =
    let split : flat_map encoding (take i items) ++ encoding item ≡ flat_map encoding (take (i + 1) items) =
    ap (λ l. flat_map encoding (take i items) ++ l) (ap encoding is ∙ sym (append-nil (encoding (slice_index_or items i item))))
    ∙ sym (flat_map-append encoding (take i items) (slice_index_or items i item ∷ []))
    ∙ ap (flat_map encoding) (sym (take_more items i item within)) in
    subst (Appends a c) split (Appends-trans a b c _ _ sent one)
