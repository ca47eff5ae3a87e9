-- What a withdrawal leaves, and the objects of further definitions once one object less is left.
use Rattle.std.proofs.Common.{◌≡◌, ℕ, zero, suc, ◌+◌, ◌-◌, List, [], ◌∷◌, ◌++◌, length, take, replicate, reverse, Option, Some, None, refl}
use Rattle.std.proofs.Common.{sym, ap, ◌∙◌, arith, append_assoc, add-one}
use Rattle.std.proofs.{lemmas.List.{take-map, length-append, replicate_more, reverse-append}, Math.Seq.take-append_seam}
use Rattle.std.specs.{Prelude.IsNone, Prelude.IfSome, Prelude.String, declared.alloc.Global.Global}
use Rattle.aout_core.specs.Contents.{Contents}
use Rattle.link_session.specs.{Labelled.Labelled, Labelled.objects, Sessions.Withdraws, Sessions.labelled, Undo.Kept}
use Rattle.libv7.specs.FindingPlaces.{differing, further_among}

-- all objects but the last are left
pub all_but_last : (r : Option (String Global × Contents)) (old new : Kept) → (IsNone r → (old.entries ≡ []) × (new ≡ old)) →
    IfSome r (λ last. Withdraws old new (labelled last.0 last.1)) → new.entries ≡ take (length old.entries - 1) old.entries
all_but_last None old new none some =
    let h = none refl in rw (h.1, h.0) refl
all_but_last (Some last) old new none some =
    let e : Labelled = labelled last.0 last.1 in
    let shorter : length new.entries ≡ length (new.entries ++ e ∷ []) - 1 = omega (arith, length-append new.entries (e ∷ [])) in
    rw (some.entries, ← shorter) (sym (take-append_seam new.entries (e ∷ [])))

pub same_forced : (r : Option (String Global × Contents)) (old new : Kept) → (IsNone r → (old.entries ≡ []) × (new ≡ old)) →
    IfSome r (λ last. Withdraws old new (labelled last.0 last.1)) → new.forced ≡ old.forced
same_forced None old new none some = ap (λ (k : Kept). k.forced) (none refl).1
same_forced (Some last) old new none some = some.forced

reverse_replicate : (n x : ℕ) → reverse (replicate n x) ≡ replicate n x
reverse_replicate zero x = refl
reverse_replicate (suc n) x =
    reverse-append (x ∷ []) (replicate n x)
    ∙ ap (λ (l : List ℕ). l ++ x ∷ []) (reverse_replicate n x)
    ∙ replicate_more n x
    ∙ ap (λ (k : ℕ). replicate k x) (add-one n)

module _ (forced : List (List ℕ)) (es : List Labelled) where
  count_of : (k : Kept) (n : ℕ) → k.forced ≡ forced → k.entries ≡ take n es →
      differing k.forced (objects k.entries) ≡ differing forced (take n (objects es))
  count_of k n same are = rw (same, are) (ap (differing forced) (sym (take-map (λ (e : Labelled). e.object) n es)))

  -- one object less is left, and its number is put in so often
  pub one_less : (n times : ℕ) (old new : Kept) (numbers more whole : List ℕ) → old.forced ≡ forced → old.entries ≡ take (n + 1) es →
      new.forced ≡ forced → new.entries ≡ take n es →
      times ≡ differing old.forced (objects old.entries) - differing new.forced (objects new.entries) →
      more ≡ numbers ++ replicate times n → further_among forced (objects es) (n + 1) ++ reverse numbers ≡ whole →
      further_among forced (objects es) n ++ reverse more ≡ whole
  one_less n times old new numbers more whole old_forced old_are new_forced new_are count put so_far =
      let front = further_among forced (objects es) n in
      let on : n + 1 ≡ suc n = add-one n in
      let often : times ≡ differing forced (take (suc n) (objects es)) - differing forced (take n (objects es)) =
      count
      ∙ ap (λ (k : ℕ). k - differing new.forced (objects new.entries))
      (count_of old (n + 1) old_forced old_are ∙ ap (λ (k : ℕ). differing forced (take k (objects es))) on)
      ∙ ap (λ (k : ℕ). differing forced (take (suc n) (objects es)) - k) (count_of new n new_forced new_are) in
      rw (
        put,
        reverse-append numbers (replicate times n),
        reverse_replicate times n,
        ← append_assoc front (replicate times n) (reverse numbers),
        often,
      ) (rw on at so_far)
