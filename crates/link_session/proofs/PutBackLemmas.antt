-- Marks put back one by one, the last one first.
use Rattle.std.proofs.lemmas.Grind.{common_steps}
use Rattle.std.proofs.Common.{◌≡◌, ℕ, zero, suc, ◌+◌, ◌-◌, ◌<◌, List, [], ◌∷◌, ◌++◌, take, length, get_or, refl, arith, add-one, rules}
use Rattle.link_session.specs.{declared.mark.Mark.Mark, Image.Image, Undo.put_back, Undo.put_all_back}
use Rattle.link_session.specs.{internal.Threads.Threads, internal.Fields.with_heads_back}
use Rattle.link_session.proofs.ChainBackLemmas.{heads_back-append}

put_front : (ks : List Mark) (n : ℕ) (d : Mark) (m : Image) → n < length ks →
    put_all_back (take (n + 1) ks) m ≡ put_all_back (take n ks) (put_back (get_or ks n d) m)
put_front [] n d m h = absurd (omega arith)
put_front (k ∷ ks) zero d m h = refl
put_front (k ∷ ks) (suc n) d m h = search (rules, add-one, put_front ks n d m (omega arith))

-- i marks are put back, and now the one before them
pub put_next : (ks : List Mark) (i : ℕ) (d : Mark) (m : Image) → i < length ks → put_all_back (take (length ks - i) ks) m
    ≡ put_all_back (take (length ks - (i + 1)) ks) (put_back (get_or ks (length ks - 1 - i) d) m)
put_next ks i d m h = search (rules, put_front)

take_one_more : {A : Type 0} (xs : List A) (n : ℕ) (d : A) → n < length xs → take (n + 1) xs ≡ take n xs ++ get_or xs n d ∷ []
take_one_more [] n d h = absurd (omega arith)
take_one_more (x ∷ xs) zero d h = refl
take_one_more {A = A} (x ∷ xs) (suc n) d h = search (rules, add-one, take_one_more xs n d (omega arith))

-- the same of the heads
pub head_next : (ks : List Mark) (i : ℕ) (d : Mark) (t : Threads) → i < length ks → with_heads_back (take (length ks - i) ks)
    t ≡ with_heads_back (take (length ks - (i + 1)) ks) (with_heads_back (get_or ks (length ks - 1 - i) d ∷ []) t)
head_next ks i d t h = grind (arith, common_steps, take_one_more, heads_back-append)
