-- Bytes that wait in a block.
use Rattle.std.proofs.Common.{◌≡◌, ℕ, ◌+◌, ◌-◌, ◌≤◌, List, length, take, drop, slice_range, sym, ◌∙◌, ap, arith, drop-drop, length-drop}
use Rattle.std.proofs.{Common.length-take-le, lemmas.List.drop-take}

-- what is left of a part of a list, once its front was taken
pub slice_range-front : (xs : List ℕ) (start end n : ℕ) → n ≤ end - start →
    slice_range xs (start + n) end ≡ drop n (slice_range xs start end)
slice_range-front xs start end n h =
    let size : end - (start + n) ≡ end - start - n = omega arith in
    let whole : n + (end - start - n) ≡ end - start = omega arith in
    ap (λ k. take k (drop (start + n) xs)) size
    ∙ ap (take (end - start - n)) (sym (drop-drop n start xs))
    ∙ sym (drop-take n (end - start - n) (drop start xs))
    ∙ ap (λ k. drop n (take k (drop start xs))) whole

-- how long a part of a list is
pub length-slice_range : (xs : List ℕ) (start end : ℕ) → end ≤ length xs → length (slice_range xs start end) ≡ end - start
length-slice_range xs start end h = length-take-le (end - start) (drop start xs) (omega (arith, length-drop start xs))
