-- Rows of items, one for each number.
use Rattle.std.proofs.{Common.{◌≡◌, ℕ, ◌+◌, List, [], ◌∷◌, ◌++◌, map, arith}, lemmas.List.FromFn.map-range_with_len_more}
use Rattle.std.specs.List.{range_with_len}

-- a row with one item more
pub row_more : {A : Type 0} (f : ℕ → A) (n : ℕ) (before after : List A) (x : A) →
    before ≡ map f (range_with_len 0 n) → after ≡ before ++ x ∷ [] → x ≡ f n → after ≡ map f (range_with_len 0 (n + 1))
row_more f n before after x row pushed item = cc (map-range_with_len_more f 0 n n (omega arith))

pub ruleset rows = (row_more, map-range_with_len_more)
