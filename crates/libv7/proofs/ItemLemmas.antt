-- A list encoded item by item, as far as a loop has come.
use Rattle.std.proofs.Common.{◌≡◌, ℕ, ◌+◌, ◌<◌, ◌≤◌, List, ◌++◌, length, drop, slice_index_or, Some, append_assoc, append-nil, sym}
use Rattle.std.proofs.lemmas.{List.{drop_all, drop_more}, Option.{slice_get_within, get_or_from_slice_get}}
use Rattle.std.specs.Prelude.{slice_get}
use Rattle.libv7.specs.Items.{each_from}

module _ {A B : Type 0} (encoded : ℕ → A → List B) (xs : List A) (i : ℕ) (x : A) where
  -- the item of this index was encoded
  pub one_more : (whole text next : List B) → i < length xs → x ≡ slice_index_or xs i x →
      whole ≡ text ++ each_from encoded i (drop i xs) → next ≡ text ++ encoded i x →
      whole ≡ next ++ each_from encoded (i + 1) (drop (i + 1) xs)
  one_more whole text next inside is so_far more = rw (more, append_assoc) (rw (drop_more xs i x inside, ← is) at so_far)

  pub one_more_at : (whole text next : List B) → slice_get xs i ≡ Some x → whole ≡ text ++ each_from encoded i (drop i xs) →
      next ≡ text ++ encoded i x → whole ≡ next ++ each_from encoded (i + 1) (drop (i + 1) xs)
  one_more_at whole text next at so_far more =
      one_more whole text next (slice_get_within xs i x at) (sym (get_or_from_slice_get xs i x x at)) so_far more

-- all items were encoded
pub all_encoded : {A B : Type 0} (encoded : ℕ → A → List B) (xs : List A) (i : ℕ) (whole text : List B) →
    length xs ≤ i → whole ≡ text ++ each_from encoded i (drop i xs) → text ≡ whole
all_encoded encoded xs i whole text end so_far = sym (rw (drop_all i xs end, append-nil) at so_far)

pub ruleset by_item = (one_more, all_encoded)
