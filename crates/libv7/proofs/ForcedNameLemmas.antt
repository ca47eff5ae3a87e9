-- Forced names, taken one by one.
use Rattle.std.proofs.Common.{◌≡◌, ℕ, ◌+◌, ◌-◌, ◌<◌, suc, true, List, take, drop, Result, arith}
use Rattle.tool_options.specs.ForcedNames.{takes, with_name}
use Rattle.libv7.specs.{LinkRequests.{name_of, with_names}, declared.cause.Refusal.Refusal}

one_step : (n i : ℕ) → i < n → n - i ≡ suc (n - (i + 1))
one_step n i h = omega arith

-- a forced name more was taken
pub one_more_name : (whole : Result (List (List ℕ)) Refusal) (n i : ℕ) (names next : List (List ℕ))
    (name rest slot beyond : List ℕ) → i < n →
    whole ≡ with_names (n - i) i names rest → slot ≡ take 8 rest → beyond ≡ drop 8 rest → name ≡ name_of slot →
    takes names name ≡ true → next ≡ with_name names name → whole ≡ with_names (n - (i + 1)) (i + 1) next beyond
one_more_name whole n i names next name rest slot beyond inside so_far front back named taken is =
    rw (one_step n i inside, ← front, ← named, taken, ← is, ← back) at so_far
