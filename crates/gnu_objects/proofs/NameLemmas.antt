-- The bytes before the first NUL have none.
use Rattle.std.proofs.{Common.{◌≡◌, ◌==◌, ℕ, List, take, Some, None, sym, ap, ◌∙◌}, Math.Seq.take-length}
use Rattle.std.specs.List.{position}
use Rattle.aout_core.proofs.NameLemmas.{nul_found, nul_missing, take-before_nul, before_nul-twice}
use Rattle.aout_core.specs.Names.{before_nul}

-- what `position` answered
pub front_found : (xs : List ℕ) (n : ℕ) → Some n ≡ position (λ b. b == 0) xs → take n xs ≡ before_nul xs
front_found xs n e = ap (λ k. take k xs) (nul_found xs n e) ∙ take-before_nul xs

pub front_missing : (xs : List ℕ) → None ≡ position (λ b. b == 0) xs → xs ≡ before_nul xs
front_missing xs e = sym (take-length xs) ∙ ap (λ k. take k xs) (nul_missing xs e) ∙ take-before_nul xs

-- the same bytes have no NUL
pub no_nul_in : (name xs : List ℕ) → name ≡ before_nul xs → before_nul name ≡ name
no_nul_in name xs e = ap before_nul e ∙ before_nul-twice xs ∙ sym e

pub ruleset fronts = (front_found, front_missing, no_nul_in)
