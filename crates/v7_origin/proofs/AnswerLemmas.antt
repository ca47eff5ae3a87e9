-- The answer with what was found.
use Rattle.std.proofs.Common.{arith, ◌≡◌, ℕ, ◌⊎◌, Bool, true, false, if◌then◌else◌, codes, [], refl, ap, ◌∙◌, inl, inr}
use Rattle.std.specs.Prelude.{List}
use Rattle.aout_core.specs.{Contents.Contents, Words.letter_of}
use Rattle.host.specs.{Answer.Answer, Arguments.Given, Arguments.has_letter}
use Rattle.v7_origin.specs.{Runs.IsFound, Whole.IsWhole, Whole.Source}

is_status : (is_whole : Bool) (status : ℕ) → status ≡ (if is_whole then 0 else 1) → (status ≡ 0) ⊎ (status ≡ 1)
is_status true status e = inl e
is_status false status e = inr e

whole_by_status : (is_whole : Bool) (status : ℕ) → status ≡ (if is_whole then 0 else 1) → status ≡ 0 → is_whole ≡ true
whole_by_status true status e z = refl
whole_by_status false status e z = absurd (omega (arith, e, z))

pub found_answer : (given : Given) (program : Contents) (sources : List Source) (is_quiet is_whole : Bool) (a : Answer) →
    is_quiet ≡ has_letter given.letters (letter_of (codes "q")) → (is_whole ≡ true → IsWhole program sources) →
    a.status ≡ (if is_whole then 0 else 1) → (is_quiet ≡ true → a.output ≡ []) → a.errors ≡ [] → IsFound given program sources a
found_answer given program sources is_quiet is_whole a asked whole e quiet no_errors = record {
  ends = is_status is_whole a.status e;
  whole = λ z. whole (whole_by_status is_whole a.status e z);
  quiet = λ q. quiet (asked ∙ q);
  no_errors = no_errors;
}
