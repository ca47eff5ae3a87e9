-- The laws at samples: their premises can be met.
use Rattle.std.specs.{Prelude.{◌≡◌, ℕ, ◌<◌, Bool, true, List, [], ◌∷◌, Ok, Err, refl, nat_lt, Result}, List.{AllByRecursion, list_all}}
use Rattle.std.proofs.lemmas.Bool.{and_parts, ltb-true}
use Rattle.link_out.specs.{declared.linked.LinkFault.LinkFault, function.Link.Outcome, function.Link.link, laws.PartialLinks.IsPartialLink}
use Rattle.link_out.proofs.partial_links.PartialTheorem.{partial_replaces_among}
use Rattle.laws.proofs.examples.Samples.{e_o, p_o, q_o, r_o, plain_s, relocatable}

abbrev pub outcome_of : Result Outcome LinkFault → Outcome
outcome_of (Ok x) = x
outcome_of (Err e) = record {
  file = e_o;
  report = record { multiples = []; reserved = []; entry_bad = Rattle.std.specs.Prelude.None; undefined = [] };
}

abbrev m3 : Outcome
m3 = outcome_of (link [] (q_o ∷ r_o ∷ []) relocatable)

m3_is_partial : IsPartialLink [] (q_o ∷ r_o ∷ []) relocatable m3
m3_is_partial = record { allowed = refl; relocatable = refl; no_commons = refl; linked = refl }

partial_says : link [] (p_o ∷ m3.file ∷ []) plain_s ≡ link [] (p_o ∷ (q_o ∷ (r_o ∷ []))) plain_s
partial_says =
    partial_replaces_among [] (p_o ∷ []) (q_o ∷ r_o ∷ []) [] relocatable plain_s m3 (refl, tt)
    (refl, (refl, tt)) tt m3_is_partial (λ name h. absurd (cc)) refl

-- what a test shows of each of a list
pub all_so : {A : Type 0} (test : A → Bool) (Q : A → Type 0) → ((x : A) → test x ≡ true → Q x) →
    (xs : List A) → list_all test xs ≡ true → AllByRecursion Q xs
all_so test Q so [] h = tt
all_so test Q so (x ∷ xs) h = let parts = and_parts (test x) (list_all test xs) h in (so x parts.0, all_so test Q so xs parts.1)

pub below : (bytes : List ℕ) → list_all (λ (b : ℕ). nat_lt b 256) bytes ≡ true → AllByRecursion (λ (b : ℕ). b < 256) bytes
below bytes h = all_so (λ (b : ℕ). nat_lt b 256) (λ (b : ℕ). b < 256) (λ b e. ltb-true b 256 e) bytes h
