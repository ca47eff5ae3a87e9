-- A name is multiply defined as often as there are objects of further definitions.
use Rattle.std.proofs.Common.{◌≡◌, ℕ, zero, suc, ◌+◌, ◌-◌, ◌≤◌, List, [], ◌∷◌, ◌++◌, length, map, take, replicate, refl, sym, ap, subst}
use Rattle.std.proofs.{Common.{◌∙◌, arith, append-nil, length-append}, lemmas.List.{length-replicate, take_all}}
use Rattle.std.specs.{Prelude.filter, List.flat_map}
use Rattle.aout_core.specs.Contents.{Contents}
use Rattle.link_session.specs.{Earlier.with_earlier, Mentions.Mention, Mentions.forced_mention, Mentions.mentions, Mentions.mentions_in}
use Rattle.link_session.specs.{States.differs, States.first_definition, States.multiple_names}
use Rattle.link_session.proofs.{MentionLemmas.mentions-append, MultipleLemmas.multiple_names-append}
use Rattle.libv7.specs.FindingPlaces.{differing, further_among, further_objects}

-- the names of `-u` are wanted, so none of them is defined again
none_forced : (all : List Mention) (names : List (List ℕ)) →
    filter (λ m. differs (first_definition all m.name) m.says) (map forced_mention names) ≡ []
none_forced all [] = refl
none_forced all (name ∷ names) = none_forced all names

none_without_objects : (forced : List (List ℕ)) → differing forced [] ≡ 0
none_without_objects forced =
    ap (λ (ms : List Mention). length (multiple_names ms)) (append-nil (map forced_mention forced))
    ∙ ap (λ (ms : List Mention). length (map (λ (m : Mention). m.name) ms)) (none_forced (map forced_mention forced) forced)

-- further objects take none of them away
grows : (forced : List (List ℕ)) (os ps : List Contents) → differing forced os ≤ differing forced (os ++ ps)
grows forced os ps =
    by_mentions (mentions forced (os ++ ps)) (flat_map (λ p. mentions_in p.0 p.1) (with_earlier os ps)) (mentions-append forced os ps)
  where
    by_mentions : (all more : List Mention) → all ≡ mentions forced os ++ more → differing forced os ≤ length (multiple_names all)
    by_mentions all more e =
        let again = map (λ (m : Mention). m.name)
        (filter (λ m. differs (first_definition (mentions forced os ++ more) m.name) m.says) more) in
        omega (
          arith,
          ap (λ (ms : List Mention). length (multiple_names ms)) e,
          ap (λ (ns : List (List ℕ)). length ns) (multiple_names-append (mentions forced os) more),
          length-append (multiple_names (mentions forced os)) again,
        )

one_more : (n : ℕ) (os : List Contents) → (ps : List Contents) × (take (suc n) os ≡ take n os ++ ps)
one_more zero os = (take 1 os, refl)
one_more (suc n) [] = ([], refl)
one_more (suc n) (o ∷ os) =
    let rest = one_more n os in (rest.0, ap (λ (ps : List Contents). o ∷ ps) rest.1)

counted : (forced : List (List ℕ)) (os : List Contents) (n : ℕ) → length (further_among forced os n) ≡ differing forced (take n os)
counted forced os zero = sym (none_without_objects forced)
counted forced os (suc n) =
    let more = one_more n os in
    let times = differing forced (take (suc n) os) - differing forced (take n os) in
    let fewer : differing forced (take n os) ≤ differing forced (take (suc n) os) =
    subst (λ (ps : List Contents). differing forced (take n os) ≤ differing forced ps) (sym more.1) (grows forced (take n os) more.0) in
    omega (
      arith,
      length-append (further_among forced os n) (replicate times n),
      length-replicate times n,
      counted forced os n,
      fewer,
    )

pub as_many : (forced : List (List ℕ)) (os : List Contents) →
    length (further_objects forced os) ≡ length (multiple_names (mentions forced os))
as_many forced os = counted forced os (length os) ∙ ap (λ (ps : List Contents). differing forced ps) (take_all (length os) os (omega arith))
