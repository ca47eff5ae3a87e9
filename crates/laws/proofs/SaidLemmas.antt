-- What the entries of objects say of names, and the mentions that they make: multiples are definitions that differ.
use Rattle.std.proofs.Common.{◌≡◌, ℕ, true, List, [], ◌∷◌, ◌++◌, Some}
use Rattle.std.proofs.{Common.{subst}}
use Rattle.std.specs.{Prelude.slice_get, List.AllByRecursion}
use Rattle.aout_core.specs.WellFormed.{is_external}
use Rattle.aout_core.specs.{declared.symbol.Symbol.Symbol, Contents.Contents}
use Rattle.link_session.specs.Mentions.{Mention, mention, mentions, mentions_in}
use Rattle.link_session.proofs.{ListLemmas.all_split, MentionLemmas.mentions-append, NeighbourLemmas.blocks}
use Rattle.laws.proofs.IndexLemmas.{all_filtered}

-- what holds of all mentions holds of the one that an entry makes
pub of_entry : (P : Mention → Type 0) (forced : List (List ℕ)) (before : List Contents) (k : Contents)
    (after : List Contents) → AllByRecursion P (mentions forced (before ++ k ∷ after)) →
    (j : ℕ) (s : Symbol) → slice_get k.symbols j ≡ Some s → is_external s ≡ true → P (mention before k s)
of_entry P forced before k after all j s e outer =
    let split : AllByRecursion P (mentions forced before ++ (mentions_in before k ++ blocks mentions_in (before ++ k ∷ []) after)) =
    subst (λ (ms : List Mention). AllByRecursion P ms) (mentions-append forced before (k ∷ after)) all in
    let rest = (all_split P (mentions forced before) (mentions_in before k ++ blocks mentions_in (before ++ k ∷ []) after) split).1 in
    let own = (all_split P (mentions_in before k) (blocks mentions_in (before ++ k ∷ []) after) rest).0 in
    all_filtered P (mention before k) is_external k.symbols j s own e outer
