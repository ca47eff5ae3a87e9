-- The multiples after more mentions.
use Rattle.std.proofs.Common.{◌≡◌, List, [], ◌∷◌, ◌++◌, map, refl, ◌∙◌, ap, append_assoc, rules}
use Rattle.std.proofs.{lemmas.List.map-append, lemmas.Slice.Eq.bytes_eq-Decides, lemmas.List.Elements.filter-append}
use Rattle.std.specs.Prelude.{filter}
use Rattle.link_session.specs.{States.{first_definition, differs, multiple_names}, Mentions.Mention}
use Rattle.link_session.proofs.StateLemmas.{first_definition-append}

-- a mention among these differs from the first definition as it did, whatever comes later
differs_still : (front : List Mention) (m : Mention) (back later : List Mention) →
    differs (first_definition ((front ++ m ∷ back) ++ later) m.name) m.says ≡ differs (first_definition (front ++ m ∷ back) m.name) m.says
differs_still front m back later = search (rules, bytes_eq-Decides, first_definition-append)

-- the multiples after more mentions: the earlier ones, and then those among the later mentions
pub multiple_names-append : (ms ns : List Mention) →
    multiple_names (ms ++ ns)
    ≡ multiple_names ms ++ map (λ m. m.name) (filter (λ m. differs (first_definition (ms ++ ns) m.name) m.says) ns)
multiple_names-append ms ns =
    ap (λ (all : List Mention). map (λ m. m.name) all)
    (filter-append (λ m. differs (first_definition (ms ++ ns) m.name) m.says) ms ns ∙ rw (from [] ms) refl)
    ∙ map-append (λ (m : Mention). m.name) (filter (λ m. differs (first_definition ms m.name) m.says) ms)
    (filter (λ m. differs (first_definition (ms ++ ns) m.name) m.says) ns)
  where
    from : (front back : List Mention) → filter (λ m. differs (first_definition ((front ++ back) ++ ns) m.name) m.says)
        back ≡ filter (λ m. differs (first_definition (front ++ back) m.name) m.says) back
    from front [] = refl
    from front (m ∷ back) =
        let rest : filter (λ m'. differs (first_definition ((front ++ m ∷ back) ++ ns) m'.name) m'.says) back
        ≡ filter (λ m'. differs (first_definition (front ++ m ∷ back) m'.name) m'.says) back =
        rw (append_assoc front (m ∷ []) back) at (from (front ++ m ∷ []) back) in
        rw (differs_still front m back ns, rest) refl
