-- A partial link that defines no name which is multiply defined stands for its objects, multiples included.
use Rattle.std.proofs.Common.{◌≡◌, ◌≢◌, ℕ, Bool, true, false, List, [], ◌∷◌, ◌++◌, map, Option, Some, None, refl, sym, ◌∙◌, ap, subst}
use Rattle.std.proofs.{Common.rules, lemmas.List.Elements.filter-append}
use Rattle.std.specs.{Prelude.bytes_eq, Prelude.filter, List.AllByRecursion}
use Rattle.aout_core.specs.{declared.symbol.Segment.Segment, Contents.Contents, Words.plus, WellFormed.IsWellFormed, WellFormed.first_of}
use Rattle.link_session.specs.{declared.state.State.State, declared.state.State.TheVariants.{Defined, Wanted}}
use Rattle.link_session.specs.Mentions.{Mention, mentions, mentions_in, names_by_first_mention}
use Rattle.link_session.specs.States.{Definition, definition_by, first_definition, state, differs, multiple_names}
use Rattle.tool_options.specs.{NameLists.is_among, declared.options.Keep.Keep, declared.options.Keep.TheVariants.Nothing, Choices.Choices}
use Rattle.link_session.proofs.NeighbourLemmas.{as_long_append, as_long_self, start, blocks_same, mentions_in_same, raise, raised}
use Rattle.link_session.proofs.AgreementLemmas.{AgreesIn, not_multiple, one_definition, none_defines, no_definition, of_each_name}
use Rattle.link_session.proofs.{AgreementLemmas.{none_kept, own_again}, StateLemmas.first_definition-append}
use Rattle.link_session.proofs.{ListLemmas.{all_split, all_map}, MentionLemmas.mentions-append, UpdateLemmas.{definition_of, own_name}}
use Rattle.link_out.specs.function.Link.{Outcome, link}
use Rattle.link_out.specs.laws.PartialLinks.{KeepsNoMore, IsPartialLink, IsPart, DefinitionsAreKept, DefinesNoMultiple}
use Rattle.link_out.proofs.{partial_links.PartialLemmas.partial_file, partial_links.PartialNames.{HasTable, has_table, final_mention}}
use Rattle.link_out.proofs.partial_links.SameLinks.{with_multiples, own_multiples}
use Rattle.link_out.proofs.partial_links.NeighbourMentions.{partial_as_long, whole_said, back_said, front_said, mentions_of_whole}
use Rattle.link_out.proofs.partial_links.NeighbourMentions.{final_after, state_after}
use Rattle.link_out.proofs.partial_links.PartialAmong.{other_forced, states_alike, link_alike, start_after, kept_holds, partial_options}

-- the objects define no multiple of all
module _ (own forced : List (List ℕ)) (part : IsPart own forced) (bs os cs : List Contents) (keep : Keep)
    (entry : Option (List ℕ)) (table : keep ≢ Nothing) (single : DefinesNoMultiple forced bs os cs) where
  abbrev has : HasTable own os keep entry
  has = has_table own os keep entry table

  abbrev later : HasTable forced os keep entry
  later = has_table forced os keep entry table

  abbrev all : List Mention
  all = mentions forced (bs ++ (os ++ cs))

  abbrev among : List Mention
  among = mentions forced (bs ++ partial_file own os keep entry ∷ cs)

  abbrev fore : List Mention
  fore = front_said forced bs os cs keep entry later

  abbrev inner : List Mention
  inner = whole_said forced bs os cs keep entry later

  abbrev back : List Mention
  back = back_said forced bs os cs keep entry later

  abbrev one : List Mention
  one = mentions_in bs (partial_file own os keep entry)

  all_split_up : all ≡ fore ++ (inner ++ back)
  all_split_up = mentions_of_whole forced bs os cs keep entry later

  among_split_up : among ≡ fore ++ (one ++ back)
  among_split_up = mentions-append forced bs (partial_file own os keep entry ∷ cs)
      ∙ ap (λ (ms : List Mention). fore ++ (one ++ ms))
      (blocks_same mentions_in mentions_in_same (bs ++ partial_file own os keep entry ∷ []) (bs ++ os) cs
      (as_long_append bs bs (partial_file own os keep entry ∷ []) os (as_long_self bs) (partial_as_long own bs os cs keep entry has)))

  -- the first definition after the others
  inner_definition : (name : List ℕ) → first_definition inner name ≡ definition_by (raised bs (state (mentions [] os) name))
  inner_definition name = cc (definition_of inner name, state_after forced bs os cs keep entry later name, other_forced forced [] os name)

  not_defined : (s : State) → definition_by s ≡ None → definition_by (raised bs s) ≡ None
  not_defined s h = search rules

  inner_agrees_for : (name : List ℕ) (t : Bool) → is_among (multiple_names all) name ≡ t →
      AllByRecursion (λ m. bytes_eq name m.name ≡ true → AgreesIn all m) inner
  inner_agrees_for name false h =
      let everywhere : AllByRecursion (λ m. bytes_eq name m.name ≡ true → AgreesIn all m) (fore ++ (inner ++ back)) =
      subst (λ (ms : List Mention). AllByRecursion (λ m. bytes_eq name m.name ≡ true → AgreesIn all m) ms) all_split_up
      (not_multiple all all name h) in
      (all_split (λ m. bytes_eq name m.name ≡ true → AgreesIn all m) inner back
      (all_split (λ m. bytes_eq name m.name ≡ true → AgreesIn all m) fore (inner ++ back) everywhere).1).0
  inner_agrees_for name true h =
      let nowhere : definition_by (state (mentions [] os) name) ≡ None = sym (definition_of (mentions [] os) name) ∙ single name h in
      all_map (λ m. bytes_eq name m.name ≡ true → definition_by m.says ≡ None) (λ m. bytes_eq name m.name ≡ true → AgreesIn all m)
      (λ m f e. no_definition (first_definition all m.name) m.says (f e)) inner
      (none_defines inner name (inner_definition name ∙ not_defined (state (mentions [] os) name) nowhere))

  inner_agrees : AllByRecursion (AgreesIn all) inner
  inner_agrees = all_map (λ m. bytes_eq m.name m.name ≡ true → AgreesIn all m) (AgreesIn all) (λ m f. f (own_name m.name)) inner
      (of_each_name (λ name m. bytes_eq name m.name ≡ true → AgreesIn all m) inner
      (λ name. inner_agrees_for name (is_among (multiple_names all) name) refl))

  -- a definition of the objects is the first one of all
  kept_inside : (name : List ℕ) (segment : Segment) (offset : ℕ) → state (mentions [] os) name ≡ Defined segment offset →
      first_definition all name ≡ Some (segment, plus (start bs segment) offset)
  kept_inside name segment offset e =
      let found : first_definition inner name ≡ Some (segment, plus (start bs segment) offset) =
      inner_definition name ∙ ap (λ (s : State). definition_by (raised bs s)) e in
      let whole : first_definition all name ≡ first_of (first_definition fore name) (Some (segment, plus (start bs segment) offset)) =
      ap (λ (ms : List Mention). first_definition ms name) all_split_up
      ∙ first_definition-append fore (inner ++ back) name
      ∙ ap (λ (x : Option Definition). first_of (first_definition fore name) x) (first_definition-append inner back name
      ∙ ap (λ (x : Option Definition). first_of x (first_definition back name)) found) in
      by_front (first_definition fore name) found whole
    where
      by_front : (x : Option Definition) → first_definition inner name ≡ Some (segment, plus (start bs segment) offset) →
          first_definition all name ≡ first_of x (Some (segment, plus (start bs segment) offset)) →
          first_definition all name ≡ Some (segment, plus (start bs segment) offset)
      by_front None found w = w
      by_front (Some d) found w =
          let agree : AllByRecursion (λ m. bytes_eq name m.name ≡ true → AgreesIn all m) inner =
          all_map (AgreesIn all) (λ m. bytes_eq name m.name ≡ true → AgreesIn all m) (λ m h k. h) inner inner_agrees in
          w ∙ one_definition all inner name (segment, plus (start bs segment) offset) d agree found w

  are_kept : DefinitionsAreKept forced bs os cs
  are_kept name segment offset e = cc (kept_inside name segment offset e, start_after bs segment offset)

  definitions_alike : (name : List ℕ) → first_definition among name ≡ first_definition all name
  definitions_alike name = cc (definition_of among name, states_alike own forced part bs os cs keep entry has name, definition_of all name)

  finals_agree : (names : List (List ℕ)) → AllByRecursion (AgreesIn all) (map (raise bs) (map (final_mention (mentions own os)) names))
  finals_agree [] = tt
  finals_agree (n ∷ ns) = (by_state (state (mentions own os) n) refl, finals_agree ns)
    where
      by_state : (s : State) → state (mentions own os) n ≡ s → differs (first_definition all n) (raised bs s) ≡ false
      by_state (Wanted size) e = refl
      by_state (Defined segment offset) e =
          own_again (Defined segment (plus (start bs segment) offset)) (first_definition all n)
          (kept_inside n segment offset (other_forced [] own os n ∙ e))

  one_agrees : AllByRecursion (AgreesIn all) one
  one_agrees =
      subst (λ (ms : List Mention). AllByRecursion (AgreesIn all) ms) (sym (final_after own bs os cs keep entry has))
      (finals_agree (names_by_first_mention (mentions own os)))

  -- the multiples are the same, in the same order
  pub multiples_alike : multiple_names among ≡ multiple_names all
  multiples_alike =
      let D : Mention → Bool = λ m. differs (first_definition all m.name) m.says in
      ap (λ (t : Mention → Bool). map (λ m. m.name) (filter t among)) (λ i m. differs (definitions_alike m.name i) m.says)
      ∙ ap (λ (ms : List Mention). map (λ m. m.name) (filter (λ m. differs (first_definition all m.name) m.says) ms)) among_split_up
      ∙ ap (λ (ms : List Mention). map (λ m. m.name) ms) (middle one one_agrees ∙ sym (middle inner inner_agrees))
      ∙ ap (λ (ms : List Mention). map (λ m. m.name) (filter (λ m. differs (first_definition all m.name) m.says) ms)) (sym all_split_up)
    where
      middle : (ms : List Mention) → AllByRecursion (AgreesIn all) ms →
          filter (λ m. differs (first_definition all m.name) m.says) (fore ++ (ms ++ back))
          ≡ filter (λ m. differs (first_definition all m.name) m.says) fore
          ++ filter (λ m. differs (first_definition all m.name) m.says) back
      middle ms h =
          filter-append (λ m. differs (first_definition all m.name) m.says) fore (ms ++ back)
          ∙ ap (λ (ns : List Mention). filter (λ m. differs (first_definition all m.name) m.says) fore ++ ns)
          (filter-append (λ m. differs (first_definition all m.name) m.says) ms back
          ∙ ap (λ (ns : List Mention). ns ++ filter (λ m. differs (first_definition all m.name) m.says) back) (none_kept all ms h))

-- with the multiples, if the objects define none of the names that are multiply defined
pub replaces_among_others : (own forced : List (List ℕ)) (before os after : List Contents) (by o : Choices) (x : Outcome) →
    AllByRecursion IsWellFormed before → AllByRecursion IsWellFormed os → AllByRecursion IsWellFormed after →
    IsPartialLink own os by x → KeepsNoMore o.keep by.keep → IsPart own forced → DefinesNoMultiple forced before os after →
    link forced (before ++ x.file ∷ after) o ≡ link forced (before ++ (os ++ after)) o
replaces_among_others own forced bs os cs by o x good_bs good_os good_cs p less part single =
    let file = partial_options own os by x p in
    let has : HasTable own os by.keep by.entry = has_table own os by.keep by.entry file.1 in
    subst (λ (f : Contents). link forced (bs ++ f ∷ cs) o ≡ link forced (bs ++ (os ++ cs)) o) file.0
    (link_alike own forced part bs os cs by.keep by.entry has good_bs good_os good_cs (kept_holds own forced part bs os
    cs by.keep by.entry has (are_kept own forced part bs os cs by.keep by.entry file.1 single)) o less
    ∙ ap (λ (names : List (List ℕ)). with_multiples names (link forced (bs ++ (os ++ cs)) o))
    (multiples_alike own forced part bs os cs by.keep by.entry file.1 single)
    ∙ own_multiples forced (bs ++ (os ++ cs)) o)
