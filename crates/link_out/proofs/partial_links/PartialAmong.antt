-- A partial link among others, with forced names of its own: it stands for its objects where their definitions stand.
use Rattle.std.proofs.Common.{◌≡◌, ◌≢◌, ℕ, false, List, [], ◌∷◌, ◌++◌, Option, sym, ◌∙◌, ap, subst, append-nil, rules}
use Rattle.std.proofs.lemmas.List.{append_cancel_left}
use Rattle.std.specs.{Prelude.Result, List.AllByRecursion}
use Rattle.aout_core.specs.declared.symbol.Segment.TheVariants.{TextSeg, DataSeg}
use Rattle.aout_core.specs.{declared.symbol.Segment.Segment, Contents.Contents, Words.plus, WellFormed.IsWellFormed}
use Rattle.link_session.specs.Mentions.{mentions, names_of, names_by_first_mention}
use Rattle.link_session.specs.{declared.state.State.TheVariants.Defined, States.state, States.multiple_names}
use Rattle.tool_options.specs.{NameLists.new_names, declared.options.Keep.Keep, declared.options.Keep.TheVariants.Nothing, Choices.Choices}
use Rattle.link_session.proofs.NeighbourLemmas.{as_long_append, as_long_self, start, forced_front, new_of_new, names_of_forced}
use Rattle.link_session.proofs.{NeighbourLemmas.mentions_after, ListLemmas.all_append, MentionLemmas.names_of-append}
use Rattle.tool_options.proofs.NameListLemmas.{new_names-append}
use Rattle.link_out.specs.function.Link.{Outcome, link, linked_file}
use Rattle.link_out.specs.laws.PartialLinks.{KeepsNoMore, IsPartialLink, without_multiples, IsPart, offset_after, DefinitionsAreKept}
use Rattle.link_out.specs.{declared.linked.LinkFault.LinkFault, function.Plans.plan}
use Rattle.link_out.proofs.partial_links.PartialLemmas.{partial_file, IsProper, state_is_proper, partly}
use Rattle.link_out.proofs.partial_links.NeighbourMentions.{partial_as_long, names_same, states_same}
use Rattle.link_out.proofs.partial_links.NeighbourCells.{HoldsAmong, cells_said, neighbour_text, neighbour_data}
use Rattle.link_out.proofs.{partial_links.PartialNames.HasTable, partial_links.PartialNames.has_table, ObjectLemmas.linked_is_object}
use Rattle.link_out.proofs.{ObjectLemmas.allowed_with, partial_links.SameLinks.AreAlike, partial_links.SameLinks.same_link}
use Rattle.link_out.proofs.{partial_links.SameLinks.with_multiples, OutcomeLemmas.made_file, partial_links.NeighbourRows.same_rows}

-- forced names change no state
pub other_forced : (a b : List (List ℕ)) (xs : List Contents) (name : List ℕ) → state (mentions a xs) name ≡ state (mentions b xs) name
other_forced a b xs name = forced_front a (mentions_after [] xs) name ∙ sym (forced_front b (mentions_after [] xs) name)

-- the names after forced names that hold others, from the names after those
more_forced : (own forced xs ys : List (List ℕ)) → IsPart own forced →
    new_names [] (own ++ xs) ≡ new_names [] (own ++ ys) → new_names [] (forced ++ xs) ≡ new_names [] (forced ++ ys)
more_forced own forced xs ys part same = search (rules, append_cancel_left, new_names-append, new_of_new)

names_split : (forced : List (List ℕ)) (xs : List Contents) →
    names_by_first_mention (mentions forced xs) ≡ new_names [] (forced ++ names_of (mentions_after [] xs))
names_split forced xs = search (rules, names_of-append, mentions_after, names_of_forced)

names_forced : (own forced : List (List ℕ)) (xs ys : List Contents) → IsPart own forced →
    names_by_first_mention (mentions own xs) ≡ names_by_first_mention (mentions own ys) →
    names_by_first_mention (mentions forced xs) ≡ names_by_first_mention (mentions forced ys)
names_forced own forced xs ys part same = search (rules, names_split, more_forced, mentions_after)

-- the file and the options of a partial link
pub partial_options : (forced : List (List ℕ)) (os : List Contents) (o : Choices) (x : Outcome) →
    IsPartialLink forced os o x → (partial_file forced os o.keep o.entry ≡ x.file) × (o.keep ≢ Nothing)
partial_options forced os o x p =
    let options = allowed_with o p.relocatable p.allowed in
    let same : o ≡ partly o.keep o.entry =
    λ i. record { layout = options.0 i; relocatable = p.relocatable i; keep = o.keep; entry = o.entry; force_commons = p.no_commons i } in
    (ap (λ (c : Choices). linked_file (plan forced os c) os) (sym same) ∙ made_file (plan forced os o) os x p.linked, options.1)

pub other_multiples : (names : List (List ℕ)) (r : Result Outcome LinkFault) →
    without_multiples (with_multiples names r) ≡ without_multiples r
other_multiples names r = search rules

-- a partial link with forced names of its own, among others
module _ (own forced : List (List ℕ)) (part : IsPart own forced) (bs os cs : List Contents) (keep : Keep)
    (entry : Option (List ℕ)) (has : HasTable own os keep entry) where
  abbrev m : Contents
  m = partial_file own os keep entry

  -- the names are the same, in the same order
  pub names_alike : names_by_first_mention (mentions forced (bs ++ m ∷ cs)) ≡ names_by_first_mention (mentions forced (bs ++ (os ++ cs)))
  names_alike = names_forced own forced (bs ++ m ∷ cs) (bs ++ (os ++ cs)) part (names_same own bs os cs keep entry has)

  -- each name has the same state
  pub states_alike : (name : List ℕ) → state (mentions forced (bs ++ m ∷ cs)) name ≡ state (mentions forced (bs ++ (os ++ cs))) name
  states_alike name =
      other_forced forced own (bs ++ m ∷ cs) name ∙ states_same own bs os cs keep entry has name
      ∙ other_forced own forced (bs ++ (os ++ cs)) name

  module _ (good_bs : AllByRecursion IsWellFormed bs) (good_os : AllByRecursion IsWellFormed os)
      (good_cs : AllByRecursion IsWellFormed cs) (holds : HoldsAmong (mentions forced (bs ++ m ∷ cs)) bs (mentions own os)) where
    links_alike : AreAlike forced (bs ++ m ∷ cs) (bs ++ (os ++ cs))
    links_alike = record {
      names = names_alike;
      states_alike = states_alike;
      as_long =
          as_long_append bs bs (m ∷ cs) (os ++ cs) (as_long_self bs)
          (as_long_append (m ∷ []) os cs cs (partial_as_long own bs os cs keep entry has) (as_long_self cs));
      text = neighbour_text own os keep entry has bs (mentions forced (bs ++ m ∷ cs)) holds cs good_os
          ∙ cells_said (mentions forced (bs ++ m ∷ cs))
          (mentions forced (bs ++ (os ++ cs))) names_alike states_alike TextSeg (bs ++ (os ++ cs));
      «data» = neighbour_data own os keep entry has bs (mentions forced (bs ++ m ∷ cs)) holds cs good_os
          ∙ cells_said (mentions forced (bs ++ m ∷ cs))
          (mentions forced (bs ++ (os ++ cs))) names_alike states_alike DataSeg (bs ++ (os ++ cs));
      good_xs = all_append IsWellFormed bs (m ∷ cs) good_bs (linked_is_object own os keep entry false has good_os, good_cs);
      good_ys = all_append IsWellFormed bs (os ++ cs) good_bs (all_append IsWellFormed os cs good_os good_cs);
    }

    -- the link is the same but for the multiples reported
    pub link_alike : (o : Choices) → KeepsNoMore o.keep keep → link forced (bs ++ m ∷ cs) o
        ≡ with_multiples (multiple_names (mentions forced (bs ++ m ∷ cs))) (link forced (bs ++ (os ++ cs)) o)
    link_alike o less =
        same_link forced (bs ++ m ∷ cs) (bs ++ (os ++ cs)) links_alike o
        (λ ms ns at. same_rows own bs os cs keep entry has at o.keep less)

-- two ways to say where an offset lies after other objects
pub start_after : (bs : List Contents) (segment : Segment) (offset : ℕ) → offset_after bs segment offset ≡ plus (start bs segment) offset
start_after bs segment offset = search rules

-- definitions that stand among all hold there
pub kept_holds : (own forced : List (List ℕ)) (part : IsPart own forced) (bs os cs : List Contents) (keep : Keep)
    (entry : Option (List ℕ)) (has : HasTable own os keep entry) →
    DefinitionsAreKept forced bs os cs → HoldsAmong (mentions forced (bs ++ partial_file own os keep entry ∷ cs)) bs (mentions own os)
kept_holds own forced part bs os cs keep entry has are_kept name segment offset e =
    states_alike own forced part bs os cs keep entry has name
    ∙ are_kept name segment offset (other_forced [] own os name ∙ e)
    ∙ ap (λ (n : ℕ). Defined segment n) (start_after bs segment offset)

-- a partial link stands for its objects among others if their definitions stand
pub replaces_for : (own forced : List (List ℕ)) (before os after : List Contents) (by o : Choices) (x : Outcome) →
    AllByRecursion IsWellFormed before → AllByRecursion IsWellFormed os → AllByRecursion IsWellFormed after →
    IsPartialLink own os by x → KeepsNoMore o.keep by.keep → IsPart own forced → DefinitionsAreKept forced before os after →
    without_multiples (link forced (before ++ x.file ∷ after) o) ≡ without_multiples (link forced (before ++ (os ++ after)) o)
replaces_for own forced bs os cs by o x good_bs good_os good_cs p less part are_kept =
    let file = partial_options own os by x p in
    let has : HasTable own os by.keep by.entry = has_table own os by.keep by.entry file.1 in
    subst (λ (f : Contents). without_multiples (link forced (bs ++ f ∷ cs) o) ≡ without_multiples (link forced (bs ++ (os ++ cs)) o)) file.0
    (ap without_multiples (link_alike own forced part bs os cs by.keep by.entry has good_bs good_os good_cs
    (kept_holds own forced part bs os cs by.keep by.entry has are_kept) o less)
    ∙ other_multiples (multiple_names (mentions forced (bs ++ partial_file own os by.keep by.entry ∷ cs)))
    (link forced (bs ++ (os ++ cs)) o))

-- a definition stands where it did after nothing
proper_start : (segment : Segment) (offset : ℕ) → IsProper (Defined segment offset) →
    Defined segment offset ≡ Defined segment (plus (start [] segment) offset)
proper_start segment offset h = search rules

-- alone, definitions always stand
kept_alone : (forced : List (List ℕ)) (os : List Contents) → DefinitionsAreKept forced [] os []
kept_alone forced os name segment offset e =
    ap (λ (xs : List Contents). state (mentions forced xs) name) (append-nil os)
    ∙ other_forced forced [] os name
    ∙ e
    ∙ proper_start segment offset (subst IsProper e (state_is_proper [] os name))
    ∙ ap (λ (n : ℕ). Defined segment n) (sym (start_after [] segment offset))

-- alone a partial link stands for its objects
pub always_replaces : (own forced : List (List ℕ)) (os : List Contents) (by o : Choices) (x : Outcome) → AllByRecursion IsWellFormed os →
    IsPartialLink own os by x → KeepsNoMore o.keep by.keep → IsPart own forced →
    without_multiples (link forced (x.file ∷ []) o) ≡ without_multiples (link forced os o)
always_replaces own forced os by o x good p less part =
    replaces_for own forced [] os [] by o x tt good tt p less part (kept_alone forced os)
    ∙ ap (λ (xs : List Contents). without_multiples (link forced xs o)) (append-nil os)
