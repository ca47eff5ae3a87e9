-- Partial links linked again, grouped in any way, and added to a session.
use Rattle.std.proofs.Common.{◌≡◌, ℕ, true, false, cond, List, [], ◌∷◌, ◌++◌, length, Some, None, refl, sym, ◌∙◌, ap, subst}
use Rattle.std.specs.{Prelude.nat_lt, List.AllByRecursion}
use Rattle.aout_core.specs.{declared.symbol.Segment.TheVariants.{TextSeg, DataSeg, BssSeg}, Contents.Contents, WellFormed.IsWellFormed}
use Rattle.tool_options.specs.{NameLists.is_among, declared.options.Keep.Keep, Choices.Choices}
use Rattle.link_session.specs.Mentions.{mentions}
use Rattle.link_session.specs.declared.entry.AddFault.TheVariants.{TextFull, DataFull, BssFull, NamesFull}
use Rattle.link_session.specs.{States.{multiple_names}, Limits.limit_passed}
use Rattle.link_session.proofs.{NeighbourLemmas.{AreAsLong, as_long_append, as_long_self}, ListLemmas.{all_append, all_split}}
use Rattle.link_out.specs.{function.Link.{Outcome, link}, laws.PartialLinks.{KeepsNoMore, IsPartialLink, IsPart, DefinesNoMultiple}}
use Rattle.laws.specs.PartialLinksAmongOthers.{IsGrouped, ungrouped, grouped}
use Rattle.link_out.proofs.partial_links.PartialNames.{HasTable, has_table}
use Rattle.link_out.proofs.partial_links.NeighbourMentions.{partial_as_long}
use Rattle.link_out.proofs.partial_links.PartialAmong.{names_alike, partial_options}
use Rattle.link_out.proofs.partial_links.PartialMultiples.{replaces_among_others, multiples_alike}
use Rattle.link_out.proofs.{partial_links.PartialLemmas.partial_file, ObjectLemmas.linked_is_object}

-- grouping

record GroupsWell (forced : List (List ℕ)) (less : Keep) (os ps : List Contents) : Type 0 where
  good : AllByRecursion IsWellFormed ps
  single : multiple_names (mentions forced ps) ≡ []
  same : (o : Choices) → o.keep ≡ less → link forced ps o ≡ link forced os o

groups_well : (forced : List (List ℕ)) (less : Keep) (os ps : List Contents) → AllByRecursion IsWellFormed os →
    multiple_names (mentions forced os) ≡ [] → IsGrouped forced less os ps → GroupsWell forced less os ps
groups_well forced less os ps good single ungrouped = record { good = good; single = single; same = λ o e. refl }
groups_well forced less os ps good single (grouped own before run after by x g part p k) =
    step (groups_well forced less os (before ++ (run ++ after)) good single g)
  where
    step : GroupsWell forced less os (before ++ (run ++ after)) → GroupsWell forced less os (before ++ x.file ∷ after)
    step h =
        let file = partial_options own run by x p in
        let front = all_split IsWellFormed before (run ++ after) h.good in
        let rest = all_split IsWellFormed run after front.1 in
        let none : DefinesNoMultiple forced before run after =
        λ name e. absurd (let bad : false ≡ true = ap (λ (ns : List (List ℕ)). is_among ns name) (sym h.single) ∙ e in cc) in
        let object : IsWellFormed x.file = subst (λ (f : Contents). IsWellFormed f) file.0
        (linked_is_object own run by.keep by.entry false (has_table own run by.keep by.entry file.1) rest.0) in
        record {
          good = all_append IsWellFormed before (x.file ∷ after) front.0 (object, rest.1);
          single =
              subst (λ (f : Contents). multiple_names (mentions forced (before ++ f ∷ after)) ≡ []) file.0
              (multiples_alike own forced part before run after by.keep by.entry file.1 none ∙ h.single);
          same =
              λ o e. replaces_among_others own forced before run after by o x front.0 rest.0 rest.1 p
              (subst (λ (l : Keep). KeepsNoMore l by.keep) (sym e) k) part none ∙ h.same o e;
        }

-- partial links of runs of objects, again and again, change no link
pub grouping_changes_nothing : (forced : List (List ℕ)) (os ps : List Contents) (o : Choices) → AllByRecursion IsWellFormed os →
    multiple_names (mentions forced os) ≡ [] → IsGrouped forced o.keep os ps → link forced ps o ≡ link forced os o
grouping_changes_nothing forced os ps o good single g = let h = groups_well forced o.keep os ps good single g in h.same o refl

-- what is accepted

-- a session takes a partial link if it takes its objects
pub is_accepted : (own forced : List (List ℕ)) (before os after : List Contents) (by : Choices) (x : Outcome) →
    IsPartialLink own os by x → IsPart own forced →
    limit_passed forced (before ++ x.file ∷ after) ≡ limit_passed forced (before ++ (os ++ after))
is_accepted own forced bs os cs by x p part =
    let file = partial_options own os by x p in
    let has : HasTable own os by.keep by.entry = has_table own os by.keep by.entry file.1 in
    let long : AreAsLong (bs ++ partial_file own os by.keep by.entry ∷ cs) (bs ++ (os ++ cs)) =
    as_long_append bs bs (partial_file own os by.keep by.entry ∷ cs) (os ++ cs)
    (as_long_self bs) (as_long_append (partial_file own os by.keep by.entry ∷ []) os cs cs
    (partial_as_long own bs os cs by.keep by.entry has) (as_long_self cs)) in
    subst (λ (f : Contents). limit_passed forced (bs ++ f ∷ cs) ≡ limit_passed forced (bs ++ (os ++ cs))) file.0
    (λ i. cond (nat_lt 65534 (long TextSeg i)) (Some TextFull)
    (cond (nat_lt 65534 (long DataSeg i)) (Some DataFull) (cond (nat_lt 65534 (long BssSeg i)) (Some BssFull)
    (cond (nat_lt 65535 (length (names_alike own forced part bs os cs by.keep by.entry has i))) (Some NamesFull) None))))
