-- The file of a link with relocation is an object, and stands for its objects under the forced names that it was linked with.
use Rattle.std.proofs.Common.{◌≡◌, ℕ, true, List, [], ◌∷◌, ◌++◌, None, rules}
use Rattle.std.specs.{Prelude.Ok, List.AllByRecursion}
use Rattle.aout_core.specs.{Contents.Contents, WellFormed.IsWellFormed}
use Rattle.link_session.specs.{Mentions.mentions, States.multiple_names}
use Rattle.tool_options.specs.{Choices.Choices, Choices.option_fault}
use Rattle.link_out.specs.laws.PartialLinks.{KeepsNoMore, IsPartialLink, without_multiples}
use Rattle.link_out.specs.{function.Plans.plan, function.Link.Outcome, function.Link.link}
use Rattle.link_out.proofs.{OutcomeLemmas.made_file, ObjectLemmas.linked_object}
use Rattle.link_out.proofs.{partial_links.PartialAmong.always_replaces, partial_links.PartialMultiples.replaces_among_others}

-- the file of a link with relocation, with or without laid commons, is an object
pub relocatable_is_object : (forced : List (List ℕ)) (os : List Contents) (o : Choices) (x : Outcome) → AllByRecursion IsWellFormed os →
    option_fault o.layout o.relocatable o.keep ≡ None → o.relocatable ≡ true → link forced os o ≡ Ok x → IsWellFormed x.file
relocatable_is_object forced os o x good allowed r linked = cc (made_file (plan forced os o) os x linked, linked_object forced os o allowed r good)

-- alone: the same file or the same refusal, and reports that differ at most in the multiples
pub partial_replaces_alone : (forced : List (List ℕ)) (os : List Contents) (by o : Choices) (x : Outcome) →
    AllByRecursion IsWellFormed os → IsPartialLink forced os by x → KeepsNoMore o.keep by.keep →
    without_multiples (link forced (x.file ∷ []) o) ≡ without_multiples (link forced os o)
partial_replaces_alone forced os by o x good p less = always_replaces forced forced os by o x good p less (λ name e. e)

-- among others, where no name is multiply defined: the same file and report, or the same refusal
pub partial_replaces_among : (forced : List (List ℕ)) (bs os cs : List Contents) (by o : Choices) (x : Outcome) →
    AllByRecursion IsWellFormed bs → AllByRecursion IsWellFormed os → AllByRecursion IsWellFormed cs →
    IsPartialLink forced os by x → KeepsNoMore o.keep by.keep → multiple_names (mentions forced (bs ++ (os ++ cs))) ≡ [] →
    link forced (bs ++ x.file ∷ cs) o ≡ link forced (bs ++ (os ++ cs)) o
partial_replaces_among forced bs os cs by o x good_bs good_os good_cs p less single = search (rules, replaces_among_others)
