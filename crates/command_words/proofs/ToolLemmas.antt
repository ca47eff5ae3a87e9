-- What options make of a command, and what is read of the words by it.
use Rattle.std.proofs.Common.{rules, ◌≡◌, ◌<◌, ◌+◌, ℕ, true, false, drop, get_or, List, [], length, filter, map, Option, Some, None}
use Rattle.std.proofs.Common.{option_map, Result, Ok, Err, refl, sym, ap, ap₂, ◌∙◌, subst, inl, inr}
use Rattle.std.proofs.{lemmas.Bool.false_from_ne_true, lemmas.List.at_drop_more, lemmas.Slice.Eq.bytes_eq-Decides}
use Rattle.aout_core.specs.Refusals.{refused}
use Rattle.std.specs.{Prelude.{IfErr, IfOk, IsErrAnd, String, bytes_eq, codes, string_bytes}, Borrow.Bor, declared.alloc.Global.Global}
use Rattle.clap.specs.Simple.{App, HasMatchesOf, app_of, is_simple, subcommand_of, subcommand_rows_of, with_rule, with_subcommand}
use Rattle.clap.specs.{Built.AddsArg, Built.AddsSubcommand, Faults.fault_of, Faults.is_simple_and_free, Kinds.HasKind, Kinds.Kinds}
use Rattle.clap.specs.{Matches.subcommand_name_of, Values.kind_of, Walk.Row, Walk.Rule, Walk.rule_of, declared.builder.arg.Arg.Arg}
use Rattle.clap.specs.{declared.builder.command.Command.Command, declared.error.Error.Error, declared.parser.matches.ArgMatches.ArgMatches}
use Rattle.clap.specs.{declared.parser.matches.ArgMatches.TheViews.out-ArgMatches}
use Rattle.clap.proofs.{OnLiterals.clap_on_literals}
use Rattle.command_words.specs.{Calls.{Asks, AsksForNone, IsAsked, fault_of_words, name_of}, Tools.{bare, files_rule, v7_app}}
use Rattle.command_words.specs.{declared.fault.WordsFault.WordsFault, declared.fault.WordsFault.TheVariants.Memory}
use Rattle.command_words.specs.{declared.words.Call.Call, declared.words.TheConstants.FILE, internal.ToolCalls.HasNoCall}
use Rattle.command_words.specs.{LinkWords.values_of, internal.ToolApps.{tool_app, tools_added}}
use Rattle.command_words.proofs.WordsLemmas.{dashes-asked, dashes-bytes, is_dash}

v7_is_simple : is_simple v7_app ≡ true
unfolding clap_on_literals
v7_is_simple = refl

v7_is_free : is_simple_and_free v7_app ≡ true
unfolding clap_on_literals
v7_is_free = refl

-- ---- a command with one more option or subcommand

pub adds_rule : (old new : Command) (a : Arg) (app : App) (r : Rule) → AddsArg old a new → app_of old ≡ app →
    rule_of a ≡ r → a.global ≡ false → app_of new ≡ with_rule app r
adds_rule old new a app r adds was is local = adds.shape local ∙ ap₂ with_rule was is

pub adds_tool : (old sub new : Command) (app tool : App) → AddsSubcommand old sub new → app_of old ≡ app →
    app_of sub ≡ tool → tool.top.is_plain ≡ true → app_of new ≡ with_subcommand app tool.top
adds_tool old sub new app tool adds was is plain = search rules

-- ---- the tool of a name

is_other : (name tool : List ℕ) → (name ≡ tool → ⊥) → bytes_eq name tool ≡ false
is_other name tool n = false_from_ne_true (bytes_eq name tool) (λ e. n ((bytes_eq-Decides name tool).0 e))

pub takes_files : (name : List ℕ) → (name ≡ codes "ld" → ⊥) → (name ≡ codes "nm" → ⊥) → (name ≡ codes "session" → ⊥) →
    tool_app name ≡ with_rule (bare name) files_rule
takes_files name a b c = rw (is_other name (codes "ld") a, is_other name (codes "nm") b, is_other name (codes "session") c) refl

tool_is_plain : (name : List ℕ) → (tool_app name).top.is_plain ≡ true
tool_is_plain name = search rules

-- one of several tools is added, and the others are left
pub adds_named : (old sub new : Command) (names : List (Bor (List ℕ))) (i : ℕ) (d : Bor (List ℕ)) → i < length names →
    AddsSubcommand old sub new → app_of sub ≡ tool_app (get_or names i d).now →
    tools_added (app_of old) (map (λ n. n.now) (drop i names)) ≡ tools_added (app_of new) (map (λ n. n.now) (drop (i + 1) names))
adds_named old sub new names i d more adds is =
    let added = adds_tool old sub new (app_of old) (tool_app (get_or names i d).now) adds refl is (tool_is_plain (get_or names i d).now) in
    at_drop_more (λ (ns : List (Bor (List ℕ))). tools_added (app_of old) (map (λ n. n.now) ns)) names i d more
    ∙ ap (λ (app : App). tools_added app (map (λ n. n.now) (drop (i + 1) names))) (sym added)

-- ---- the subcommand that was read

abbrev Read : Type 0
Read = List ℕ × List Row

named_rows : {B : Type 0} (o : Option B) (f : B → List ℕ) (g : B → List Row) (name : List ℕ) (rows : List Row) →
    Some name ≡ option_map f o →
    Some rows ≡ option_map (λ (p : Read). p.1) (option_map {U = Read} (λ b. (f b, g b)) o) →
    option_map {U = Read} (λ b. (f b, g b)) o ≡ Some (name, rows)
named_rows None f g name rows named has = absurd (cc)
named_rows (Some b) f g name rows named has = search rules

read_subcommand : (m : ArgMatches) (name : List ℕ) (rows : List Row) → Some name ≡ subcommand_name_of m →
    Some rows ≡ option_map (λ (p : Read). p.1) (subcommand_rows_of m) → subcommand_rows_of m ≡ Some (name, rows)
read_subcommand m name rows named has = named_rows (out-ArgMatches m).subcommand _ _ name rows named has

no_rows : {B : Type 0} (o : Option B) (f : B → List ℕ) (g : B → Read) → None ≡ option_map f o → option_map g o ≡ None
no_rows None f g none = refl
no_rows (Some b) f g none = absurd (cc)

no_subcommand : (m : ArgMatches) → None ≡ subcommand_name_of m → subcommand_rows_of m ≡ None
no_subcommand m none = no_rows (out-ArgMatches m).subcommand _ _ none

-- ---- the words, as `clap` reads them by a command that is v7's

pub reads_words : (command : Command) (words given : List (List ℕ)) (m : ArgMatches) → app_of command ≡ v7_app →
    words ≡ given → HasMatchesOf (app_of command) given m → subcommand_rows_of m ≡ subcommand_of v7_app words
reads_words command words given m app_is words_are has =
    (has (ap is_simple app_is ∙ v7_is_simple)).1 ∙ ap₂ subcommand_of app_is (sym words_are)

pub reads_subcommand : (command : Command) (words given : List (List ℕ)) (m : ArgMatches) (name : List ℕ) (rows : List Row) →
    app_of command ≡ v7_app → words ≡ given → HasMatchesOf (app_of command) given m →
    Some name ≡ subcommand_name_of m → Some rows ≡ option_map (λ (p : Read). p.1) (subcommand_rows_of m) →
    subcommand_of v7_app words ≡ Some (name, rows)
reads_subcommand command words given m name rows app_is words_are has named rows_are =
    sym (reads_words command words given m app_is words_are has) ∙ read_subcommand m name rows named rows_are

pub reads_none : (command : Command) (words given : List (List ℕ)) (m : ArgMatches) → app_of command ≡ v7_app →
    words ≡ given → HasMatchesOf (app_of command) given m → None ≡ subcommand_name_of m → subcommand_of v7_app words ≡ None
reads_none command words given m app_is words_are has none =
    sym (reads_words command words given m app_is words_are has) ∙ no_subcommand m none

pub takes_words : (command : Command) (words given : List (List ℕ)) → app_of command ≡ v7_app → words ≡ given →
    (is_simple_and_free (app_of command) ≡ true → fault_of (app_of command) given ≡ []) → fault_of v7_app words ≡ []
takes_words command words given app_is words_are taken =
    ap₂ fault_of (sym app_is) words_are ∙ taken (ap is_simple_and_free app_is ∙ v7_is_free)

-- ---- what the words ask for

-- the call that was made of the name, the options and the files that were read is the one that the words ask for
pub asked_by_words : (words : List (List ℕ)) (name : List ℕ) (rows : List Row) (files : List (List ℕ))
    (r : Result Call WordsFault) → fault_of v7_app words ≡ [] → subcommand_of v7_app words ≡ Some (name, rows) →
    files ≡ values_of rows FILE.now → IfOk r (λ call. name_of call ≡ name) → IfOk r (Asks rows files) → IfOk r (IsAsked words)
asked_by_words words name rows files (Err fault) taken read are named asked = tt
asked_by_words words name rows files (Ok call) taken read are named asked = search rules

-- a call that the words ask for is one of the name, the options and the files that were read
asks_what_was_read : (words : List (List ℕ)) (name : List ℕ) (rows : List Row) (files : List (List ℕ)) (call : Call) →
    subcommand_of v7_app words ≡ Some (name, rows) → files ≡ values_of rows FILE.now → IsAsked words call →
    (name_of call ≡ name) × Asks rows files call
asks_what_was_read words name rows files call read are asked = search rules

pub none_for_read : (words : List (List ℕ)) (name : List ℕ) (rows : List Row) (files : List (List ℕ))
    (r : Result Call WordsFault) → subcommand_of v7_app words ≡ Some (name, rows) → files ≡ values_of rows FILE.now →
    IfErr r (HasNoCall name rows files) → IfErr r (AsksForNone words)
none_for_read words name rows files (Ok call) read are none = tt
none_for_read words name rows files (Err fault) read are none = search rules

-- words that `clap` refuses
pub none_refused : (command : Command) (words given : List (List ℕ)) (e : Error) (r : Result Call WordsFault) →
    app_of command ≡ v7_app → words ≡ given →
    (is_simple_and_free (app_of command) ≡ true → HasKind (fault_of (app_of command) given) e) →
    IsErrAnd r (λ fault. fault ≡ fault_of_words (kind_of e)) → IfErr r (AsksForNone words)
none_refused command words given e (Ok call) app_is words_are kinds is = tt
none_refused command words given e (Err fault) app_is words_are kinds is = λ call whole asked dashes.
    let none : fault_of (app_of command) given ≡ [] = ap₂ fault_of app_is (sym words_are) ∙ asked.0 in
    by_kind (subst (λ (ks : Kinds). HasKind ks e) none (kinds (ap is_simple_and_free app_is ∙ v7_is_free)))
  where
    by_kind : HasKind [] e → fault ≡ Memory refused
    by_kind (inl memory) = is ∙ ap fault_of_words memory
    by_kind (inr other) = absurd other

pub none_without_name : (words : List (List ℕ)) (fault : WordsFault) → subcommand_of v7_app words ≡ None → AsksForNone words fault
none_without_name words fault none call whole asked dashes = search rules

-- words with a dash alone that is no file
pub none_with_dash : (words files : List (String Global)) (name : List ℕ) (rows : List Row) (in_words in_files : ℕ)
    (fault : WordsFault) → subcommand_of v7_app (map string_bytes words) ≡ Some (name, rows) →
    map string_bytes files ≡ values_of rows FILE.now → in_words ≡ length (filter is_dash words) →
    in_files ≡ length (filter is_dash files) → (in_words ≡ in_files → ⊥) → AsksForNone (map string_bytes words) fault
none_with_dash words files name rows in_words in_files fault read are w f differ call whole asked dashes =
    search (rules, asks_what_was_read, dashes-bytes, dashes-asked)
