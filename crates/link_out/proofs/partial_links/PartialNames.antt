-- What a partial link tells: each name of its objects once, with its state.
use Rattle.std.proofs.Common.{◌≡◌, ◌≢◌, ℕ, max, Bool, true, false, cond, List, [], ◌∷◌, ◌++◌, map, Option, None, refl, sym, ◌∙◌, ap, rules}
use Rattle.std.proofs.lemmas.Slice.Eq.{bytes_eq-Decides}
use Rattle.std.specs.Prelude.{filter}
use Rattle.aout_core.specs.{declared.symbol.Symbol.Symbol, Contents.Contents, WellFormed.is_external, WellFormed.first_of}
use Rattle.link_session.specs.Mentions.{Mention, mention, mentions_in, mentions, names_by_first_mention}
use Rattle.link_session.specs.{States.{definition_by, size_wanted_by, state_by, state}, declared.state.State.State}
use Rattle.link_session.specs.declared.state.State.TheVariants.{Wanted}
use Rattle.tool_options.specs.{NameLists.is_among, declared.options.Keep.Keep, declared.options.Keep.TheVariants.Nothing}
use Rattle.link_session.proofs.{UpdateLemmas.{says_alone, unmentioned}, MentionLemmas.is_among-externals, StateLemmas.state-append}
use Rattle.link_out.specs.function.Tables.{local_rows, external_row, external_rows, table}
use Rattle.link_out.proofs.partial_links.PartialLemmas.{partial_plan, partial_file, externals_in_table, row_says, state_is_proper}
use Rattle.link_out.proofs.RowLemmas.{rows_kept-others}

-- the names told again, each with its state
abbrev pub final_mention : List Mention → List ℕ → Mention
final_mention ms name = record { name = name; says = state ms name }

-- the file keeps its table
abbrev pub HasTable : List (List ℕ) → List Contents → Keep → Option (List ℕ) → Type 0
HasTable forced os keep entry =
    let p = partial_plan forced os keep entry in table p os ≡ local_rows p os ++ external_rows p

-- a file is linked with its table, unless nothing is to be kept
pub has_table : (forced : List (List ℕ)) (os : List Contents) (keep : Keep) (entry : Option (List ℕ)) → keep ≢ Nothing →
    HasTable forced os keep entry
has_table forced os keep entry h = rows_kept-others keep (let p = partial_plan forced os keep entry in local_rows p os ++ external_rows p) h

-- what a partial link mentions
pub final_alone : (forced : List (List ℕ)) (os : List Contents) (keep : Keep) (entry : Option (List ℕ)) → HasTable forced os keep entry →
    mentions_in [] (partial_file forced os keep entry)
    ≡ map (final_mention (mentions forced os)) (names_by_first_mention (mentions forced os))
final_alone forced os keep entry has =
    ap (λ (ss : List Symbol). map (mention [] (partial_file forced os keep entry)) ss)
    (ap (λ (ss : List Symbol). filter is_external ss) has ∙ externals_in_table (partial_plan forced os keep entry) os)
    ∙ from (names_by_first_mention (mentions forced os))
  where
    from : (ns : List (List ℕ)) → map (mention [] (partial_file forced os keep entry))
        (map (external_row (partial_plan forced os keep entry)) ns) ≡ map (final_mention (mentions forced os)) ns
    from [] = refl
    from (n ∷ ns) =
        let head : mention [] (partial_file forced os keep entry) (external_row (partial_plan forced os keep entry) n)
        ≡ final_mention (mentions forced os) n =
        ap (λ (s : State). let m : Mention = record { name = n; says = s } in m)
        (row_says forced os keep entry n (state (mentions forced os) n) (state_is_proper forced os n)) in
        let tail = from ns in
        rw (head, tail) refl

-- the state of a name after one mention, of this name or of another
abbrev pub said_once : Bool → State → State
said_once t s = state_by (cond t (first_of (definition_by s) None) None) (cond t (max (size_wanted_by s) 0) 0)

-- told names: those that are among them have their states, and no other is wanted
state_final : (ms : List Mention) (ns : List (List ℕ)) (name : List ℕ) →
    state (map (final_mention ms) ns) name ≡ cond (is_among ns name) (state ms name) (Wanted 0)
state_final ms [] name = refl
state_final ms (n ∷ ns) name = search (rules, state-append, bytes_eq-Decides, says_alone, state_final ms ns name)

-- every name, told again, has its state
pub final_state : (ms : List Mention) (name : List ℕ) → state (map (final_mention ms) (names_by_first_mention ms)) name ≡ state ms name
final_state ms name = state_final ms (names_by_first_mention ms) name ∙ by_test (is_among (names_by_first_mention ms) name) refl
  where
    by_test : (t : Bool) → is_among (names_by_first_mention ms) name ≡ t → cond t (state ms name) (Wanted 0) ≡ state ms name
    by_test true e = refl
    by_test false e = sym (unmentioned ms name (sym (is_among-externals ms name) ∙ e))
