-- The options of a partial link, the externals in its table, and what its rows say.
use Rattle.std.proofs.{Common.{◌≡◌, ℕ, ◌%◌, true, false, List, [], ◌∷◌, ◌++◌, map, Option, refl, ◌∙◌, rules}, lemmas.Bool.and_parts}
use Rattle.std.proofs.lemmas.List.Elements.{filter-append}
use Rattle.std.specs.{Prelude.filter, List.flat_map, List.AllByRecursion}
use Rattle.aout_core.specs.{declared.symbol.Segment.TheVariants.{Undefined, Other}, WellFormed.{is_external, segment_of, segment_numbered}}
use Rattle.aout_core.specs.{declared.symbol.Symbol.Symbol, declared.symbol.Segment.Segment, Contents.Contents}
use Rattle.link_session.specs.Mentions.{Mention, mention, statement, mentions_in, mentions, externals_in, forced_mention}
use Rattle.link_session.specs.{States.{first_definition, wanted_size, state_by, state}, declared.state.State.State}
use Rattle.link_session.specs.{declared.state.State.TheVariants.{Defined, Wanted}, Earlier.with_earlier}
use Rattle.link_session.proofs.ListLemmas.{all_append}
use Rattle.tool_options.specs.{declared.options.Keep.Keep, Choices.Choices}
use Rattle.link_out.specs.function.Finals.{final_by, type_of}
use Rattle.link_out.specs.function.Tables.{is_kept_local, moved_local, local_rows, external_row, external_rows}
use Rattle.link_out.specs.{Layouts.Bases, function.Plans.Plan, function.Plans.plan, function.Link.linked_file}
use Rattle.link_out.proofs.ObjectLemmas.{relocating}

-- the options of a partial link, its plan and its file: relocation, no laid commons, and a table
abbrev pub partly : Keep → Option (List ℕ) → Choices
partly keep entry = relocating keep entry false

-- the plan of such a link
abbrev pub partial_plan : List (List ℕ) → List Contents → Keep → Option (List ℕ) → Plan
partial_plan forced os keep entry = plan forced os (partly keep entry)

-- and its file, which takes the place of its objects
abbrev pub partial_file : List (List ℕ) → List Contents → Keep → Option (List ℕ) → Contents
partial_file forced os keep entry = linked_file (partial_plan forced os keep entry) os

-- kept locals are not external
kept_locals_inner : (b : Bases) (earlier : List Contents) (o : Contents) (keep : Keep) (ss : List Symbol) →
    filter is_external (map (moved_local b earlier o) (filter (is_kept_local keep) ss)) ≡ []
kept_locals_inner b earlier o keep [] = refl
kept_locals_inner b earlier o keep (s ∷ ss) = search (rules, and_parts, kept_locals_inner b earlier o keep ss)

-- kept locals of a table are not external
pub local_rows_inner : (p : Plan) (os : List Contents) → filter is_external (local_rows p os) ≡ []
local_rows_inner p os = from [] os
  where
    from : (earlier rest : List Contents) → filter is_external (flat_map (λ q. map (moved_local p.at q.0 q.1)
        (filter (is_kept_local p.choices.keep) q.1.symbols)) (with_earlier earlier rest)) ≡ []
    from earlier [] = refl
    from earlier (o ∷ rest) =
        filter-append is_external (map (moved_local p.at earlier o) (filter (is_kept_local p.choices.keep) o.symbols))
        (flat_map (λ q. map (moved_local p.at q.0 q.1) (filter (is_kept_local p.choices.keep) q.1.symbols))
        (with_earlier (earlier ++ o ∷ []) rest))
        ∙ rw (kept_locals_inner p.at earlier o p.choices.keep o.symbols) (from (earlier ++ o ∷ []) rest)

-- the rows of externals are external
pub external_row_outer : (p : Plan) (n : List ℕ) → is_external (external_row p n) ≡ true
external_row_outer p n = search rules

external_rows_outer : (p : Plan) (ns : List (List ℕ)) → filter is_external (map (external_row p) ns) ≡ map (external_row p) ns
external_rows_outer p [] = refl
external_rows_outer p (n ∷ ns) = rw (external_row_outer p n, external_rows_outer p ns) refl

-- the external entries of the table
pub externals_in_table : (p : Plan) (os : List Contents) → filter is_external (local_rows p os ++ external_rows p) ≡ external_rows p
externals_in_table p os = search (rules, filter-append, local_rows_inner, external_rows_outer)

-- a definition is of text, data, bss or absolute, and its offset is a word
abbrev pub IsProper : State → Type 0
IsProper (Defined Undefined offset) = ⊥
IsProper (Defined Other offset) = ⊥
IsProper (Defined segment offset) = offset % 65536 ≡ offset
IsProper (Wanted size) = Unit {0}

statement_proper : (earlier : List Contents) (o : Contents) (segment : Segment) (value : ℕ) → IsProper (statement earlier o segment value)
statement_proper earlier o segment value = search rules

each_mapped : {A B : Type 0} (P : B → Type 0) (f : A → B) → ((x : A) → P (f x)) → (xs : List A) → AllByRecursion P (map f xs)
each_mapped P f h [] = tt
each_mapped P f h (x ∷ xs) = (h x, each_mapped P f h xs)

mentions_proper : (forced : List (List ℕ)) (os : List Contents) → AllByRecursion (λ (m : Mention). IsProper m.says) (mentions forced os)
mentions_proper forced os =
    all_append (λ (m : Mention). IsProper m.says) (map forced_mention forced)
    (flat_map (λ q. mentions_in q.0 q.1) (with_earlier [] os))
    (each_mapped (λ (m : Mention). IsProper m.says) forced_mention (λ n. tt) forced) (from [] os)
  where
    from : (earlier rest : List Contents) →
        AllByRecursion (λ (m : Mention). IsProper m.says) (flat_map (λ q. mentions_in q.0 q.1) (with_earlier earlier rest))
    from earlier [] = tt
    from earlier (o ∷ rest) =
        all_append (λ (m : Mention). IsProper m.says) (mentions_in earlier o)
        (flat_map (λ q. mentions_in q.0 q.1) (with_earlier (earlier ++ o ∷ []) rest))
        (each_mapped (λ (m : Mention). IsProper m.says) (mention earlier o)
        (λ s. statement_proper earlier o (segment_of s) s.value) (externals_in o)) (from (earlier ++ o ∷ []) rest)

state_proper : (ms : List Mention) (name : List ℕ) → AllByRecursion (λ (m : Mention). IsProper m.says) ms → (size : ℕ) →
    IsProper (state_by (first_definition ms name) size)
state_proper [] name h size = tt
state_proper (m ∷ ms) name h size = search (rules, state_proper ms name h.1 size)

-- what is known of each name is such a state
pub state_is_proper : (forced : List (List ℕ)) (os : List Contents) (name : List ℕ) → IsProper (state (mentions forced os) name)
state_is_proper forced os name = state_proper (mentions forced os) name (mentions_proper forced os) (wanted_size (mentions forced os) name)

-- what a row of the table says is the state of its name
pub row_says : (forced : List (List ℕ)) (os : List Contents) (keep : Keep) (entry : Option (List ℕ)) (name : List ℕ)
    (st : State) → IsProper st → statement [] (partial_file forced os keep entry)
    (segment_numbered (type_of (final_by (partial_plan forced os keep entry) name st).bound % 32))
    (final_by (partial_plan forced os keep entry) name st).written ≡ st
row_says forced os keep entry name st h = search rules
