-- The rows of the table, object by object and name by name, are those of the whole list.
use Rattle.std.proofs.Common.{◌≡◌, ℕ, ◌+◌, ◌⊎◌, inl, inr, List, [], ◌∷◌, ◌++◌, map, length, drop, refl, sym, ◌∙◌, ap, arith, length-append}
use Rattle.std.proofs.{Common.{append-nil, drop_of_length-le, ◌≤◌, rules}, lemmas.List.length-map}
use Rattle.std.specs.{Prelude.{filter, not, nat_lt, Option, IsNone, IsTrue, IfSome, ◌↔◌}, List.flat_map}
use Rattle.aout_core.specs.{declared.symbol.Symbol.Symbol, declared.symbol.Segment.Segment, Contents.Contents}
use Rattle.aout_core.specs.{WellFormed.segment_of, WellFormed.is_external}
use Rattle.aout_core.specs.declared.symbol.Segment.TheVariants as segments
use Rattle.link_session.specs.{Starts.{no_starts, starts_after, next_starts, shifts_at}, Earlier.with_earlier, Labelled.{Labelled, objects}}
use Rattle.link_session.specs.{declared.relocate.Starts.Starts, Mentions.names_by_first_mention, States.state, Image.{Named, named_states}}
use Rattle.tool_options.specs.declared.options.Keep.{Keep}
use Rattle.tool_options.specs.declared.options.Keep.TheVariants as keeps
use Rattle.link_out.specs.function.Tables.{is_kept_local, moved_value, moved_local, local_rows, external_row, external_rows, rows_kept}
use Rattle.link_out.specs.{function.Tables.table, internal.Rows.{moves_by, value_moved, symbol_moved, rows_from, rows_with, kept_count}}
use Rattle.link_out.specs.{declared.table.Moves.Moves, Layouts.Bases, function.Finals.{Final, final}, internal.FromCells.finals}
use Rattle.link_out.specs.function.Plans.{Plan}
use Rattle.link_session.proofs.StartLemmas.{next_starts-after}

module _ (b : Bases) (earlier : List Contents) (o : Contents) where
  abbrev moves : Moves
  moves = moves_by b (shifts_at (starts_after earlier) o.header)

  value_moved-local : (segment : Segment) (v : ℕ) → value_moved moves segment v ≡ moved_value b earlier o segment v
  value_moved-local segment v = search rules

  symbols_moved : (symbols : List Symbol) → map (symbol_moved moves) symbols ≡ map (moved_local b earlier o) symbols
  symbols_moved [] = refl
  symbols_moved (s ∷ ss) = λ i. record s { value = value_moved-local (segment_of s) s.value i } ∷ symbols_moved ss i

-- the kept locals, object by object
pub rows_from-local_rows : (p : Plan) (os : List Contents) → rows_from p.at p.choices.keep no_starts os ≡ local_rows p os
rows_from-local_rows p os = from [] os
  where
    from : (earlier os : List Contents) → rows_from p.at p.choices.keep (starts_after earlier) os
        ≡ flat_map (λ q. map (moved_local p.at q.0 q.1) (filter (is_kept_local p.choices.keep) q.1.symbols)) (with_earlier earlier os)
    from earlier [] = refl
    from earlier (o ∷ os) =
        (λ i. symbols_moved p.at earlier o (filter (is_kept_local p.choices.keep) o.symbols) i
        ++ rows_from p.at p.choices.keep (next_starts-after earlier o i) os)
        ∙ ap (λ (l : List Symbol). map (moved_local p.at earlier o) (filter (is_kept_local p.choices.keep) o.symbols) ++ l)
        (from (earlier ++ o ∷ []) os)

length-rows_from : (b : Bases) (keep : Keep) (s : Starts) (os : List Contents) → length (rows_from b keep s os) ≡ kept_count keep os
length-rows_from b keep s [] = refl
length-rows_from b keep s (o ∷ os) = search (rules, length-append, length-map, length-rows_from b keep (next_starts s o.header) os)

pub length-local_rows : (p : Plan) (os : List Contents) → length (local_rows p os) ≡ kept_count p.choices.keep os
length-local_rows p os = cc (rows_from-local_rows p os, length-rows_from p.at p.choices.keep no_starts os)

-- all locals are kept
pub all_kept : (symbols : List Symbol) → filter (λ s. not (is_external s)) symbols ≡ filter (is_kept_local keeps.All) symbols
all_kept [] = refl
all_kept (s ∷ ss) = search (rules, all_kept ss)

-- nothing is kept
nothing_kept : (symbols : List Symbol) → filter (is_kept_local keeps.Nothing) symbols ≡ []
nothing_kept [] = refl
nothing_kept (s ∷ ss) = search (rules, nothing_kept ss)

nothing_counted : (os : List Contents) → kept_count keeps.Nothing os ≡ 0
nothing_counted [] = refl
nothing_counted (o ∷ os) = omega (arith, ap (λ (l : List Symbol). length l) (nothing_kept o.symbols), nothing_counted os)

-- with any other choice the rows are all kept
pub rows_kept-others : (keep : Keep) (rows : List Symbol) → (keep ≡ keeps.Nothing → ⊥) → rows_kept keep rows ≡ rows
rows_kept-others keep rows h = search rules

-- the rows of all objects, with none left
pub rows_all : (b : Bases) (keep : Keep) (s : Starts) (rows : List Symbol) (es : List Labelled) (i : ℕ) → length es ≤ i →
    rows_from b keep no_starts (objects es) ≡ rows ++ rows_from b keep s (objects (drop i es)) →
    rows ≡ rows_from b keep no_starts (objects es)
rows_all b keep s rows es i «end» so_far = cc (append-nil rows, drop_of_length-le es «end»)

-- no row is left if no external is left, or nothing that becomes of one
rows_none : (es : Named) (fs : List Final) → (es ≡ []) ⊎ (length fs ≡ 0) → rows_with es fs ≡ []
rows_none es fs (inl h) = ap (λ (l : Named). rows_with l fs) h
rows_none [] fs (inr h) = refl
rows_none (e ∷ es) [] (inr h) = refl
rows_none (e ∷ es) (f ∷ fs) (inr h) = absurd (omega arith)

-- no row is left to be put if the names or their values are at an end
pub rows_put : (es : Named) (fs : List Final) (all rows : List Symbol) → (es ≡ []) ⊎ (length fs ≡ 0) →
    all ≡ rows ++ rows_with es fs → rows ≡ all
rows_put es fs all rows none so_far = sym (append-nil rows) ∙ ap (λ (l : List Symbol). rows ++ l) (sym (rows_none es fs none)) ∙ sym so_far

-- the externals with what becomes of them in a link
pub rows_planned : (p : Plan) → rows_with (named_states p.mentions) (finals p) ≡ external_rows p
rows_planned p = from (names_by_first_mention p.mentions)
  where
    from : (names : List (List ℕ)) → rows_with (map (λ n. (n, state p.mentions n)) names) (map (final p) names) ≡ map (external_row p) names
    from [] = refl
    from (n ∷ ns) = ap (λ (l : List Symbol). external_row p n ∷ l) (from ns)

-- the whole table, of the locals and the externals
pub table_whole : (p : Plan) (os : List Contents) (keep : Keep) (locals rows : List Symbol) → p.choices.keep ≡ keep →
    (keep ≡ keeps.Nothing → ⊥) → locals ≡ local_rows p os → rows ≡ locals ++ external_rows p → rows ≡ table p os
table_whole p os keep locals rows same others here put = search rules

-- how long the table is
table_length : (p : Plan) (os : List Contents) (keep : Keep) (count : ℕ) → p.choices.keep ≡ keep → (keep ≡ keeps.Nothing → ⊥) →
    count ≡ length (names_by_first_mention p.mentions) → length (table p os) ≡ kept_count keep os + count
table_length p os keep count same others names = search (rules, rows_kept-others, length-append, length-local_rows, length-map)

-- the table is too long if and only if the kept locals and the externals are too many
pub many_rows : (p : Plan) (os : List Contents) (keep : Keep) (count : ℕ) (r : Option ℕ) → p.choices.keep ≡ keep →
    (keep ≡ keeps.Nothing → ⊥) → count ≡ length (names_by_first_mention p.mentions) →
    (IsNone r ↔ IsTrue (nat_lt 5461 (kept_count keep os + count))) → (IsNone r ↔ IsTrue (nat_lt 5461 (length (table p os))))
many_rows p os keep count r same others names h = search (rules, table_length)

-- how many locals are kept
pub locals_counted : (p : Plan) (os : List Contents) (keep : Keep) (r : Option ℕ) → p.choices.keep ≡ keep →
    IfSome r (λ n. n ≡ kept_count keep os) → IfSome r (λ n. n ≡ length (local_rows p os))
locals_counted p os keep r same h = search (rules, length-local_rows)

-- a link that keeps no symbols has no locals
pub none_counted : (p : Plan) (os : List Contents) (keep : Keep) → p.choices.keep ≡ keep → keep ≡ keeps.Nothing →
    0 ≡ length (local_rows p os)
none_counted p os keep same nothing = cc (length-local_rows p os, nothing_counted os)
