-- The kept locals of a partial link among others are those of its objects.
use Rattle.std.proofs.lemmas.Grind.{common_steps}
use Rattle.std.proofs.Common.{◌≡◌, ℕ, Bool, true, false, cond, not, ◌&&◌, List, [], ◌∷◌, ◌++◌, map, Option, refl, sym, ◌∙◌, ap, rules}
use Rattle.std.proofs.{Common.{append_assoc, append-nil, arith}, lemmas.List.map-append, lemmas.List.Elements.filter-append}
use Rattle.std.specs.Prelude.{filter}
use Rattle.aout_core.specs.declared.symbol.Segment.TheVariants.{Undefined, Absolute, TextSeg, DataSeg, BssSeg, Other}
use Rattle.aout_core.specs.WellFormed.{is_external, segment_of}
use Rattle.aout_core.specs.{declared.symbol.Symbol.Symbol, declared.symbol.Segment.Segment, Contents.Contents, Words.plus}
use Rattle.link_session.specs.{Mentions.mentions, Mentions.names_by_first_mention}
use Rattle.tool_options.specs.declared.options.Keep.{Keep}
use Rattle.link_out.specs.function.Tables.{keeps, is_kept_local, moved_value, moved_local, local_rows, external_row, external_rows}
use Rattle.link_out.specs.{Layouts.Bases, Layouts.base, function.Plans.Plan, laws.PartialLinks.KeepsNoMore}
use Rattle.link_out.proofs.partial_links.PartialLemmas.{external_row_outer, partial_plan, partial_file}
use Rattle.link_out.proofs.{partial_links.PartialNames.HasTable, partial_links.NeighbourMentions.partial_as_long}
use Rattle.link_out.proofs.{partial_links.NeighbourCells.based_after}
use Rattle.link_session.proofs.NeighbourLemmas.{AreAsLong, shift_same, start, shift_raised, blocks, one_for_many}

-- a local moved by a partial link, and then by a link of it after others, and moved at once
moved_once : (forced : List (List ℕ)) (os : List Contents) (keep : Keep) (entry : Option (List ℕ)) (at : Bases)
    (bs earlier : List Contents) (o : Contents) (segment : Segment) (value : ℕ) →
    moved_value at bs (partial_file forced os keep entry) segment
    (moved_value (partial_plan forced os keep entry).at earlier o segment value)
    ≡ moved_value at (bs ++ earlier) o segment value
moved_once forced os keep entry at bs earlier o segment value = grind (
  arith,
  common_steps,
  partial_plan,
  partial_file,
  start,
  based_after,
  shift_raised,
)

-- the kept locals of one object
locals_once : (forced : List (List ℕ)) (os : List Contents) (keep : Keep) (entry : Option (List ℕ)) (at : Bases)
    (less : Keep) → KeepsNoMore less keep → (bs earlier : List Contents) (o : Contents) (ss : List Symbol) →
    map (moved_local at bs (partial_file forced os keep entry)) (filter (is_kept_local less)
    (map (moved_local (partial_plan forced os keep entry).at earlier o) (filter (is_kept_local keep) ss)))
    ≡ map (moved_local at (bs ++ earlier) o) (filter (is_kept_local less) ss)
locals_once forced os keep entry at less k bs earlier o [] = refl
locals_once forced os keep entry at less k bs earlier o (s ∷ ss) =
    by_tests (is_external s) refl (keeps less s.name) refl (keeps keep s.name) (k s.name)
    (locals_once forced os keep entry at less k bs earlier o ss)
  where
    by_tests : (e : Bool) → is_external s ≡ e → (l : Bool) → keeps less s.name ≡ l → (m : Bool) → (keeps less s.name ≡ true → m ≡ true) →
        map (moved_local at bs (partial_file forced os keep entry)) (filter (is_kept_local less)
        (map (moved_local (partial_plan forced os keep entry).at earlier o) (filter (is_kept_local keep) ss)))
        ≡ map (moved_local at (bs ++ earlier) o) (filter (is_kept_local less) ss) →
        map (moved_local at bs (partial_file forced os keep entry))
        (filter (is_kept_local less) (map (moved_local (partial_plan forced os keep entry).at earlier o)
        (cond (not e && m) (s ∷ filter (is_kept_local keep) ss) (filter (is_kept_local keep) ss))))
        ≡ map (moved_local at (bs ++ earlier) o) (cond (not e && l) (s ∷ filter (is_kept_local less) ss) (filter (is_kept_local less) ss))
    by_tests true se l sl m f rest = rest
    by_tests false se false sl false f rest = rest
    by_tests false se true sl false f rest = absurd (let bad : false ≡ true = f sl in cc)
    by_tests false se false sl true f rest = rw (se, sl) rest
    by_tests false se true sl true f rest =
        rw (se, sl, rest) (ap (λ (v : ℕ). let t : Symbol = record s { value = v } in t ∷ map (moved_local at (bs ++ earlier) o)
        (filter (is_kept_local less) ss)) (moved_once forced os keep entry at bs earlier o (segment_of s) s.value))

-- no row of an external is a local
no_locals : (less : Keep) (p : Plan) (names : List (List ℕ)) → filter (is_kept_local less) (map (external_row p) names) ≡ []
no_locals less p [] = refl
no_locals less p (n ∷ ns) = rw (external_row_outer p n) (no_locals less p ns)

-- the kept locals of one object after others
abbrev rows_in : Bases → Keep → List Contents → Contents → List Symbol
rows_in at less earlier o = map (moved_local at earlier o) (filter (is_kept_local less) o.symbols)

rows_in_same : (at : Bases) (less : Keep) (xs ys : List Contents) (o : Contents) → AreAsLong xs ys →
    rows_in at less xs o ≡ rows_in at less ys o
rows_in_same at less xs ys o h = from (filter (is_kept_local less) o.symbols)
  where
    moved : (segment : Segment) (value : ℕ) → moved_value at xs o segment value ≡ moved_value at ys o segment value
    moved Undefined value = refl
    moved Absolute value = refl
    moved Other value = refl
    moved TextSeg value = ap (λ (n : ℕ). plus value (plus (base at TextSeg) n)) (shift_same xs ys o TextSeg h)
    moved DataSeg value = ap (λ (n : ℕ). plus value (plus (base at DataSeg) n)) (shift_same xs ys o DataSeg h)
    moved BssSeg value = ap (λ (n : ℕ). plus value (plus (base at BssSeg) n)) (shift_same xs ys o BssSeg h)

    from : (ss : List Symbol) → map (moved_local at xs o) ss ≡ map (moved_local at ys o) ss
    from [] = refl
    from (s ∷ ss) =
        let head = moved (segment_of s) s.value in
        let rest = from ss in
        rw (head, rest) refl

module _ (forced : List (List ℕ)) (bs os cs : List Contents) (keep : Keep) (entry : Option (List ℕ))
    (has : HasTable forced os keep entry) where
  abbrev m : Contents
  m = partial_file forced os keep entry

  -- the kept locals of the partial link are those of its objects
  middle_rows : (at : Bases) (less : Keep) → KeepsNoMore less keep → rows_in at less bs m ≡ blocks (rows_in at less) bs os
  middle_rows at less k =
      ap (λ (ss : List Symbol). map (moved_local at bs m) ss)
      (ap (λ (ss : List Symbol). filter (is_kept_local less) ss) has
      ∙ filter-append (is_kept_local less) (local_rows (partial_plan forced os keep entry) os)
      (external_rows (partial_plan forced os keep entry))
      ∙ rw (no_locals less (partial_plan forced os keep entry) (names_by_first_mention (mentions forced os)))
      (append-nil (filter (is_kept_local less) (local_rows (partial_plan forced os keep entry) os))))
      ∙ from [] os
      ∙ ap (λ (es : List Contents). blocks (rows_in at less) es os) (append-nil bs)
    where
      from : (earlier rest : List Contents) →
          map (moved_local at bs m)
          (filter (is_kept_local less) (blocks (rows_in (partial_plan forced os keep entry).at keep) earlier rest))
          ≡ blocks (rows_in at less) (bs ++ earlier) rest
      from earlier [] = refl
      from earlier (c ∷ rest) =
          let xs = rows_in (partial_plan forced os keep entry).at keep earlier c in
          let ys = blocks (rows_in (partial_plan forced os keep entry).at keep) (earlier ++ c ∷ []) rest in
          ap (λ (ss : List Symbol). map (moved_local at bs m) ss) (filter-append (is_kept_local less) xs ys)
          ∙ map-append (moved_local at bs m) (filter (is_kept_local less) xs) (filter (is_kept_local less) ys)
          ∙ ap (λ (ss : List Symbol). ss ++ map (moved_local at bs m) (filter (is_kept_local less) ys))
          (locals_once forced os keep entry at less k bs earlier c c.symbols)
          ∙ ap (λ (ss : List Symbol). rows_in at less (bs ++ earlier) c ++ ss) (from (earlier ++ c ∷ []) rest)
          ∙ ap (λ (es : List Contents). rows_in at less (bs ++ earlier) c ++ blocks (rows_in at less) es rest)
          (sym (append_assoc bs earlier (c ∷ [])))

  -- the kept locals are the same
  pub same_rows : (at : Bases) (less : Keep) → KeepsNoMore less keep →
      blocks (rows_in at less) [] (bs ++ m ∷ cs) ≡ blocks (rows_in at less) [] (bs ++ (os ++ cs))
  same_rows at less k = search (rules, one_for_many, rows_in_same, partial_as_long, middle_rows)
