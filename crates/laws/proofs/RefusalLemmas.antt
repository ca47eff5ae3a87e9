-- A link is refused exactly where an end, a count or a number is too large.
use Rattle.std.proofs.Common.{◌≡◌, ◌↔◌, ℕ, zero, suc, ◌+◌, ◌<◌, ◌≤◌, Bool, true, false, cond, ◌&&◌, ◌||◌, eqb, eqb-true, List, [], ◌∷◌}
use Rattle.std.proofs.Common.{◌++◌, map, length, Option, Some, None, refl, sym, ◌∙◌, ap, subst, arith, inl, inr, ◌⊎◌, length-append, rules}
use Rattle.std.proofs.lemmas.Map.Keys.{any_passes_from_place}
use Rattle.std.proofs.{lemmas.Bool.{ltb-false, ltb-true, lt-ltb, or_right}, lemmas.List.length-map, lemmas.List.Folds.list_any-append}
use Rattle.std.specs.{Prelude.{filter, slice_get, nat_lt, Result, Ok, Err}, List.{flat_map, list_any, AllByRecursion}}
use Rattle.aout_core.specs.declared.symbol.Segment.TheVariants.{TextSeg, DataSeg, BssSeg}
use Rattle.aout_core.specs.WellFormed.{kind_of, symbol_number, is_wanted, kind_fault}
use Rattle.aout_core.specs.{declared.symbol.Symbol.Symbol, declared.symbol.Segment.Segment, declared.reloc.Reloc.Reloc}
use Rattle.aout_core.specs.{declared.reloc.Kind.Kind, declared.object.ObjectFault.ObjectFault, Contents.Contents, Words.plus}
use Rattle.aout_core.specs.declared.reloc.Kind.TheVariants as kinds
use Rattle.link_session.specs.Mentions.{Mention, mentions, names_by_first_mention, externals, place_of}
use Rattle.link_session.specs.Cells.{referent, referent_by, name_in, words_of, segment_words, segment_relocs}
use Rattle.link_session.specs.{declared.state.State.State, declared.state.State.TheVariants.Defined}
use Rattle.link_session.specs.{declared.state.State.TheVariants.Wanted, Earlier.with_earlier, Starts.total, Sessions.IsObject, States.state}
use Rattle.link_out.specs.declared.linked.LinkFault.TheVariants.{DoesNotFit, TooManySymbols, SymbolNumber, Memory}
use Rattle.link_out.specs.function.Finals.{final, final_by, bound_at, waiting, reserved_or_waiting}
use Rattle.link_out.specs.function.Tables.{is_kept_local, rows_kept, moved_local, local_rows, external_row, external_rows, table, row_of}
use Rattle.link_out.specs.function.Tables.{number_too_large, needs_too_large, has_too_large_in, has_number_too_large}
use Rattle.link_out.specs.{declared.linked.LinkFault.LinkFault, Layouts.data_base, function.Plans.{Plan, plan, common_size, common_offset}}
use Rattle.link_out.specs.{function.Reports.report_of, internal.InOrder.commons_size_in, function.Link.{Outcome, linked_file, link}}
use Rattle.tool_options.specs.Choices.{Choices, lays_commons}
use Rattle.tool_options.specs.{declared.options.Keep.Keep, declared.options.Keep.TheVariants.{All, NotL, Externals, Nothing}}
use Rattle.laws.specs.relation.Refusals.{CommonsTake, EndsAt, kept_locals, entries, entry_count, HasNumberTooLarge, IsRefused}
use Rattle.laws.specs.{relation.NameStates.HasState, relation.NameStates.IsWanted, relation.LinkedTable.space_for}
use Rattle.link_out.proofs.{InOrderLemmas.named_by, InOrderLemmas.commons_size-all, OutcomeLemmas.not_over}
use Rattle.laws.proofs.{HasStateLemmas.{has_state, state_is}, SegmentLemmas.{words_back, word_at}, LinkedRows.space_laid}

-- no two of these are equal

false_true : false ≡ true → ⊥
false_true e = cc

fault_none : (fault : ObjectFault) → Some fault ≡ None → ⊥
fault_none fault e = cc

none_word : (w : ℕ) → None ≡ Some w → ⊥
none_word w e = cc

made_refused : (x : Outcome) (fault : LinkFault) → (let made : Result Outcome LinkFault = Ok x in made) ≡ Err fault → ⊥
made_refused x fault e = cc

same_fault : (one other : LinkFault) → (let refused : Result Outcome LinkFault = Err one in refused) ≡ Err other → one ≡ other
same_fault one other e = cc

-- commons

commons_take : (o : Choices) (ms : List Mention) (names : List (List ℕ)) →
    CommonsTake o ms names (cond (lays_commons o) (commons_size_in (named_by ms names)) 0)
commons_take o ms [] = nothing (lays_commons o)
  where
    nothing : (c : Bool) → (let none : ℕ = cond c 0 0 in none) ≡ 0
    nothing true = refl
    nothing false = refl
commons_take o ms (n ∷ ns) = (
  state ms n,
  has_state ms n,
  (
    cond (lays_commons o) (commons_size_in (named_by ms ns)) 0,
    both (space_for o (state ms n)) (common_size (state ms n)) (commons_size_in (named_by ms ns)) (lays_commons o)
        (space_laid o (state ms n)),
    commons_take o ms ns,
  ),
)
  where
    both : (r c x : ℕ) (t : Bool) → r ≡ cond t c 0 → cond t (c + x) 0 ≡ r + cond t x 0
    both r c x true e = omega arith
    both r c x false e = omega arith

commons_are : (o : Choices) (ms : List Mention) (names : List (List ℕ)) (space : ℕ) → CommonsTake o ms names space →
    space ≡ cond (lays_commons o) (commons_size_in (named_by ms names)) 0
commons_are o ms [] space take = take ∙ nothing (lays_commons o)
  where
    nothing : (c : Bool) → (let none : ℕ = 0 in none) ≡ cond c 0 0
    nothing true = refl
    nothing false = refl
commons_are o ms (n ∷ ns) space take = search (rules, state_is, both, named_by, space_laid, (commons_are o ms ns take.2.0 take.2.2))
  where
    both : (a r c y x : ℕ) (t : Bool) → a ≡ r + y → r ≡ cond t c 0 → y ≡ cond t x 0 → a ≡ cond t (c + x) 0
    both a r c y x true e f g = omega arith
    both a r c y x false e f g = omega arith

-- lists

any_index : {A : Type 0} (t : A → Bool) (xs : List A) → list_any t xs ≡ true →
    (i : ℕ) × ((x : A) × (slice_get xs i ≡ Some x) × (t x ≡ true))
any_index t [] h = absurd (cc)
any_index {A = A} t (x ∷ xs) h = by_test (t x) refl h (any_index t xs)
  where
    by_test : (u : Bool) → t x ≡ u → (u || list_any t xs) ≡ true →
        (list_any t xs ≡ true → (i : ℕ) × ((y : A) × (slice_get xs i ≡ Some y) × (t y ≡ true))) →
        (i : ℕ) × ((y : A) × (slice_get (x ∷ xs) i ≡ Some y) × (t y ≡ true))
    by_test true e h rest = (zero, (x, refl, e))
    by_test false e h rest = let r = rest h in (suc r.0, (r.1.0, r.1.1, r.1.2))

any_split : (t : Contents → Bool) (xs : List Contents) → list_any t xs ≡ true →
    (before : List Contents) × ((k : Contents) × ((after : List Contents) × (xs ≡ before ++ k ∷ after) × (t k ≡ true)))
any_split t [] h = absurd (cc)
any_split t (x ∷ xs) h = by_test (t x) refl h (any_split t xs)
  where
    by_test : (u : Bool) → t x ≡ u → (u || list_any t xs) ≡ true → (list_any t xs ≡ true → (before : List Contents)
        × ((k : Contents) × ((after : List Contents) × (xs ≡ before ++ k ∷ after) × (t k ≡ true)))) →
        (before : List Contents) × ((k : Contents) × ((after : List Contents) × (x ∷ xs ≡ before ++ k ∷ after) × (t k ≡ true)))
    by_test true e h rest = ([], (x, (xs, refl, e)))
    by_test false e h rest = let r = rest h in (x ∷ r.0, (r.1.0, (r.1.1.0, ap (λ (ys : List Contents). x ∷ ys) r.1.1.1, r.1.1.2)))

module _ (forced : List (List ℕ)) (os : List Contents) (o : Choices) where
  abbrev p : Plan
  p = plan forced os o

  abbrev ms : List Mention
  ms = mentions forced os

  abbrev names : List (List ℕ)
  names = names_by_first_mention (mentions forced os)

  -- the end of bss

  ends_here : EndsAt forced os o p.at.bss_end
  ends_here = record {
    commons = cond (lays_commons o) (commons_size_in (named_by ms names)) 0;
    take = commons_take o ms names;
    is =
        ap (λ (n : ℕ). data_base o.layout (total TextSeg os) + total DataSeg os + cond (lays_commons o) n 0 + total BssSeg os)
        (sym (commons_size-all ms));
  }

  ends_is : (end : ℕ) → EndsAt forced os o end → end ≡ p.at.bss_end
  ends_is end e =
      e.is
      ∙ ap (λ (n : ℕ). data_base o.layout (total TextSeg os) + total DataSeg os + n + total BssSeg os)
      (commons_are o ms names e.commons e.take)
      ∙ ap (λ (n : ℕ). data_base o.layout (total TextSeg os) + total DataSeg os + cond (lays_commons o) n 0 + total BssSeg os)
      (commons_size-all ms)

  -- the entries

  -- how many locals are kept of some of the objects
  pub locals_long : (earlier rest : List Contents) →
      length (flat_map (λ q. map (moved_local p.at q.0 q.1) (filter (is_kept_local o.keep) q.1.symbols))
      (with_earlier earlier rest)) ≡ length (kept_locals o rest)
  locals_long earlier [] = refl
  locals_long earlier (k ∷ ks) =
      length-append (map (moved_local p.at earlier k) (filter (is_kept_local o.keep) k.symbols))
      (flat_map (λ q. map (moved_local p.at q.0 q.1) (filter (is_kept_local o.keep) q.1.symbols)) (with_earlier (earlier ++ k ∷ []) ks))
      ∙ (λ i. length-map (filter (is_kept_local o.keep) k.symbols) (moved_local p.at earlier k) i + locals_long (earlier ++ k ∷ []) ks i)
      ∙ sym (length-append (filter (is_kept_local o.keep) k.symbols) (kept_locals o ks))

  kept_long : (keep : Keep) (rows : List Symbol) → length (rows_kept keep rows) ≡ entries keep (length rows)
  kept_long Nothing rows = refl
  kept_long All rows = refl
  kept_long NotL rows = refl
  kept_long Externals rows = refl

  -- how many rows the table has
  pub table_long : length (table p os) ≡ entry_count forced os o
  table_long =
      kept_long o.keep (local_rows p os ++ external_rows p)
      ∙ ap (λ (n : ℕ). entries o.keep n)
      (length-append (local_rows p os) (external_rows p) ∙ (λ i. locals_long [] os i + length-map names (external_row p) i))

  number_same : (name : List ℕ) → row_of p os name ≡ length (kept_locals o os) + place_of name (externals forced os)
  number_same name = ap (λ (n : ℕ). n + place_of name names) (locals_long [] os)

  -- numbers that are too large

  -- a name that waits at a row whose number is too large is wanted and has no address
  large_state : (name : List ℕ) (n : ℕ) (st : State) → o.relocatable ≡ true →
      HasState ms name st → number_too_large (final_by p name st).bound n ≡ true →
      (size : ℕ) × IsWanted ms name size × ((size ≡ 0) ⊎ (lays_commons o ≡ false)) × (4095 < n)
  large_state name n (Defined segment offset) r h e = absurd (false_true e)
  large_state name n (Wanted size) r h e = by_tests (eqb size 0) refl o.relocatable r (lays_commons o) refl e
    where
      by_tests : (z : Bool) → eqb size 0 ≡ z → (r : Bool) → r ≡ true → (c : Bool) → lays_commons o ≡ c →
          number_too_large (cond z (cond r (waiting 0) (reserved_or_waiting p.at name))
          (cond c (bound_at BssSeg (plus p.at.data_end (common_offset ms name))) (waiting size))).bound n ≡ true →
          (size : ℕ) × IsWanted ms name size × ((size ≡ 0) ⊎ (lays_commons o ≡ false)) × (4095 < n)
      by_tests true ze true re c ce e = (size, h, inl (eqb-true size 0 ze), ltb-true 4095 n e)
      by_tests true ze false re c ce e = absurd (false_true re)
      by_tests false ze r re true ce e = absurd (false_true e)
      by_tests false ze r re false ce e = (size, h, inr ce, ltb-true 4095 n e)

  state_large : (name : List ℕ) (n size : ℕ) → o.relocatable ≡ true → IsWanted ms name size →
      (size ≡ 0) ⊎ (lays_commons o ≡ false) → 4095 < n → number_too_large (final p name).bound n ≡ true
  state_large name n size r h w large =
      ap (λ (s : State). number_too_large (final_by p name s).bound n) (state_is ms name (Wanted size) h)
      ∙ by_tests (eqb size 0) refl o.relocatable r (lays_commons o) refl w
    where
      by_tests : (z : Bool) → eqb size 0 ≡ z → (r : Bool) → r ≡ true → (c : Bool) → lays_commons o ≡ c →
          (size ≡ 0) ⊎ (lays_commons o ≡ false) →
          number_too_large (cond z (cond r (waiting 0) (reserved_or_waiting p.at name))
          (cond c (bound_at BssSeg (plus p.at.data_end (common_offset ms name))) (waiting size))).bound n ≡ true
      by_tests true ze true re c ce w = lt-ltb 4095 n large
      by_tests true ze false re c ce w = absurd (false_true re)
      by_tests false ze r re false ce w = lt-ltb 4095 n large
      by_tests false ze r re true ce (inl w) = absurd (false_true (sym ze ∙ ap (λ (m : ℕ). eqb m 0) w))
      by_tests false ze r re true ce (inr w) = absurd (false_true (sym w ∙ ce))

  abbrev IsTooLargeIn : Segment → Contents → Bool
  IsTooLargeIn segment k = list_any (λ wr. needs_too_large p os (referent k wr.1)) (words_of segment k)

  record IsFar (k : Contents) (r : Reloc) : Type 0 where
    kind : kind_of r ≡ Some kinds.External
    symbol : Symbol
    named : slice_get k.symbols (symbol_number r) ≡ Some symbol
    large : number_too_large (final p symbol.name).bound (row_of p os symbol.name) ≡ true

  target_too_large : (k : Contents) (r : Reloc) (n : ℕ) → kind_fault k.symbols n (kind_of r) (symbol_number r) ≡ None →
      needs_too_large p os (referent k r) ≡ true → IsFar k r
  target_too_large k r n fine e = by_kind (kind_of r) refl fine e
    where
      by_slot : kind_of r ≡ Some kinds.External → (slot : Option Symbol) → slice_get k.symbols (symbol_number r) ≡ slot →
          cond (is_wanted slot) None (Some (ObjectFault.BadSymbolNumber n)) ≡ None →
          number_too_large (final p (name_in slot)).bound (row_of p os (name_in slot)) ≡ true → IsFar k r
      by_slot ke None se h f = absurd (fault_none _ h)
      by_slot ke (Some s) se h f = record { kind = ke; symbol = s; named = se; large = f }

      by_kind : (kind : Option Kind) → kind_of r ≡ kind → kind_fault k.symbols n kind (symbol_number r) ≡ None →
          needs_too_large p os (referent_by k (symbol_number r) kind) ≡ true → IsFar k r
      by_kind None ke h f = absurd (fault_none _ h)
      by_kind (Some kinds.External) ke h f = by_slot ke (slice_get k.symbols (symbol_number r)) refl h f
      by_kind (Some kind) ke h f = absurd (false_true f)

  large_by : (name : List ℕ) → 4095 < row_of p os name → 4095 < length (kept_locals o os) + place_of name (externals forced os)
  large_by name large = subst (λ (n : ℕ). 4095 < n) (number_same name) large

  large_word : (before : List Contents) (k : Contents) (after : List Contents) → os ≡ before ++ k ∷ after →
      (segment : Segment) (i w : ℕ) (r : Reloc) → slice_get (segment_words segment k) i ≡ Some w →
      slice_get (segment_relocs segment k) i ≡ Some r →
      (f : IsFar k r) → (size : ℕ) × IsWanted ms f.symbol.name size × ((size ≡ 0) ⊎ (lays_commons o ≡ false))
      × (4095 < row_of p os f.symbol.name) → HasNumberTooLarge 4095 forced os o
  large_word before k after all segment i w r word reloc f (size, wanted, waits, large) =
      record {
        before = before;
        k = k;
        after = after;
        all = all;
        segment = segment;
        i = i;
        w = w;
        r = r;
        word = word;
        reloc = reloc;
        kind = f.kind;
        symbol = f.symbol;
        named = f.named;
        size = size;
        wanted = wanted;
        waits = waits;
        large = large_by f.symbol.name large;
      }

  too_large_in : AllByRecursion IsObject os → o.relocatable ≡ true → (segment : Segment) → has_too_large_in p os segment ≡ true →
      HasNumberTooLarge 4095 forced os o
  too_large_in good rel segment h = by_object (any_split (IsTooLargeIn segment) os h)
    where
      by_index : (before : List Contents) (k : Contents) (after : List Contents) → os ≡ before ++ k ∷ after →
          (i : ℕ) × ((wr : ℕ × Reloc) × (slice_get (words_of segment k) i ≡ Some wr)
          × (needs_too_large p os (referent k wr.1) ≡ true)) → HasNumberTooLarge 4095 forced os o
      by_index before k after all (i, ((w, r), at, out)) =
          let back = words_back segment k i (w, r) at in
          let word = word_at forced os before k after all good segment i w r back.0 back.1 in
          let f = target_too_large k r word.number word.fine out in
          large_word before k after all segment i w r back.0 back.1 f
          (large_state f.symbol.name (row_of p os f.symbol.name) (state ms f.symbol.name) rel (has_state ms f.symbol.name) f.large)

      by_object : (before : List Contents)
          × ((k : Contents) × ((after : List Contents) × (os ≡ before ++ k ∷ after) × (IsTooLargeIn segment k ≡ true))) →
          HasNumberTooLarge 4095 forced os o
      by_object (before, (k, (after, all, large))) =
          by_index before k after all (any_index (λ wr. needs_too_large p os (referent k wr.1)) (words_of segment k) large)

  large_found : AllByRecursion IsObject os → o.relocatable ≡ true → has_number_too_large p os ≡ true → HasNumberTooLarge 4095 forced os o
  large_found good rel h = by_text (has_too_large_in p os TextSeg) refl h
    where
      by_text : (t : Bool) → has_too_large_in p os TextSeg ≡ t → (t || has_too_large_in p os DataSeg) ≡ true →
          HasNumberTooLarge 4095 forced os o
      by_text true e h = too_large_in good rel TextSeg e
      by_text false e h = too_large_in good rel DataSeg h

  large_back : AllByRecursion IsObject os → o.relocatable ≡ true → HasNumberTooLarge 4095 forced os o → has_number_too_large p os ≡ true
  large_back good rel f = by_segment f.segment f.word here
    where
      large : needs_too_large p os (referent f.k f.r) ≡ true
      large =
          (λ i. needs_too_large p os (referent_by f.k (symbol_number f.r) (f.kind i)))
          ∙ ap (λ (s : Option Symbol). number_too_large (final p (name_in s)).bound (row_of p os (name_in s))) f.named
          ∙ state_large f.symbol.name (row_of p os f.symbol.name) f.size rel f.wanted f.waits
          (subst (λ (n : ℕ). 4095 < n) (sym (number_same f.symbol.name)) f.large)

      or_middle : (a b c : Bool) → b ≡ true → (a || (b || c)) ≡ true
      or_middle true b c h = refl
      or_middle false true c h = refl
      or_middle false false c h = absurd (false_true h)

      here : has_too_large_in p os f.segment ≡ true
      here =
          ap (λ (xs : List Contents). list_any (IsTooLargeIn f.segment) xs) f.all
          ∙ list_any-append (IsTooLargeIn f.segment) f.before (f.k ∷ f.after)
          ∙ or_middle (list_any (IsTooLargeIn f.segment) f.before) (IsTooLargeIn f.segment f.k) (list_any (IsTooLargeIn f.segment) f.after)
          (any_passes_from_place (λ wr. needs_too_large p os (referent f.k wr.1)) (words_of f.segment f.k) f.i (f.w, f.r)
          (word_at forced os f.before f.k f.after f.all good f.segment f.i f.w f.r f.word f.reloc).is_there large)

      by_segment : (segment : Segment) → slice_get (segment_words segment f.k) f.i ≡ Some f.w →
          has_too_large_in p os segment ≡ true → has_number_too_large p os ≡ true
      by_segment TextSeg w h = ap (λ (t : Bool). t || has_too_large_in p os DataSeg) h
      by_segment DataSeg w h = or_right (has_too_large_in p os TextSeg) (has_too_large_in p os DataSeg) h
      by_segment segment w h = absurd (none_word f.w w)

  -- refusals

  abbrev made_by : Bool → Bool → Bool → Result Outcome LinkFault
  made_by t u v =
      cond t (Err DoesNotFit)
      (cond u (Err TooManySymbols) (cond v (Err SymbolNumber) (Ok (record { file = linked_file p os; report = report_of p }))))

  refused_by : AllByRecursion IsObject os → (fault : LinkFault) → link forced os o ≡ Err fault → IsRefused forced os o fault
  refused_by good fault h =
      by_tests (nat_lt 65535 p.at.bss_end) refl (nat_lt 5461 (length (table p os))) refl o.relocatable refl
      (has_number_too_large p os) refl h
    where
      by_tests : (t : Bool) → nat_lt 65535 p.at.bss_end ≡ t → (u : Bool) → nat_lt 5461 (length (table p os)) ≡ u →
          (r : Bool) → o.relocatable ≡ r → (v : Bool) → has_number_too_large p os ≡ v → made_by t u (r && v) ≡ Err fault →
          IsRefused forced os o fault
      by_tests true te u ue r re v ve h =
          let same : DoesNotFit ≡ fault = same_fault DoesNotFit fault h in
          subst (λ (f : LinkFault). IsRefused forced os o f) same (p.at.bss_end, ends_here, ltb-true 65535 p.at.bss_end te)
      by_tests false te true ue r re v ve h = search (rules, same_fault, ends_here, ltb-false, table_long, ltb-true)
      by_tests false te false ue true re true ve h = search (rules, same_fault, ends_here, ltb-false, table_long, large_found)
      by_tests false te false ue true re false ve h = absurd (made_refused _ fault h)
      by_tests false te false ue false re v ve h = absurd (made_refused _ fault h)

  short_by : (end : ℕ) → EndsAt forced os o end → end ≤ 65535 → nat_lt 65535 p.at.bss_end ≡ false
  short_by end e l = not_over 65535 p.at.bss_end (subst (λ (n : ℕ). n ≤ 65535) (ends_is end e) l)

  refused_is : AllByRecursion IsObject os → (fault : LinkFault) → IsRefused forced os o fault → link forced os o ≡ Err fault
  refused_is good DoesNotFit h =
      λ i. made_by (lt-ltb 65535 p.at.bss_end (subst (λ (n : ℕ). 65535 < n) (ends_is h.0 h.1) h.2) i)
      (nat_lt 5461 (length (table p os))) (o.relocatable && has_number_too_large p os)
  refused_is good TooManySymbols h =
      λ i. made_by (short_by h.0 h.1 h.2 i) (lt-ltb 5461 (length (table p os))
      (subst (λ (n : ℕ). 5461 < n) (sym table_long) h.3) i) (o.relocatable && has_number_too_large p os)
  refused_is good SymbolNumber h =
      λ i. made_by (short_by h.0 h.1 h.2 i) (not_over 5461 (length (table p os))
      (subst (λ (n : ℕ). n ≤ 5461) (sym table_long) h.3) i) (h.4 i && large_back good h.4 h.5 i)
  refused_is good (Memory _) h = absurd h

-- a link is refused with a fault if and only if the relation of refusals holds of it
pub refused_exactly : (forced : List (List ℕ)) (os : List Contents) (o : Choices) (fault : LinkFault) →
    AllByRecursion IsObject os → (link forced os o ≡ Err fault) ↔ IsRefused forced os o fault
refused_exactly forced os o fault good = (refused_by forced os o good fault, refused_is forced os o good fault)
