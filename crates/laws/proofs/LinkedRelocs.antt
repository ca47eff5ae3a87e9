-- The kept locals and the relocation words are those that the relation of linking tells, and no others.
use Rattle.std.proofs.Common.{◌≡◌, ℕ, zero, suc, ◌+◌, ◌*◌, ◌/◌, ◌%◌, ◌≤◌, Bool, true, false, cond, ◌&&◌, ◌||◌, eqb, List, [], ◌∷◌, ◌++◌}
use Rattle.std.proofs.Common.{map, length, Option, Some, None, refl, sym, ◌∙◌, ap, subst, arith, append_assoc, rules}
use Rattle.std.proofs.{lemmas.Bool.ltb-false, lemmas.Bool.ltb-true, lemmas.Bool.or_parts, lemmas.List.Folds.list_any-append, lemmas.Option.same_Some}
use Rattle.std.specs.{Prelude.{bytes_eq, filter, slice_get, nat_lt}, List.{flat_map, list_any, AllByRecursion}}
use Rattle.aout_core.specs.declared.symbol.Segment.TheVariants.{Undefined, TextSeg, DataSeg, BssSeg, Other}
use Rattle.aout_core.specs.WellFormed.{segment_of, kind_of, symbol_number, is_wanted, kind_fault}
use Rattle.aout_core.specs.{declared.symbol.Symbol.Symbol, declared.symbol.Segment.Segment, declared.reloc.Reloc.Reloc}
use Rattle.aout_core.specs.{declared.reloc.Kind.Kind, declared.object.ObjectFault.ObjectFault, Contents.Contents, Words.plus}
use Rattle.aout_core.specs.declared.reloc.Kind.TheVariants as kinds
use Rattle.link_session.specs.Mentions.{mentions, names_of, names_by_first_mention, place_of}
use Rattle.link_session.specs.Cells.{referent, referent_by, name_in, words_of, segment_relocs}
use Rattle.link_session.specs.{declared.state.State.State, declared.state.State.TheVariants.Defined}
use Rattle.link_session.specs.{declared.state.State.TheVariants.Wanted, Earlier.with_earlier, Starts.total, Sessions.IsObject, States.state}
use Rattle.tool_options.specs.{NameLists.is_among, Choices.Choices, Choices.lays_commons}
use Rattle.link_session.proofs.{CellLemmas.RefersAmong, MentionLemmas.is_among-externals, NeighbourLemmas.blocks}
use Rattle.link_out.specs.function.Finals.{final, final_by, type_of, bound_at, waiting, etext, edata, end_name}
use Rattle.link_out.specs.function.Tables.{is_kept_local, moved_value, moved_local, local_rows, external_row, external_rows, row_of}
use Rattle.link_out.specs.function.Tables.{name_bits, referent_bits, final_reloc, final_relocs, number_too_large, needs_too_large}
use Rattle.link_out.specs.{function.Tables.has_too_large_in, function.Plans.{Plan, plan, common_offset}, function.Link.linked_header}
use Rattle.laws.specs.relation.LinkedWords.{row_bits, IsNamedBy, AreBits, AreKept}
use Rattle.laws.specs.{relation.Relocated.entry_of, relation.LinkedTable.{moved_value_in, moved_local_in, moved_locals_in}}
use Rattle.link_out.proofs.partial_links.PartialLemmas.{IsProper, state_is_proper}
use Rattle.laws.proofs.SegmentLemmas.{HasWords, made_found, made_whole, words_back, front_objects, word_at}
use Rattle.laws.proofs.{MoveLemmas.move_by_header, ExternalLemmas.names_of_rows, ExternalLemmas.entry_among}

-- locals

module _ (forced : List (List ℕ)) (os : List Contents) (o : Choices) where
  value_same : (earlier : List Contents) (k : Contents) (segment : Segment) (value : ℕ) →
      moved_value_in (linked_header (plan forced os o) os) os earlier k segment value
      ≡ moved_value (plan forced os o).at earlier k segment value
  value_same earlier k TextSeg value = ap (λ (n : ℕ). plus value n) (sym (move_by_header forced os o earlier k TextSeg))
  value_same earlier k DataSeg value = ap (λ (n : ℕ). plus value n) (sym (move_by_header forced os o earlier k DataSeg))
  value_same earlier k BssSeg value = ap (λ (n : ℕ). plus value n) (sym (move_by_header forced os o earlier k BssSeg))
  value_same earlier k segment value = refl

  local_same : (earlier : List Contents) (k : Contents) (s : Symbol) →
      moved_local_in (linked_header (plan forced os o) os) os earlier k s ≡ moved_local (plan forced os o).at earlier k s
  local_same earlier k s = ap (λ (v : ℕ). let t : Symbol = record s { value = v } in t) (value_same earlier k (segment_of s) s.value)

  -- the kept locals, moved by the file's own header, are those of the link
  pub locals_same : moved_locals_in (linked_header (plan forced os o) os) os o ≡ local_rows (plan forced os o) os
  locals_same = λ i. flat_map (λ q. map (λ s. local_same q.0 q.1 s i) (filter (is_kept_local o.keep) q.1.symbols)) (with_earlier [] os)

-- where a name is bound, if it is

abbrev IsPlace : Option Segment → Type 0
IsPlace (Some Undefined) = ⊥
IsPlace (Some Other) = ⊥
IsPlace _ = Unit {0}

final_place : (p : Plan) (name : List ℕ) (st : State) → IsProper st → IsPlace (final_by p name st).bound
final_place p name (Defined Undefined n) h = absurd h
final_place p name (Defined Other n) h = absurd h
final_place p name (Wanted size) h =
    by_tests (plus p.at.data_end (common_offset p.mentions name)) (eqb size 0) p.choices.relocatable
    (lays_commons p.choices) (bytes_eq name etext) (bytes_eq name edata) (bytes_eq name end_name)
  where
    by_tests : (a : ℕ) (z r c t d e : Bool) →
        IsPlace (cond z (cond r (waiting 0) (cond t (bound_at TextSeg p.at.text_end) (cond d (bound_at DataSeg p.at.data_end)
        (cond e (bound_at BssSeg p.at.bss_end) (waiting 0))))) (cond c (bound_at BssSeg a) (waiting size))).bound
    by_tests a true true c t d e = tt
    by_tests a true false c true d e = tt
    by_tests a true false c false true e = tt
    by_tests a true false c false false true = tt
    by_tests a true false c false false false = tt
    by_tests a false r true t d e = tt
    by_tests a false r false t d e = tt
final_place p name (Defined segment n) h = tt

bits_same : (name : List ℕ) (value : ℕ) (b : Option Segment) → IsPlace b → (n : ℕ) →
    row_bits (record { name = name; type_bits = type_of b; value = value }) n ≡ name_bits b n
bits_same name value None h n = refl
bits_same name value (Some Undefined) h n = absurd h
bits_same name value (Some Other) h n = absurd h
bits_same name value (Some segment) h n = refl

large_same : (b : Option Segment) → IsPlace b → (n : ℕ) → number_too_large b n ≡ (eqb (type_of b % 32) 0 && nat_lt 4095 n)
large_same None h n = refl
large_same (Some Undefined) h n = absurd h
large_same (Some Other) h n = absurd h
large_same (Some segment) h n = refl

-- a number that is not too large fits
numbered_of : (z : Bool) (n : ℕ) → (z && nat_lt 4095 n) ≡ false → z ≡ true → n ≤ 4095
numbered_of true n h e = ltb-false 4095 n h
numbered_of false n h e = absurd (cc)

large_of : (z : Bool) (n : ℕ) → (z ≡ true → n ≤ 4095) → (z && nat_lt 4095 n) ≡ false
large_of false n h = refl
large_of true n h = by_test (nat_lt 4095 n) refl (h refl)
  where
    by_test : (t : Bool) → nat_lt 4095 n ≡ t → n ≤ 4095 → t ≡ false
    by_test false e l = refl
    by_test true e l = absurd (let low = ltb-true 4095 n e in omega arith)

-- bits

module _ (forced : List (List ℕ)) (os : List Contents) (o : Choices) where
  abbrev pub p : Plan
  p = plan forced os o

  abbrev pub rows : List Symbol
  rows = external_rows (plan forced os o)

  abbrev pub locals : ℕ
  locals = length (local_rows (plan forced os o) os)

  there : (name : List ℕ) → is_among (names_of (mentions forced os)) name ≡ true → entry_of rows name ≡ Some (external_row p name)
  there name known =
      entry_among p (names_by_first_mention (mentions forced os)) name
      ∙ ap (λ (t : Bool). let r : Option Symbol = cond t (Some (external_row p name)) None in r)
      (is_among-externals (mentions forced os) name ∙ known)

  number_same : (name : List ℕ) → locals + place_of name (map (λ s. s.name) rows) ≡ row_of p os name
  number_same name =
      ap (λ (names : List (List ℕ)). locals + place_of name names) (names_of_rows p (names_by_first_mention (mentions forced os)))

  placed : (name : List ℕ) → IsPlace (final p name).bound
  placed name = final_place p name (state (mentions forced os) name) (state_is_proper forced os name)

  bits_by : (k : Contents) (kind : Option Kind) (number n : ℕ) → kind_fault k.symbols n kind number ≡ None →
      RefersAmong (names_of (mentions forced os)) (referent_by k number kind) →
      needs_too_large p os (referent_by k number kind) ≡ false →
      AreBits rows locals k kind number (referent_bits p os (referent_by k number kind))
  bits_by k None number n h known numbered = absurd (cc)
  bits_by k (Some kinds.External) number n h known numbered = by_slot (slice_get k.symbols number) refl h known numbered
    where
      by_slot : (slot : Option Symbol) → slice_get k.symbols number ≡ slot → cond (is_wanted slot) None
          (Some (ObjectFault.BadSymbolNumber n)) ≡ None → is_among (names_of (mentions forced os)) (name_in slot) ≡ true →
          number_too_large (final p (name_in slot)).bound (row_of p os (name_in slot)) ≡ false →
          IsNamedBy rows locals k number (name_bits (final p (name_in slot)).bound (row_of p os (name_in slot)))
      by_slot None e h known numbered = absurd (cc)
      by_slot (Some s) e h known numbered = record {
        symbol = s;
        row = external_row p s.name;
        named = e;
        found = there s.name known;
        are =
            sym (ap (λ (m : ℕ). row_bits (external_row p s.name) m) (number_same s.name)
            ∙ bits_same s.name (final p s.name).written (final p s.name).bound (placed s.name) (row_of p os s.name));
        numbered = λ z. subst (λ (m : ℕ). m ≤ 4095) (sym (number_same s.name))
            (numbered_of (eqb (type_of (final p s.name).bound % 32) 0) (row_of p os s.name)
            (sym (large_same (final p s.name).bound (placed s.name) (row_of p os s.name)) ∙ numbered) z);
      }
  bits_by k (Some kind) number n h known numbered = refl

  -- no other bits, and none that are too large
  bits_are : (k : Contents) (kind : Option Kind) (number bits : ℕ) →
      RefersAmong (names_of (mentions forced os)) (referent_by k number kind) → AreBits rows locals k kind number bits →
      (bits ≡ referent_bits p os (referent_by k number kind)) × (needs_too_large p os (referent_by k number kind) ≡ false)
  bits_are k None number bits known is = absurd is
  bits_are k (Some kinds.External) number bits known is = search (
    rules,
    same_Some,
    there,
    number_same,
    bits_same,
    placed,
    large_same,
    large_of,
  )
  bits_are k (Some kind) number bits known is = (is, refl)

  -- relocation words

  -- the relocation words of the link are those that the relation allows
  pub kept_by : (file : Contents) (segment : Segment) → HasWords segment → AllByRecursion IsObject os →
      segment_relocs segment file ≡ final_relocs p os segment → has_too_large_in p os segment ≡ false →
      AreKept file rows locals os segment
  kept_by file segment has good relocs numbered before k after all i w r ew er =
      let word = word_at forced os before k after all good segment i w r ew er in
      record {
        bits = referent_bits p os (referent k r);
        are =
            bits_by k (kind_of r) (symbol_number r) word.number word.fine word.known
            (none_large segment numbered before k after all i (w, r) word.is_there);
        word =
            ap (λ (rs : List Reloc). slice_get rs (total segment before / 2 + i)) relocs
            ∙ ap (λ (xs : List Contents). slice_get (blocks (λ earlier c. map (λ wr. final_reloc p os c wr.1) (words_of segment c)) [] xs)
            (total segment before / 2 + i)) all
            ∙ made_found (λ earlier c w r. final_reloc p os c r) segment has before k after
            (front_objects forced os before k after all good) i w r word.is_there;
      }
    where
      any_at : {A : Type 0} (t : A → Bool) (xs : List A) (i : ℕ) (x : A) → list_any t xs ≡ false → slice_get xs i ≡ Some x → t x ≡ false
      any_at t [] i x h e = absurd (cc)
      any_at t (a ∷ xs) zero x h e = let same : a ≡ x = cc in ap t (sym same) ∙ (or_parts (t a) (list_any t xs) h).0
      any_at t (a ∷ xs) (suc i) x h e = any_at t xs i x (or_parts (t a) (list_any t xs) h).1 e

      none_large : (segment : Segment) → has_too_large_in p os segment ≡ false →
          (before : List Contents) (k : Contents) (after : List Contents) → os ≡ before ++ k ∷ after →
          (i : ℕ) (wr : ℕ × Reloc) → slice_get (words_of segment k) i ≡ Some wr → needs_too_large p os (referent k wr.1) ≡ false
      none_large segment h before k after all i wr e =
          any_at (λ wr. needs_too_large p os (referent k wr.1)) (words_of segment k) i wr
          (either (list_any (λ (c : Contents). list_any (λ wr. needs_too_large p os (referent c wr.1)) (words_of segment c)) before)
          (list_any (λ wr. needs_too_large p os (referent k wr.1)) (words_of segment k))
          (list_any (λ (c : Contents). list_any (λ wr. needs_too_large p os (referent c wr.1)) (words_of segment c)) after)
          (sym (ap (λ (xs : List Contents).
          list_any (λ (c : Contents). list_any (λ wr. needs_too_large p os (referent c wr.1)) (words_of segment c)) xs) all
          ∙ list_any-append (λ (c : Contents). list_any (λ wr. needs_too_large p os (referent c wr.1)) (words_of segment c))
          before (k ∷ after)) ∙ h)) e
        where
          either : (a b c : Bool) → (a || (b || c)) ≡ false → b ≡ false
          either true b c h = absurd (cc)
          either false true c h = h
          either false false c h = refl

  -- the relation allows no others, and none whose number is too large
  pub kept_whole : (file : Contents) (segment : Segment) → HasWords segment → AllByRecursion IsObject os →
      2 * length (segment_relocs segment file) ≡ total segment os → AreKept file rows locals os segment →
      (segment_relocs segment file ≡ final_relocs p os segment) × (has_too_large_in p os segment ≡ false)
  kept_whole file segment has good long kept = (
    made_whole (λ earlier c w r. final_reloc p os c r) segment has os good (segment_relocs segment file) long
        (λ before k after all i w r e.
        let f = facts before k after all i w r e in
        f.1 ∙ ap (λ (b : ℕ). let s : Option Reloc = Some (record { 0 = r.0 % 2 + b }) in s) f.2.0),
    none_in [] os refl,
  )
    where
      facts : (before : List Contents) (k : Contents) (after : List Contents) → os ≡ before ++ k ∷ after →
          (i w : ℕ) (r : Reloc) → slice_get (words_of segment k) i ≡ Some (w, r) →
          (bits : ℕ) × (slice_get (segment_relocs segment file) (total segment before / 2 + i) ≡ Some (record { 0 = r.0 % 2 + bits }))
          × ((bits ≡ referent_bits p os (referent k r)) × (needs_too_large p os (referent k r) ≡ false))
      facts before k after all i w r e =
          let back = words_back segment k i (w, r) e in
          let word = word_at forced os before k after all good segment i w r back.0 back.1 in
          let h = kept before k after all i w r back.0 back.1 in
          (h.bits, h.word, bits_are k (kind_of r) (symbol_number r) h.bits word.known h.are)

      none_any : {A : Type 0} (t : A → Bool) (xs : List A) → ((i : ℕ) (x : A) → slice_get xs i ≡ Some x → t x ≡ false) →
          list_any t xs ≡ false
      none_any t [] h = refl
      none_any t (x ∷ xs) h = (λ i. h 0 x refl i || none_any t xs (λ j y e. h (suc j) y e) i)

      none_in : (before rest : List Contents) → os ≡ before ++ rest →
          list_any (λ (c : Contents). list_any (λ wr. needs_too_large p os (referent c wr.1)) (words_of segment c)) rest ≡ false
      none_in before [] all = refl
      none_in before (k ∷ ks) all =
          λ j. none_any (λ wr. needs_too_large p os (referent k wr.1)) (words_of segment k)
          (λ i wr e. (facts before k ks all i wr.0 wr.1 e).2.1) j
          || none_in (before ++ k ∷ []) ks (all ∙ sym (append_assoc before (k ∷ []) ks)) j
