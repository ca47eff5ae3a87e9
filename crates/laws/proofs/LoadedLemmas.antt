-- What a link puts into the core: words and zeros.
use Rattle.std.proofs.Common.{rules, ◌≡◌, ◌≢◌, ℕ, ◌+◌, ◌-◌, ◌*◌, ◌/◌, ◌%◌, true, cond, List, [], ◌∷◌, ◌++◌, length, Some}
use Rattle.std.proofs.{Common.{refl, sym, ◌∙◌, subst, arith}, lemmas.Option.slice_get_within}
use Rattle.std.specs.{Prelude.slice_get, Prelude.Ok, List.AllByRecursion}
use Rattle.aout_core.specs.{declared.symbol.Symbol.Symbol, declared.symbol.Segment.Segment, declared.reloc.Reloc.Reloc, Contents.Contents}
use Rattle.aout_core.specs.{declared.symbol.Segment.TheVariants.{TextSeg, DataSeg, BssSeg}, declared.header.Header.Header}
use Rattle.aout_core.specs.{Words.{plus, minus}, WellFormed.is_pc_relative}
use Rattle.link_session.specs.{Starts.total, Starts.own, Sessions.IsObject, Cells.segment_words, Cells.segment_relocs}
use Rattle.link_session.proofs.ListLemmas.{all_split}
use Rattle.tool_options.specs.{declared.options.Keep.TheVariants.Nothing, declared.options.Layout.Layout}
use Rattle.tool_options.specs.{declared.options.Layout.TheVariants.{Plain, Pure, Split}, Choices.{Choices}}
use Rattle.link_out.specs.{Layouts.magic_of, Results.Outcome, function.Link.link}
use Rattle.laws.specs.relation.Relocated.{base_in, move_in, IsRelocated, HoldsObjects}
use Rattle.laws.specs.{relation.LinkedFrom.IsLinkedFrom}
use Rattle.laws.specs.Core.{Space, has_segment, first_address, bytes_of, segment_byte, IsWordAt}
use Rattle.laws.specs.CoreLaws.{space_of, IsPlace, IsLoaded}
use Rattle.laws.proofs.{SegmentLemmas.{HasWords, made_length}, RelocatedLemmas.{words_relocated, objects_fill}}
use Rattle.laws.proofs.{LinkedTheorem.linked_exactly, ByteLemmas.{low_byte, high_byte}}

-- places

place_sum : (own n start : ℕ) → plus (own + n) (minus start own) ≡ (start + n) % 65536
place_sum own n start = omega arith

-- segments that lie somewhere
abbrev pub HasPlace : Segment → Type 0
HasPlace TextSeg = Unit {0}
HasPlace DataSeg = Unit {0}
HasPlace BssSeg = Unit {0}
HasPlace _ = ⊥

module _ (h : Header) (os before : List Contents) (k : Contents) where
  -- the address of byte n of a segment
  abbrev pub address_of : Segment → ℕ → ℕ
  address_of segment n = base_in h (total BssSeg os) segment + total segment before + n

  -- a place of an object has the address that its segment's begin gives
  pub place_at : (segment : Segment) → HasPlace segment → (n : ℕ) → IsPlace h os before k segment n (address_of segment n)
  place_at TextSeg has n =
      record { sum = refl; symbol = place_sum (own k TextSeg) n (base_in h (total BssSeg os) TextSeg + total TextSeg before) }
  place_at DataSeg has n =
      record { sum = refl; symbol = place_sum (own k DataSeg) n (base_in h (total BssSeg os) DataSeg + total DataSeg before) }
  place_at BssSeg has n =
      record { sum = refl; symbol = place_sum (own k BssSeg) n (base_in h (total BssSeg os) BssSeg + total BssSeg before) }
  place_at _ has n = absurd has

pub words_have_place : (segment : Segment) → HasWords segment → HasPlace segment
words_have_place TextSeg has = tt
words_have_place DataSeg has = tt
words_have_place _ has = absurd has

-- the magic of a link

found_by : (layout : Layout) (segment : Segment) → HasPlace segment → has_segment (magic_of layout) segment (space_of segment) ≡ true
found_by Plain TextSeg has = refl
found_by Plain DataSeg has = refl
found_by Plain BssSeg has = refl
found_by Pure TextSeg has = refl
found_by Pure DataSeg has = refl
found_by Pure BssSeg has = refl
found_by Split TextSeg has = refl
found_by Split DataSeg has = refl
found_by Split BssSeg has = refl
found_by layout _ has = absurd has

pub found_in : (forced : List (List ℕ)) (os : List Contents) (o : Choices) (x : Outcome) → link forced os o ≡ Ok x →
    (segment : Segment) → HasPlace segment → has_segment x.file.header.magic segment (space_of segment) ≡ true
found_in forced os o x linked segment has = search rules

-- a word of a segment stands in its core
module _ (file : Contents) (space : Space) where
  bytes : (segment : Segment) → HasWords segment → (n w : ℕ) → slice_get (segment_words segment file) n ≡ Some w →
      (segment_byte file segment (2 * n) ≡ Some (w % 256)) × (segment_byte file segment (2 * n + 1) ≡ Some (w / 256))
  bytes TextSeg has n w e = (low_byte file.text_words n w e, high_byte file.text_words n w e)
  bytes DataSeg has n w e = (low_byte file.data_words n w e, high_byte file.data_words n w e)
  bytes _ has n w e = absurd has

  pub word_there : (segment : Segment) → HasWords segment → has_segment file.header.magic segment space ≡ true →
      2 * length (segment_words segment file) ≡ bytes_of file.header segment →
      (n w : ℕ) → slice_get (segment_words segment file) n ≡ Some w → IsWordAt file space (first_address file.header segment + 2 * n) w
  word_there segment has there long n w e =
      let both = bytes segment has n w e in
      let inside = slice_get_within (segment_words segment file) n w e in
      search rules
    where
      back : (f n : ℕ) → f + n - f ≡ n
      back f n = omega arith

      next : (f n : ℕ) → f + n + 1 - f ≡ n + 1
      next f n = omega arith

-- the objects' words fill whole words
pub whole_words : (segment : Segment) → HasWords segment → (os : List Contents) → AllByRecursion IsObject os →
    2 * (total segment os / 2) ≡ total segment os
whole_words segment has os good =
    let e = made_length (λ (earlier : List Contents) (c : Contents) (w : ℕ) (r : Reloc). w) segment has [] os good in
    omega arith

-- a relocated word is loaded

module _ (forced : List (List ℕ)) (os : List Contents) (o : Choices) (x : Outcome) (good : AllByRecursion IsObject os)
    (linked : link forced os o ≡ Ok x) where
  full : HoldsObjects x.file os
  full = objects_fill forced os o x good linked

  segment_filled : (segment : Segment) → HasWords segment → 2 * length (segment_words segment x.file) ≡ bytes_of x.file.header segment
  segment_filled TextSeg has = full.text_words ∙ sym full.text
  segment_filled DataSeg has = full.data_words ∙ sym full.data
  segment_filled _ has = absurd has

  start : (segment : Segment) → HasWords segment → base_in x.file.header (total BssSeg os) segment ≡ first_address x.file.header segment
  start TextSeg has = refl
  start DataSeg has = refl
  start _ has = absurd has

  module _ (before : List Contents) (k : Contents) (after : List Contents) (all : os ≡ before ++ k ∷ after) where
    front : AllByRecursion IsObject before
    front = (all_split IsObject before (k ∷ after) (subst (λ (ys : List Contents). AllByRecursion IsObject ys) all good)).0

    pub loaded_word : (rows : List Symbol) (segment : Segment) → HasWords segment → (i w : ℕ) (r : Reloc) →
        IsRelocated x.file rows os before k segment i w r → IsLoaded x.file rows os before k segment i w r
    loaded_word rows segment has i w r is =
        let word : ℕ = minus (plus w is.added) (cond (is_pc_relative r) (move_in x.file.header os before k segment) 0) in
        record {
          address = address_of x.file.header os before k segment (2 * i);
          place = place_at x.file.header os before k segment (words_have_place segment has) (2 * i);
          added = is.added;
          is = is.is;
          word = subst (λ (a : ℕ). IsWordAt x.file (space_of segment) a word)
              (sums (first_address x.file.header segment) (base_in x.file.header (total BssSeg os) segment)
              (total segment before) i (start segment has) (whole_words segment has before front))
              (word_there x.file (space_of segment) segment has (found_in forced os o x linked segment
              (words_have_place segment has)) (segment_filled segment has) (total segment before / 2 + i) word is.word);
        }
      where
        sums : (f b t i : ℕ) → b ≡ f → 2 * (t / 2) ≡ t → f + 2 * (t / 2 + i) ≡ b + t + 2 * i
        sums f b t i e g = omega arith

-- each word of a link that keeps symbols is loaded

-- each word of an object is at its address, with what was added to it
pub words_loaded : (forced : List (List ℕ)) (before : List Contents) (k : Contents) (after : List Contents) (o : Choices) (x : Outcome) →
    AllByRecursion IsObject (before ++ k ∷ after) → o.keep ≢ Nothing → link forced (before ++ k ∷ after) o ≡ Ok x →
    (segment : Segment) (i w : ℕ) (r : Reloc) → slice_get (segment_words segment k) i ≡ Some w →
    slice_get (segment_relocs segment k) i ≡ Some r → IsLoaded x.file x.file.symbols (before ++ k ∷ after) before k segment i w r
words_loaded forced before k after o x good others linked TextSeg i w r ew er =
    loaded_word forced (before ++ k ∷ after) o x good linked before k after refl x.file.symbols TextSeg tt i w r
    (words_relocated forced before k after o x good others linked TextSeg i w r ew er)
words_loaded forced before k after o x good others linked DataSeg i w r ew er =
    loaded_word forced (before ++ k ∷ after) o x good linked before k after refl x.file.symbols DataSeg tt i w r
    (words_relocated forced before k after o x good others linked DataSeg i w r ew er)
words_loaded forced before k after o x good others linked _ i w r ew er = absurd (cc)

-- only text and data have words
pub words_there : (segment : Segment) (k : Contents) (i w : ℕ) → slice_get (segment_words segment k) i ≡ Some w → HasWords segment
words_there TextSeg k i w e = tt
words_there DataSeg k i w e = tt
words_there _ k i w e = absurd (cc)

-- each word of a link is relocated by the rows of its relation
relocated_in : (forced : List (List ℕ)) (os : List Contents) (o : Choices) (x : Outcome) (l : IsLinkedFrom forced os o x)
    (before : List Contents) (k : Contents) (after : List Contents) → os ≡ before ++ k ∷ after →
    (segment : Segment) (i w : ℕ) (r : Reloc) → slice_get (segment_words segment k) i ≡ Some w →
    slice_get (segment_relocs segment k) i ≡ Some r → IsRelocated x.file l.rows os before k segment i w r
relocated_in forced os o x l before k after all TextSeg i w r ew er = l.text before k after all i w r ew er
relocated_in forced os o x l before k after all DataSeg i w r ew er = l.data before k after all i w r ew er
relocated_in forced os o x l before k after all _ i w r ew er = absurd (cc)

-- the same by the rows of the relation of linking, so also for a link that keeps no symbols
pub words_of_rows : (forced : List (List ℕ)) (before : List Contents) (k : Contents) (after : List Contents) (o : Choices) (x : Outcome) →
    AllByRecursion IsObject (before ++ k ∷ after) → (l : IsLinkedFrom forced (before ++ k ∷ after) o x) →
    (segment : Segment) (i w : ℕ) (r : Reloc) → slice_get (segment_words segment k) i ≡ Some w →
    slice_get (segment_relocs segment k) i ≡ Some r → IsLoaded x.file l.rows (before ++ k ∷ after) before k segment i w r
words_of_rows forced before k after o x good l segment i w r ew er =
    let os = before ++ k ∷ after in
    loaded_word forced os o x good ((linked_exactly forced os o x good).1 l) before k after refl l.rows segment
    (words_there segment k i w ew) i w r (relocated_in forced os o x l before k after refl segment i w r ew er)
