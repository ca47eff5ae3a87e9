-- The words of a linked file are those of its objects, relocated.
use Rattle.std.proofs.Common.{◌≡◌, ◌≢◌, ℕ, ◌+◌, ◌*◌, ◌/◌, ◌≤◌, true, cond, List, [], ◌∷◌, ◌++◌, length, Option, Some, None, refl, sym, ◌∙◌}
use Rattle.std.proofs.{Common.{ap, subst, arith}, lemmas.Option.same_Some}
use Rattle.std.specs.{Prelude.slice_get, Prelude.Ok, List.AllByRecursion}
use Rattle.aout_core.specs.declared.symbol.Segment.TheVariants.{TextSeg, DataSeg, BssSeg}
use Rattle.aout_core.specs.{declared.symbol.Segment.Segment, declared.reloc.Reloc.Reloc, declared.reloc.Kind.Kind}
use Rattle.aout_core.specs.{WellFormed.{kind_of, is_pc_relative, symbol_number, is_wanted, kind_fault}, declared.symbol.Symbol.Symbol}
use Rattle.aout_core.specs.{declared.object.ObjectFault.ObjectFault, Contents.Contents, Words.{plus, minus}, declared.header.Header.Header}
use Rattle.aout_core.specs.declared.reloc.Kind.TheVariants as kinds
use Rattle.link_session.specs.Cells.{referent, referent_by, name_in, segment_words, segment_relocs}
use Rattle.link_session.specs.{Starts.total, Sessions.IsObject, Mentions.mentions, Mentions.names_of, Mentions.names_by_first_mention}
use Rattle.tool_options.specs.{NameLists.is_among, declared.options.Keep.TheVariants.Nothing, Choices.Choices}
use Rattle.link_session.proofs.{CellLemmas.RefersAmong, MentionLemmas.is_among-externals}
use Rattle.link_out.specs.function.Tables.{external_row, table}
use Rattle.link_out.specs.{function.Link.{Outcome, linked_file, link, linked_header}, function.Plans.{Plan, plan, commons_laid}}
use Rattle.link_out.specs.{function.Finals.final, function.Words.{referent_move, final_word, final_words}}
use Rattle.laws.specs.relation.Relocated.{move_in, IsAddressOf, IsAdded, IsRelocated, HoldsObjects, entry_of, address_in}
use Rattle.link_out.proofs.OutcomeLemmas.{made_file}
use Rattle.laws.proofs.SegmentLemmas.{HasWords, made_length, made_found, made_whole, IsWord, words_back, front_objects, word_at}
use Rattle.laws.proofs.{MoveLemmas.move_by_header, ExternalLemmas.entry_there, ExternalLemmas.row_address}

module _ (forced : List (List ℕ)) (os : List Contents) (o : Choices) where
  abbrev p : Plan
  p = plan forced os o

  abbrev h : Header
  h = linked_header (plan forced os o) os

  -- rows in which each name that is mentioned has its external row
  abbrev pub AreThere : List Symbol → Type 0
  AreThere rows =
      (name : List ℕ) → is_among (names_by_first_mention (mentions forced os)) name ≡ true →
      entry_of rows name ≡ Some (external_row p name)

  module _ (rows : List Symbol) (there : AreThere rows) (before : List Contents) (k : Contents) where
    added_by : (kind : Option Kind) (number n : ℕ) → kind_fault k.symbols n kind number ≡ None →
        RefersAmong (names_of (mentions forced os)) (referent_by k number kind) →
        IsAdded h rows os before k kind number (referent_move p before k (referent_by k number kind))
    added_by None number n h known = absurd (cc)
    added_by (Some kinds.Absolute) number n h known = refl
    added_by (Some kinds.TextSeg) number n h known = move_by_header forced os o before k TextSeg
    added_by (Some kinds.DataSeg) number n h known = move_by_header forced os o before k DataSeg
    added_by (Some kinds.BssSeg) number n h known = move_by_header forced os o before k BssSeg
    added_by (Some kinds.External) number n h known = by_slot (slice_get k.symbols number) refl h known
      where
        by_slot : (slot : Option Symbol) → slice_get k.symbols number ≡ slot →
            cond (is_wanted slot) None (Some (ObjectFault.BadSymbolNumber n)) ≡ None →
            is_among (names_of (mentions forced os)) (name_in slot) ≡ true →
            IsAddressOf rows k number (final p (name_in slot)).address
        by_slot None e h known = absurd (cc)
        by_slot (Some s) e h known = record {
          symbol = s;
          row = external_row p s.name;
          named = e;
          found = there s.name (is_among-externals (mentions forced os) s.name ∙ known);
          gives = sym (row_address forced os o s.name);
        }

    -- nothing else is added
    added_is : (kind : Option Kind) (number a : ℕ) → RefersAmong (names_of (mentions forced os)) (referent_by k number kind) →
        IsAdded h rows os before k kind number a → a ≡ referent_move p before k (referent_by k number kind)
    added_is None number a known is = absurd is
    added_is (Some kinds.Absolute) number a known is = is
    added_is (Some kinds.TextSeg) number a known is = is ∙ sym (move_by_header forced os o before k TextSeg)
    added_is (Some kinds.DataSeg) number a known is = is ∙ sym (move_by_header forced os o before k DataSeg)
    added_is (Some kinds.BssSeg) number a known is = is ∙ sym (move_by_header forced os o before k BssSeg)
    added_is (Some kinds.External) number a known is =
        let slot : is_among (names_of (mentions forced os)) is.symbol.name ≡ true =
        ap (λ (s : Option Symbol). is_among (names_of (mentions forced os)) (name_in s)) (sym is.named) ∙ known in
        let same : is.row ≡ external_row p is.symbol.name = same_Some is.row (external_row p is.symbol.name)
        (sym is.found ∙ there is.symbol.name (is_among-externals (mentions forced os) is.symbol.name ∙ slot)) in
        is.gives ∙ ap address_in same ∙ row_address forced os o is.symbol.name
        ∙ ap (λ (s : Option Symbol). (final p (name_in s)).address) (sym is.named)

    word_same : (segment : Segment) (w : ℕ) (r : Reloc) →
        minus (plus w (referent_move p before k (referent k r)))
        (cond (is_pc_relative r) (move_in h os before k segment) 0) ≡ final_word p before k segment w r
    word_same segment w r =
        ap (λ (n : ℕ). minus (plus w (referent_move p before k (referent k r))) (cond (is_pc_relative r) n 0))
        (sym (move_by_header forced os o before k segment))

    -- a word of the linked file is relocated
    relocated : (file : Contents) → file.header ≡ h → (after : List Contents) →
        os ≡ before ++ k ∷ after → AllByRecursion IsObject os → (segment : Segment) → HasWords segment →
        segment_words segment file ≡ final_words p segment os →
        (i w : ℕ) (r : Reloc) → IsWord forced os k segment i w r → IsRelocated file rows os before k segment i w r
    relocated file same after all good segment has words i w r is = record {
      added = referent_move p before k (referent k r);
      is =
          subst (λ (g : Header). IsAdded g rows os before k (kind_of r) (symbol_number r) (referent_move p before k (referent k r)))
          (sym same) (added_by (kind_of r) (symbol_number r) is.number is.fine is.known);
      word =
          ap (λ (ws : List ℕ). slice_get ws (total segment before / 2 + i))
          (words ∙ ap (λ (xs : List Contents). final_words p segment xs) all)
          ∙ made_found (λ earlier o w r. final_word p earlier o segment w r) segment has before k after
          (front_objects forced os before k after all good) i w r is.is_there
          ∙ ap (λ (n : ℕ). let f : Option ℕ = Some n in f) (sym (word_same segment w r))
          ∙ ap (λ (g : Header). let f : Option ℕ = Some (minus (plus w (referent_move p before k (referent k r)))
          (cond (is_pc_relative r) (move_in g os before k segment) 0)) in f) (sym same);
    }

    -- and a relocated word is that of the link
    relocated_is : (file : Contents) → file.header ≡ h → (segment : Segment) (i w : ℕ) (r : Reloc) →
        IsWord forced os k segment i w r → IsRelocated file rows os before k segment i w r →
        slice_get (segment_words segment file) (total segment before / 2 + i) ≡ Some (final_word p before k segment w r)
    relocated_is file same segment i w r is found =
        let added : found.added ≡ referent_move p before k (referent k r) =
        added_is (kind_of r) (symbol_number r) found.added is.known
        (subst (λ (g : Header). IsAdded g rows os before k (kind_of r) (symbol_number r) found.added) same found.is) in
        found.word
        ∙ (λ i. let f : Option ℕ = Some (minus (plus w (added i)) (cond (is_pc_relative r) (move_in (same i) os before k segment) 0)) in f)
        ∙ ap (λ (n : ℕ). let f : Option ℕ = Some n in f) (word_same segment w r)

  -- each word of each object stands in the linked file, relocated
  pub relocated_at : (rows : List Symbol) → AreThere rows → AllByRecursion IsObject os →
      (before : List Contents) (k : Contents) (after : List Contents) → os ≡ before ++ k ∷ after →
      (segment : Segment) (i w : ℕ) (r : Reloc) →
      slice_get (segment_words segment k) i ≡ Some w → slice_get (segment_relocs segment k) i ≡ Some r →
      IsRelocated (linked_file p os) rows os before k segment i w r
  relocated_at rows there good before k after all TextSeg i w r ew er =
      relocated rows there before k (linked_file p os) refl after all good TextSeg tt refl i w r
      (word_at forced os before k after all good TextSeg i w r ew er)
  relocated_at rows there good before k after all DataSeg i w r ew er =
      relocated rows there before k (linked_file p os) refl after all good DataSeg tt refl i w r
      (word_at forced os before k after all good DataSeg i w r ew er)
  relocated_at rows there good before k after all segment i w r ew er = absurd (cc)

  -- and where each does, the words are those of the link
  pub relocated_whole : (rows : List Symbol) → AreThere rows → AllByRecursion IsObject os → (file : Contents) →
      file.header ≡ h → (segment : Segment) → HasWords segment → 2 * length (segment_words segment file) ≡ total segment os →
      ((before : List Contents) (k : Contents) (after : List Contents) → os ≡ before ++ k ∷ after → (i w : ℕ) (r : Reloc) →
      slice_get (segment_words segment k) i ≡ Some w → slice_get (segment_relocs segment k) i ≡ Some r →
      IsRelocated file rows os before k segment i w r) → segment_words segment file ≡ final_words p segment os
  relocated_whole rows there good file same segment has long each =
      made_whole (λ earlier o w r. final_word p earlier o segment w r) segment has os good (segment_words segment file) long
      (λ before k after all i w r e.
      let back = words_back segment k i (w, r) e in
      relocated_is rows there before k file same segment i w r
      (word_at forced os before k after all good segment i w r back.0 back.1) (each before k after all i w r back.0 back.1))

-- each word of each object is found, relocated
pub words_relocated : (forced : List (List ℕ)) (before : List Contents) (k : Contents) (after : List Contents) (o : Choices) (x : Outcome) →
    AllByRecursion IsObject (before ++ k ∷ after) → o.keep ≢ Nothing → link forced (before ++ k ∷ after) o ≡ Ok x →
    (segment : Segment) (i w : ℕ) (r : Reloc) → slice_get (segment_words segment k) i ≡ Some w →
    slice_get (segment_relocs segment k) i ≡ Some r →
    IsRelocated x.file x.file.symbols (before ++ k ∷ after) before k segment i w r
words_relocated forced before k after o x good others linked segment i w r ew er =
    let os = before ++ k ∷ after in
    subst (λ (f : Contents). IsRelocated f f.symbols os before k segment i w r) (made_file (plan forced os o) os x linked)
    (relocated_at forced os o (table (plan forced os o) os)
    (λ name known. entry_there (plan forced os o) os name others known) good before k after refl segment i w r ew er)

-- the objects fill the segments

at_least : (c t : ℕ) → t ≤ c + t
at_least c t = omega arith

-- the segments of the file of a link hold those of the objects
pub file_filled : (forced : List (List ℕ)) (os : List Contents) (o : Choices) → AllByRecursion IsObject os →
    HoldsObjects (linked_file (plan forced os o) os) os
file_filled forced os o good = record {
  text = refl;
  «data» = refl;
  bss = at_least (commons_laid o (mentions forced os)) (total BssSeg os);
  text_words = made_length (λ earlier c w r. final_word (plan forced os o) earlier c TextSeg w r) TextSeg tt [] os good;
  data_words = made_length (λ earlier c w r. final_word (plan forced os o) earlier c DataSeg w r) DataSeg tt [] os good;
}

-- the same of a link that is made
pub objects_fill : (forced : List (List ℕ)) (os : List Contents) (o : Choices) (x : Outcome) →
    AllByRecursion IsObject os → link forced os o ≡ Ok x → HoldsObjects x.file os
objects_fill forced os o x good linked =
    subst (λ (f : Contents). HoldsObjects f os) (made_file (plan forced os o) os x linked) (file_filled forced os o good)
