-- The cells of a partial link among neighbours are those of its objects.
use Rattle.std.proofs.lemmas.Grind.{common_steps}
use Rattle.std.proofs.Common.{◌≡◌, ℕ, ◌+◌, ◌*◌, ◌/◌, ◌%◌, Bool, true, cond, eqb, List, [], ◌∷◌, ◌++◌, map, Option, None, refl, sym, ◌∙◌, ap}
use Rattle.std.proofs.{Common.{append_assoc, append-nil, arith, rules}, lemmas.List.map-append}
use Rattle.std.specs.{Prelude.zip, Prelude.slice_get, List.flat_map, List.AllByRecursion}
use Rattle.aout_core.specs.declared.symbol.Segment.TheVariants.{Undefined, Absolute, TextSeg, DataSeg, BssSeg, Other}
use Rattle.aout_core.specs.{WellFormed.{is_pc_relative, kind_numbered, IsWellFormed}, declared.symbol.Segment.Segment}
use Rattle.aout_core.specs.{declared.reloc.Reloc.Reloc, Contents.Contents, Words.{plus, minus}}
use Rattle.aout_core.proofs.AlikeLemmas.{slice_get_after}
use Rattle.link_session.specs.Mentions.{Mention, mentions, names_of, names_by_first_mention, place_of}
use Rattle.link_session.specs.Cells.{Referent, to_segment, to_name, referent, referent_by, name_in, segment_target, name_target, target_of}
use Rattle.link_session.specs.{Cells.{offset_in, target_shift, if_pc, cell, words_of, cells_in, cells}, declared.cell.Cell.Cell}
use Rattle.link_session.specs.{declared.cell.Target.Target, declared.state.State.State, declared.state.State.TheVariants.{Defined, Wanted}}
use Rattle.link_session.specs.{Earlier.with_earlier, Starts.shift, States.state}
use Rattle.tool_options.specs.{NameLists.is_among, declared.options.Keep.Keep}
use Rattle.link_session.proofs.CellLemmas.{RefersAmong, AllReferAmong, words_made}
use Rattle.link_session.proofs.NeighbourLemmas.{AreAsLong, shift_same, start, shift_raised, blocks, one_for_many}
use Rattle.link_session.proofs.{MentionLemmas.is_among-externals, WellFormedLemmas.objects_refer}
use Rattle.link_out.specs.function.Words.{move, referent_move, final_word}
use Rattle.link_out.specs.{function.Tables.{row_of, name_bits, referent_bits, final_reloc}, Layouts.base, function.Finals.final_by}
use Rattle.link_out.proofs.partial_links.PartialLemmas.{IsProper, state_is_proper, partial_plan, partial_file}
use Rattle.link_out.proofs.{CellWordLemmas.mapped_at_place, partial_links.PartialNames.HasTable}
use Rattle.link_out.proofs.{partial_links.NeighbourMentions.partial_as_long}

-- base and shift, and then the shift of the partial link
sum_back : (B S X Y T : ℕ) → plus B X ≡ plus T 0 → plus 0 Y ≡ plus T (plus 0 S) → plus (plus B S) X ≡ plus Y 0
sum_back B S X Y T e f = omega arith

-- the cell of a word of a file whose relocation word is known
finish : (m : Contents) (bs : List Contents) (all : List Mention) (again : Reloc) (q : Referent) (w A S X P Q Y : ℕ)
    (pc : Bool) (t : Target) →
    referent m again ≡ q → target_shift all bs m q ≡ X → target_of all q ≡ t → is_pc_relative again ≡ pc →
    plus A X ≡ plus S 0 → plus P Q ≡ plus Y 0 → (let c : Cell = record {
      value = minus (plus (minus (plus w A) (cond pc P 0)) (target_shift all bs m (referent m again))) (cond (is_pc_relative again) Q 0);
      target = target_of all (referent m again);
      pc = is_pc_relative again;
    } in c)
    ≡ record { value = minus (plus w S) (cond pc Y 0); target = t; pc = pc }
finish m bs all again q w A S X P Q Y pc t er es et ep e f = search rules

-- what a relocation word of these bits refers to
referent_again : (m : Contents) (r bits k : ℕ) → (r % 2 + bits) / 2 % 8 ≡ k →
    referent m (record { 0 = r % 2 + bits }) ≡ referent_by m ((r % 2 + bits) / 16) (kind_numbered k)
referent_again m r bits k e = ap (λ (n : ℕ). referent_by m ((r % 2 + bits) / 16) (kind_numbered n)) e

pc_again : (r bits : ℕ) → (r % 2 + bits) % 2 ≡ r % 2 → is_pc_relative (record { 0 = r % 2 + bits }) ≡ eqb (r % 2) 1
pc_again r bits e = ap (λ (n : ℕ). eqb n 1) e

-- a name that waits is bound to nothing, and has no address
waits : (forced : List (List ℕ)) (os : List Contents) (keep : Keep) (entry : Option (List ℕ)) (name : List ℕ) (size : ℕ) →
    ((final_by (partial_plan forced os keep entry) name (Wanted size)).bound ≡ None)
    × ((final_by (partial_plan forced os keep entry) name (Wanted size)).address ≡ 0)
waits forced os keep entry name size = search rules

-- the row of a name in the table
row_found : (forced : List (List ℕ)) (os : List Contents) (keep : Keep) (entry : Option (List ℕ)) →
    HasTable forced os keep entry → (name : List ℕ) → is_among (names_by_first_mention (mentions forced os)) name ≡ true →
    name_in (slice_get (partial_file forced os keep entry).symbols (row_of (partial_plan forced os keep entry) os name)) ≡ name
row_found forced os keep entry has name h = search (rules, partial_plan, slice_get_after, mapped_at_place)

-- in the partial link after others, base and own start leave the start after the others
pub based_after : (forced : List (List ℕ)) (os : List Contents) (keep : Keep) (entry : Option (List ℕ))
    (bs : List Contents) (segment : Segment) →
    plus (base (partial_plan forced os keep entry).at segment) (shift bs (partial_file forced os keep entry) segment)
    ≡ plus (start bs segment) 0
based_after forced os keep entry bs segment = search rules

-- the definitions of the objects alone hold among all mentions
abbrev pub HoldsAmong : List Mention → List Contents → List Mention → Type 0
HoldsAmong all bs alone =
    (name : List ℕ) (segment : Segment) (offset : ℕ) → state alone name ≡ Defined segment offset →
    state all name ≡ Defined segment (plus (start bs segment) offset)

module _ (forced : List (List ℕ)) (os : List Contents) (keep : Keep) (entry : Option (List ℕ)) (has : HasTable forced os keep entry)
    (bs : List Contents) (all : List Mention) (holds : HoldsAmong all bs (mentions forced os)) (earlier : List Contents)
    (o : Contents) (segment : Segment) (w : ℕ) (r : Reloc) where
  -- the cell in the partial link, and that of the object, of a word with this referent
  abbrev after : ℕ → ℕ → Cell
  after address bits = record {
    value = minus (plus (minus (plus w address) (if_pc r (move (partial_plan forced os keep entry).at earlier o segment)))
        (target_shift all bs (partial_file forced os keep entry)
        (referent (partial_file forced os keep entry) (record { 0 = r.0 % 2 + bits }))))
        (if_pc (record { 0 = r.0 % 2 + bits }) (shift bs (partial_file forced os keep entry) segment));
    target = target_of all (referent (partial_file forced os keep entry) (record { 0 = r.0 % 2 + bits }));
    pc = is_pc_relative (record { 0 = r.0 % 2 + bits });
  }

  abbrev before : ℕ → Target → Cell
  before offset t = record { value = minus (plus w offset) (if_pc r (shift (bs ++ earlier) o segment)); target = t; pc = is_pc_relative r }

  -- where the word stands
  placed : plus (move (partial_plan forced os keep entry).at earlier o segment)
      (shift bs (partial_file forced os keep entry) segment) ≡ plus (shift (bs ++ earlier) o segment) 0
  placed = search (rules, sum_back, partial_plan, partial_file, start, based_after, shift_raised)

  -- a word that refers to a segment of the file
  to_own : (q : Segment) (A S bits k : ℕ) → plus A (shift bs (partial_file forced os keep entry) q) ≡ plus S 0 →
      (r.0 % 2 + bits) / 2 % 8 ≡ k → (r.0 % 2 + bits) % 2 ≡ r.0 % 2 →
      ((number : ℕ) → referent_by (partial_file forced os keep entry) number (kind_numbered k) ≡ to_segment q) →
      after A bits ≡ before S (segment_target q)
  to_own q A S bits k e ek ep er = search (rules, finish, partial_file, partial_plan, referent_again, pc_again, placed)

  -- an offset in a segment of the objects alone, and after the others
  offset_after : (q : Segment) (S T : ℕ) → plus 0 T ≡ plus (start bs q) (plus 0 S) →
      plus (plus (base (partial_plan forced os keep entry).at q) S) (shift bs (partial_file forced os keep entry) q) ≡ plus T 0
  offset_after q S T e = search rules

  to_absolute : after 0 0 ≡ before 0 (segment_target Absolute)
  to_absolute = to_own Absolute 0 0 0 0 refl (omega arith) (omega arith) (λ n. refl)

  to_number : (S T : ℕ) → plus 0 T ≡ plus (start bs Absolute) (plus 0 S) →
      after (plus (base (partial_plan forced os keep entry).at Absolute) S) 0 ≡ before T (segment_target Absolute)
  to_number S T e = grind (arith, common_steps, to_own, partial_plan, offset_after)

  to_text : (S T : ℕ) → plus 0 T ≡ plus (start bs TextSeg) (plus 0 S) →
      after (plus (base (partial_plan forced os keep entry).at TextSeg) S) 2 ≡ before T (segment_target TextSeg)
  to_text S T e = grind (arith, common_steps, to_own, partial_plan, offset_after)

  to_data : (S T : ℕ) → plus 0 T ≡ plus (start bs DataSeg) (plus 0 S) →
      after (plus (base (partial_plan forced os keep entry).at DataSeg) S) 4 ≡ before T (segment_target DataSeg)
  to_data S T e = grind (arith, common_steps, to_own, partial_plan, offset_after)

  to_bss : (S T : ℕ) → plus 0 T ≡ plus (start bs BssSeg) (plus 0 S) →
      after (plus (base (partial_plan forced os keep entry).at BssSeg) S) 6 ≡ before T (segment_target BssSeg)
  to_bss S T e = grind (arith, common_steps, to_own, partial_plan, offset_after)

  raised_offset : (T S : ℕ) → plus 0 (plus T S) ≡ plus T (plus 0 S)
  raised_offset T S = omega arith

  -- a word that refers to a name with this state among the objects alone
  by_state : (name : List ℕ) → is_among (names_by_first_mention (mentions forced os)) name ≡ true → (st : State) →
      IsProper st → state (mentions forced os) name ≡ st →
      after (final_by (partial_plan forced os keep entry) name st).address
      (name_bits (final_by (partial_plan forced os keep entry) name st).bound (row_of (partial_plan forced os keep entry) os name))
      ≡ before (offset_in (state all name)) (name_target (state all name) (place_of name (names_by_first_mention all)))
  by_state name h (Defined Undefined offset) p e = absurd p
  by_state name h (Defined Other offset) p e = absurd p
  by_state name h (Defined Absolute offset) p e =
      rw (holds name Absolute offset e) (to_number offset (plus (start bs Absolute) offset) (raised_offset (start bs Absolute) offset))
  by_state name h (Defined TextSeg offset) p e =
      rw (holds name TextSeg offset e) (to_text offset (plus (start bs TextSeg) offset) (raised_offset (start bs TextSeg) offset))
  by_state name h (Defined DataSeg offset) p e =
      rw (holds name DataSeg offset e) (to_data offset (plus (start bs DataSeg) offset) (raised_offset (start bs DataSeg) offset))
  by_state name h (Defined BssSeg offset) p e =
      rw (holds name BssSeg offset e) (to_bss offset (plus (start bs BssSeg) offset) (raised_offset (start bs BssSeg) offset))
  by_state name h (Wanted size) p e = rw ((waits forced os keep entry name size).0, (waits forced os keep entry name size).1) waiting_still
    where
      waiting_still : after 0 (8 + 16 * row_of (partial_plan forced os keep entry) os name)
          ≡ before (offset_in (state all name)) (name_target (state all name) (place_of name (names_by_first_mention all)))
      waiting_still =
          finish (partial_file forced os keep entry) bs all
          (record { 0 = r.0 % 2 + (8 + 16 * row_of (partial_plan forced os keep entry) os name) }) (to_name name) w
          0 (offset_in (state all name)) (offset_in (state all name))
          (move (partial_plan forced os keep entry).at earlier o segment) (shift bs (partial_file forced os keep entry) segment)
          (shift (bs ++ earlier) o segment)
          (is_pc_relative r) (name_target (state all name) (place_of name (names_by_first_mention all)))
          (referent_again (partial_file forced os keep entry) r.0
          (8 + 16 * row_of (partial_plan forced os keep entry) os name) 4 (omega arith)
          ∙ ap (λ (n : ℕ). to_name (name_in (slice_get (partial_file forced os keep entry).symbols n)))
          (number_again (row_of (partial_plan forced os keep entry) os name))
          ∙ ap to_name (row_found forced os keep entry has name h))
          refl refl
          (pc_again r.0 (8 + 16 * row_of (partial_plan forced os keep entry) os name) (omega arith))
          (turned (offset_in (state all name))) placed
        where
          number_again : (row : ℕ) → (r.0 % 2 + (8 + 16 * row)) / 16 ≡ row
          number_again row = omega arith

          turned : (n : ℕ) → plus 0 n ≡ plus n 0
          turned n = omega arith

  -- one cell of a partial link after others
  pub cell_after : RefersAmong (names_of (mentions forced os)) (referent o r) →
      cell all bs (partial_file forced os keep entry) segment
      (final_word (partial_plan forced os keep entry) earlier o segment w r) (final_reloc (partial_plan forced os keep entry) os o r)
      ≡ cell all (bs ++ earlier) o segment w r
  cell_after known = by_referent (referent o r) known
    where
      by_referent : (q : Referent) → RefersAmong (names_of (mentions forced os)) q →
          after (referent_move (partial_plan forced os keep entry) earlier o q) (referent_bits (partial_plan forced os keep entry) os q)
          ≡ before (target_shift all (bs ++ earlier) o q) (target_of all q)
      by_referent (to_segment Undefined) h = to_absolute
      by_referent (to_segment Absolute) h = to_absolute
      by_referent (to_segment Other) h = to_absolute
      by_referent (to_segment TextSeg) h =
          to_text (shift earlier o TextSeg) (shift (bs ++ earlier) o TextSeg) (shift_raised bs earlier o TextSeg 0)
      by_referent (to_segment DataSeg) h =
          to_data (shift earlier o DataSeg) (shift (bs ++ earlier) o DataSeg) (shift_raised bs earlier o DataSeg 0)
      by_referent (to_segment BssSeg) h =
          to_bss (shift earlier o BssSeg) (shift (bs ++ earlier) o BssSeg) (shift_raised bs earlier o BssSeg 0)
      by_referent (to_name name) h =
          by_state name (is_among-externals (mentions forced os) name ∙ h) (state (mentions forced os) name)
          (state_is_proper forced os name) refl

-- two lists made of blocks of one length each, side by side
zip_blocks : {A B C : Type 0} (f : A → B) (g : A → C) (ws : List A) (xs : List B) (ys : List C) →
    zip (map f ws ++ xs) (map g ws ++ ys) ≡ map (λ w. (f w, g w)) ws ++ zip xs ys
zip_blocks f g [] xs ys = refl
zip_blocks {B = B} {C = C} f g (w ∷ ws) xs ys = ap (λ (rest : List (B × C)). (f w, g w) ∷ rest) (zip_blocks f g ws xs ys)

cell_same : (all : List Mention) (xs ys : List Contents) (o : Contents) (segment : Segment) → AreAsLong xs ys →
    (wr : ℕ × Reloc) → cell all xs o segment wr.0 wr.1 ≡ cell all ys o segment wr.0 wr.1
cell_same all xs ys o segment h wr = by_referent (referent o wr.1)
  where
    by_referent : (q : Referent) →
        (let c : Cell = record {
          value = minus (plus wr.0 (target_shift all xs o q)) (if_pc wr.1 (shift xs o segment));
          target = target_of all q;
          pc = is_pc_relative wr.1;
        } in c)
        ≡ record {
          value = minus (plus wr.0 (target_shift all ys o q)) (if_pc wr.1 (shift ys o segment));
          target = target_of all q;
          pc = is_pc_relative wr.1;
        }
    by_referent (to_segment s) = let a = shift_same xs ys o s h in let b = shift_same xs ys o segment h in rw (a, b) refl
    by_referent (to_name name) = let b = shift_same xs ys o segment h in rw b refl

cells_in_same : (all : List Mention) (segment : Segment) (xs ys : List Contents) (o : Contents) → AreAsLong xs ys →
    cells_in all segment xs o ≡ cells_in all segment ys o
cells_in_same all segment xs ys o h =
    ap (λ (f : ℕ × Reloc → Cell). map f (words_of segment o)) (λ i wr. cell_same all xs ys o segment h wr i)

-- mentions that give the same names and states make the same cells
pub cells_said : (ms ns : List Mention) → names_by_first_mention ms ≡ names_by_first_mention ns →
    ((n : List ℕ) → state ms n ≡ state ns n) → (segment : Segment) (os : List Contents) →
    cells ms segment os ≡ cells ns segment os
cells_said ms ns names states segment os = search rules

module _ (forced : List (List ℕ)) (os : List Contents) (keep : Keep) (entry : Option (List ℕ)) (has : HasTable forced os keep entry)
    (bs : List Contents) (all : List Mention) (holds : HoldsAmong all bs (mentions forced os)) where
  -- the cell that a word and its relocation word have in the partial link
  abbrev made : Segment → ℕ × Reloc → Cell
  made segment wr = cell all bs (partial_file forced os keep entry) segment wr.0 wr.1

  cells_back : (earlier rest : List Contents) (segment : Segment) →
      AllByRecursion (λ o. AllReferAmong (names_of (mentions forced os)) o (words_of segment o)) rest → map (made segment)
      (zip (flat_map (λ q. map (λ wr. final_word (partial_plan forced os keep entry) q.0 q.1 segment wr.0 wr.1)
      (words_of segment q.1)) (with_earlier earlier rest))
      (flat_map (λ q. map (λ wr. final_reloc (partial_plan forced os keep entry) os q.1 wr.1) (words_of segment q.1))
      (with_earlier earlier rest)))
      ≡ flat_map (λ q. cells_in all segment q.0 q.1) (with_earlier (bs ++ earlier) rest)
  cells_back earlier [] segment h = refl
  cells_back earlier (o ∷ rest) segment h =
      let a : ℕ × Reloc → ℕ = λ wr. final_word (partial_plan forced os keep entry) earlier o segment wr.0 wr.1 in
      let b : ℕ × Reloc → Reloc = λ wr. final_reloc (partial_plan forced os keep entry) os o wr.1 in
      let xs = flat_map (λ q. map (λ wr. final_word (partial_plan forced os keep entry) q.0 q.1 segment wr.0 wr.1)
      (words_of segment q.1)) (with_earlier (earlier ++ o ∷ []) rest) in
      let ys = flat_map (λ q. map (λ wr. final_reloc (partial_plan forced os keep entry) os q.1 wr.1) (words_of segment q.1))
      (with_earlier (earlier ++ o ∷ []) rest) in
      ap (λ (l : List (ℕ × Reloc)). map (made segment) l) (zip_blocks a b (words_of segment o) xs ys)
      ∙ map-append (made segment) (map (λ wr. (a wr, b wr)) (words_of segment o)) (zip xs ys)
      ∙ ap (λ (front : List Cell). front ++ map (made segment) (zip xs ys))
      (words_made (made segment) (λ wr. (a wr, b wr)) (λ wr. cell all (bs ++ earlier) o segment wr.0 wr.1) (names_of (mentions forced os)) o
      (λ wr k. cell_after forced os keep entry has bs all holds earlier o segment wr.0 wr.1 k) (words_of segment o) h.0)
      ∙ ap (λ (back : List Cell). cells_in all segment (bs ++ earlier) o ++ back) (cells_back (earlier ++ o ∷ []) rest segment h.1)
      ∙ ap (λ (es : List Contents). cells_in all segment (bs ++ earlier) o
      ++ flat_map (λ q. cells_in all segment q.0 q.1) (with_earlier es rest)) (sym (append_assoc bs earlier (o ∷ [])))

  -- the cells of a list in which the partial link stands for its objects
  neighbour_cells : (segment : Segment) (cs : List Contents) →
      cells_in all segment bs (partial_file forced os keep entry) ≡ blocks (cells_in all segment) (bs ++ []) os →
      cells all segment (bs ++ partial_file forced os keep entry ∷ cs) ≡ cells all segment (bs ++ (os ++ cs))
  neighbour_cells segment cs middle =
      one_for_many (cells_in all segment) (cells_in_same all segment) bs os cs (partial_file forced os keep entry)
      (partial_as_long forced bs os cs keep entry has)
      (middle ∙ ap (λ (es : List Contents). blocks (cells_in all segment) es os) (append-nil bs))

  -- the cells of text are the same with a partial link in place of its objects
  pub neighbour_text : (cs : List Contents) → AllByRecursion IsWellFormed os →
      cells all TextSeg (bs ++ partial_file forced os keep entry ∷ cs) ≡ cells all TextSeg (bs ++ (os ++ cs))
  neighbour_text cs good = neighbour_cells TextSeg cs (cells_back [] os TextSeg (objects_refer forced TextSeg os good))

  -- the same of data
  pub neighbour_data : (cs : List Contents) → AllByRecursion IsWellFormed os →
      cells all DataSeg (bs ++ partial_file forced os keep entry ∷ cs) ≡ cells all DataSeg (bs ++ (os ++ cs))
  neighbour_data cs good = neighbour_cells DataSeg cs (cells_back [] os DataSeg (objects_refer forced DataSeg os good))
