-- What the operands of an instruction are in a program: the addresses of the bytes to which they refer.
use Rattle.std.proofs.Common.{rules, ◌≡◌, ◌≢◌, ℕ, ◌+◌, ◌-◌, ◌*◌, ◌/◌, ◌%◌, ◌<◌, ◌≤◌, ◌⊎◌, inl, inr, Bool, true, false, ◌||◌, if◌then◌else◌}
use Rattle.std.proofs.Common.{List, [], ◌∷◌, ◌++◌, length, drop, Option, Some, None, refl, sym, ◌∙◌, ap, subst, arith}
use Rattle.std.proofs.{lemmas.Bool.Decides.nat_tests, lemmas.List.length-drop, lemmas.Option.same_Some}
use Rattle.std.specs.{Prelude.slice_get, Prelude.Ok, List.AllByRecursion}
use Rattle.aout_core.specs.WellFormed.{kind_of, is_pc_relative, symbol_number}
use Rattle.aout_core.specs.{declared.symbol.Symbol.Symbol, declared.symbol.Segment.Segment, declared.reloc.Reloc.Reloc}
use Rattle.aout_core.specs.{declared.reloc.Kind.Kind, Contents.Contents, Words.plus}
use Rattle.aout_core.specs.declared.symbol.Segment.TheVariants as segs
use Rattle.aout_core.specs.declared.reloc.Kind.TheVariants as kinds
use Rattle.link_session.specs.{Starts.own, Sessions.IsObject, Cells.segment_words, Cells.segment_relocs}
use Rattle.link_session.proofs.ListLemmas.{all_split}
use Rattle.tool_options.specs.{declared.options.Keep.TheVariants.Nothing, Choices.Choices}
use Rattle.link_out.specs.{Results.Outcome, function.Link.link}
use Rattle.laws.specs.OperandPlaces.{addressing_of, within_text, kind_meant, IsNamedByte, IsAddress, HasOperand, IsOperand}
use Rattle.laws.specs.OperandPlaces.{OperandsAreThere, IsDirect, JumpsArrive}
use Rattle.laws.specs.OperandWords.{machine_value, moves_instructions, space_used}
use Rattle.laws.specs.{relation.Relocated.{move_in, entry_of, address_in}, relation.LinkedFrom.IsLinkedFrom, WordsAndNames.IsDefined}
use Rattle.laws.specs.{Core.{Space, of_instructions, of_data, IsWordAt}, Operands.{operand, segment_meant, Defines}}
use Rattle.laws.proofs.{DefinedLemmas.definitions_hold, LinkedTheorem.linked_exactly}
use Rattle.laws.proofs.OperandLemmas.{FindsMore, loaded_finds, address_found, names_found, segments_found, any_place, byte_in}
use Rattle.laws.proofs.{InstructionLemmas.{relocs_long, reloc_inside}, LoadedLemmas.{address_of, words_there, words_of_rows}}
use Rattle.instructions.specs.declared.mode.Mode.TheVariants.{Increment, IncrementDeferred, Index, IndexDeferred}
use Rattle.instructions.specs.declared.mode.Addressing.TheVariants.{Immediate, Absolute}
use Rattle.instructions.specs.Modes.{is_pc, has_word, addressing, counts_from_pc}
use Rattle.instructions.specs.Instructions.{instruction_of, jumps, word_count_of, following_words}
use Rattle.instructions.specs.{declared.operation.Operation.Operation, declared.mode.Mode.Mode, declared.mode.Register.Register}
use Rattle.instructions.specs.{declared.mode.Addressing.Addressing, declared.operand.Operand.Operand}
use Rattle.instructions.specs.{declared.instruction.Instruction.Instruction, Operands.takes_word, Alike.is_cut}
use Rattle.instructions.specs.declared.operand.Operand.TheVariants as operands
use Rattle.instructions.proofs.AlikeLemmas.{get_inside}

-- the word at an address is one
one_number : (a b : ℕ) → Some (a % 256) ≡ Some (b % 256) → Some (a / 256) ≡ Some (b / 256) → a ≡ b
one_number a b low high = search rules

pub one_word : (file : Contents) (space : Space) (address a b : ℕ) → IsWordAt file space address a → IsWordAt file space address b → a ≡ b
one_word file space address a b p q = one_number a b (sym p.low ∙ q.low) (sym p.high ∙ q.high)

-- what is found by a word in two ways is found at the same place
module _ (file : Contents) (os before : List Contents) (k : Contents) (segment : Segment) (i w : ℕ) (r : Reloc) (m n : ℕ) where
  same_found : (f : FindsMore file os before k segment i w r m) → FindsMore file os before k segment i w r n →
      operand (is_pc_relative r) f.address f.word ≡ plus n (operand (is_pc_relative r) (own k segment + 2 * i) w)
  same_found f g = search rules

-- numbers of bytes, moved
moved_own : (number more start n place : ℕ) → number ≡ (start + n) % 65536 → plus (start + n) more ≡ place % 65536 →
    plus more number ≡ place % 65536
moved_own number more start n place e there = search rules

moved_name : (number more value first start n place : ℕ) → value ≡ plus first more →
    plus first number ≡ (start + n) % 65536 → plus (start + n) more ≡ place % 65536 → plus value number ≡ place % 65536
moved_name number more value first start n place e beyond there = search rules

module _ (forced : List (List ℕ)) (os : List Contents) (o : Choices) (x : Outcome) (good : AllByRecursion IsObject os)
    (linked : link forced os o ≡ Ok x) where
  -- a number that is the address of a byte
  address_by : (front : List Contents) (c : Contents) (back : List Contents) → os ≡ front ++ c ∷ back →
      (to : Segment) (n : ℕ) (space : Space) (number : ℕ) →
      number ≡ address_of x.file.header os front c to n % 65536 → IsAddress x.file os front c to n space number
  address_by front c back all to n space number e = search (rules, address_of, any_place, byte_in)

  -- the value of a name is that of its definition, moved
  module _ (kept : o.keep ≢ Nothing) (once : x.report.multiples ≡ []) (front : List Contents) (c : Contents)
      (back : List Contents) (all : os ≡ front ++ c ∷ back) where
    value_defined : (name : List ℕ) (to : Segment) (start : ℕ) → Defines c name to start → (row : Symbol) →
        entry_of x.file.symbols name ≡ Some row → address_in row ≡ plus (own c to + start) (move_in x.file.header os front c to)
    value_defined name to start d row found =
        let is : IsDefined x.file os front c d.symbol =
        subst (λ (ys : List Contents). IsDefined x.file ys front c d.symbol) (sym all)
        (definitions_hold forced front c back o x kept (ap (λ (ys : List Contents). link forced ys o) (sym all) ∙ linked)
        once d.number d.symbol d.is_there d.outer d.inner) in
        search rules

    named_address : (k : Contents) (kind : Option Kind) (r : Reloc) (number found_number : ℕ) (to : Segment) (n : ℕ)
        (space : Space) (b : IsNamedByte k c kind r number to n) →
        (symbol row : Symbol) → slice_get k.symbols (symbol_number r) ≡ Some symbol → entry_of x.file.symbols symbol.name ≡ Some row →
        found_number ≡ plus (address_in row) number → IsAddress x.file os front c to n space found_number
    named_address k kind r number found_number to n space b symbol row named found e =
        let same : symbol ≡ b.symbol = same_Some symbol b.symbol (sym named ∙ b.named) in
        let there : entry_of x.file.symbols b.symbol.name ≡ Some row =
        ap (λ (s : Symbol). entry_of x.file.symbols s.name) (sym same) ∙ found in
        address_by front c back all to n space found_number
        (e ∙ moved_name number (move_in x.file.header os front c to) (address_in row) (own c to + b.start) (own c to) n
        (address_of x.file.header os front c to n)
        (value_defined b.symbol.name to b.start b.defined row there) b.byte (any_place x.file.header os front c to n).symbol)

-- the relocation word of an operand word suits its addressing, or the word is a distance within the text
abbrev Suits : Addressing → Reloc → Kind → Type 0
Suits a r kind = (is_pc_relative r ≡ counts_from_pc a) × (kind_of r ≡ Some kind)

abbrev IsDistance : Addressing → Reloc → Kind → Type 0
IsDistance a r kind =
    (counts_from_pc a ≡ true) × (is_pc_relative r ≡ false) × (kind_of r ≡ Some kinds.Absolute) × (kind ≡ kinds.TextSeg)

text_of : (found : Option Kind) (kind : Kind) → within_text found ≡ Some kind → (found ≡ Some kinds.Absolute) × (kind ≡ kinds.TextSeg)
text_of (Some kinds.Absolute) kind e = (refl, same_Some kind kinds.TextSeg (sym e))
text_of _ kind e = absurd cc

suits_by : (a : Addressing) (r : Reloc) (kind : Kind) (relative pc : Bool) → counts_from_pc a ≡ relative → is_pc_relative r ≡ pc →
    (if relative then (if pc then kind_of r else within_text (kind_of r)) else (if pc then None else kind_of r)) ≡ Some kind →
    Suits a r kind ⊎ IsDistance a r kind
suits_by a r kind true false e f h = let t = text_of (kind_of r) kind h in inr (e, f, t.0, t.1)
suits_by a r kind false true e f h = absurd cc
suits_by a r kind _ _ e f h = inl (f ∙ sym e, h)

suits : (a : Addressing) (r : Reloc) (kind : Kind) → kind_meant a r ≡ Some kind → Suits a r kind ⊎ IsDistance a r kind
suits a r kind h = suits_by a r kind (counts_from_pc a) (is_pc_relative r) refl refl h

-- what the machine makes of a distance within the text is moved with the text
distance_value : (a : Addressing) → counts_from_pc a ≡ true → (i w address word move : ℕ) →
    operand false address word ≡ plus 0 (operand false (0 + 2 * i) w) →
    plus (0 + 2 * i) move ≡ address % 65536 → machine_value a (address + 2) word ≡ plus move (machine_value a (2 * i + 2) w)
distance_value a e i w address word move f there = search rules

-- what the machine makes of a word whose pc bit suits its addressing
suited_value : (a : Addressing) (r : Reloc) → is_pc_relative r ≡ counts_from_pc a → (i w address word more : ℕ) →
    operand (is_pc_relative r) address word ≡ plus more (operand (is_pc_relative r) (0 + 2 * i) w) →
    machine_value a (address + 2) word ≡ plus more (machine_value a (2 * i + 2) w)
suited_value a r e i w address word more f = search rules

module _ (forced : List (List ℕ)) (before : List Contents) (k : Contents) (after : List Contents) (o : Choices) (x : Outcome)
    (good : AllByRecursion IsObject (before ++ k ∷ after)) (linked : link forced (before ++ k ∷ after) o ≡ Ok x) where
  abbrev os : List Contents
  os = before ++ k ∷ after

  -- the word at the place of word i of a segment of k
  loaded_word : (segment : Segment) (i w : ℕ) (r : Reloc) → slice_get (segment_words segment k) i ≡ Some w →
      slice_get (segment_relocs segment k) i ≡ Some r →
      (more : ℕ) × FindsMore x.file (before ++ k ∷ after) before k segment i w r more
  loaded_word segment i w r ew er =
      let from : IsLinkedFrom forced (before ++ k ∷ after) o x = (linked_exactly forced (before ++ k ∷ after) o x good).0 linked in
      let l = words_of_rows forced before k after o x good from segment i w r ew er in
      (l.added, loaded_finds x.file from.rows (before ++ k ∷ after) before k segment (words_there segment k i w ew) i w r l)

  module _ (operation : Operation) (a : Addressing) (i w : ℕ) (r : Reloc) (ew : slice_get k.text_words i ≡ Some w)
      (er : slice_get k.text_reloc i ≡ Some r) where
    found : (more : ℕ) × FindsMore x.file (before ++ k ∷ after) before k segs.TextSeg i w r more
    found = loaded_word segs.TextSeg i w r ew er

    -- a segment of k
    own_value : (kind : Kind) (to : Segment) → kind_meant a r ≡ Some kind → segment_meant kind ≡ Some to →
        machine_value a (found.1.address + 2) found.1.word
        ≡ plus (move_in x.file.header (before ++ k ∷ after) before k to) (machine_value a (2 * i + 2) w)
    own_value kind to is meant = by_test (suits a r kind is)
      where
        by_test : Suits a r kind ⊎ IsDistance a r kind →
            machine_value a (found.1.address + 2) found.1.word
            ≡ plus (move_in x.file.header (before ++ k ∷ after) before k to) (machine_value a (2 * i + 2) w)
        by_test (inl s) =
            let f = segments_found forced before k after o x good linked segs.TextSeg i w r ew er kind to s.1 meant in
            let more : ℕ = move_in x.file.header (before ++ k ∷ after) before k to in
            suited_value a r s.0 i w found.1.address found.1.word more
            (same_found x.file (before ++ k ∷ after) before k segs.TextSeg i w r found.0 more found.1 f)
        by_test (inr d) =
            let f = segments_found forced before k after o x good linked segs.TextSeg i w r ew er kinds.Absolute segs.Absolute d.2 refl in
            let same = same_found x.file (before ++ k ∷ after) before k segs.TextSeg i w r found.0 0 found.1 f in
            let still : operand false found.1.address found.1.word ≡ plus 0 (operand false (0 + 2 * i) w) =
            subst (λ (pc : Bool). operand pc found.1.address found.1.word ≡ plus 0 (operand pc (0 + 2 * i) w)) d.1 same in
            let text : segs.TextSeg ≡ to = same_Some segs.TextSeg to (ap segment_meant (sym d.3) ∙ meant) in
            subst (λ (s : Segment). machine_value a (found.1.address + 2) found.1.word
            ≡ plus (move_in x.file.header (before ++ k ∷ after) before k s) (machine_value a (2 * i + 2) w)) text
            (distance_value a d.0 i w found.1.address found.1.word
            (move_in x.file.header (before ++ k ∷ after) before k segs.TextSeg) still found.1.place.symbol)

    -- a name
    name_suits : kind_meant a r ≡ Some kinds.External → Suits a r kinds.External
    name_suits is = search rules

    abbrev operand_there : HasOperand (before ++ k ∷ after) o x before k operation a i
    operand_there = record {
      w = w;
      r = r;
      word_in = ew;
      reloc_in = er;
      address = found.1.address;
      place = found.1.place;
      word = found.1.word;
      is_there = found.1.is_there;
      segments =
          λ to n b. address_by forced (before ++ k ∷ after) o x good linked before k after refl to n
          (space_used operation a) (machine_value a (found.1.address + 2) found.1.word)
          (own_value b.meant to b.is b.segment
          ∙ moved_own (machine_value a (2 * i + 2) w) (move_in x.file.header (before ++ k ∷ after) before k to)
          (own k to) n (address_of x.file.header (before ++ k ∷ after) before k to n) b.byte
          (any_place x.file.header (before ++ k ∷ after) before k to n).symbol);
      values = λ kept final is.
          let s = name_suits is in
          let f = names_found forced before k after o x good kept final linked segs.TextSeg i w r ew er s.1 in
          record {
            symbol = f.symbol;
            row = f.row;
            named = f.named;
            found = f.found;
            is =
                suited_value a r s.0 i w found.1.address found.1.word f.row.value
                (same_found x.file (before ++ k ∷ after) before k segs.TextSeg i w r found.0 f.row.value found.1 f.more);
          };
      names = λ kept once front c back all to n b.
          let s = name_suits b.is in
          let f = address_found forced before k after o x good kept linked segs.TextSeg i w r ew er s.1 in
          let more : ℕ = address_in f.row in
          named_address forced (before ++ k ∷ after) o x good linked kept once front c back all k (kind_meant a r) r
          (machine_value a (2 * i + 2) w) (machine_value a (found.1.address + 2) found.1.word)
          to n (space_used operation a) b f.symbol f.row f.named f.found
          (suited_value a r s.0 i w found.1.address found.1.word more
          (same_found x.file (before ++ k ∷ after) before k segs.TextSeg i w r found.0 more found.1 f.more));
    }

-- an operand that is used in some way has a word
when_pc : (pc : Bool) (way a : Addressing) → (if pc then Some way else None) ≡ Some a → pc ≡ true
when_pc true way a e = refl
when_pc false way a e = absurd cc

has_its_word : (m : Mode) (r : Register) (a : Addressing) → addressing m r ≡ Some a → has_word m r ≡ true
has_its_word Increment r a e = when_pc (is_pc r) Immediate a e
has_its_word IncrementDeferred r a e = when_pc (is_pc r) Absolute a e
has_its_word Index r a e = refl
has_its_word IndexDeferred r a e = refl
has_its_word _ r a e = absurd cc

pub takes_its_word : (operand : Option Operand) (a : Addressing) → addressing_of operand ≡ Some a → takes_word operand ≡ true
takes_its_word (Some (operands.General m r)) a e = has_its_word m r a e
takes_its_word _ a e = absurd cc

-- its word is in the text
word_inside : (ws : List ℕ) (i w : ℕ) (following : List ℕ) → drop i ws ≡ w ∷ following → (instruction : Instruction) →
    instruction_of w ≡ Some instruction →
    is_cut (instruction_of w) following ≡ false → (operand : Option Operand) (p : ℕ) →
    IsOperand instruction i operand p → takes_word operand ≡ true → p < length ws
word_inside ws i w following here instruction is whole operand p place takes = search (rules, length-drop, nat_tests, by_place)
  where
    counts : (q : Option Operand) → operand ≡ q → word_count_of q ≡ 1
    counts q e = ap (λ (t : Bool). if t then 1 else 0) (ap takes_word (sym e) ∙ takes)

    by_place : length (drop i ws) ≡ length (w ∷ following) → length (drop i ws) ≡ length ws - i →
        following_words instruction ≤ length following → IsOperand instruction i operand p → p < length ws
    by_place long left enough (inl (e, at)) = search rules
    by_place long left enough (inr (e, at)) = search rules

-- for `instruction_law`: each operand is the address of the byte to which it refers
pub operands_there : OperandsAreThere
operands_there forced before k after o x good linked i w following here instruction is whole operand p place a e =
    let inside : p < length k.text_words =
    word_inside k.text_words i w following here instruction is whole operand p place (takes_its_word operand a e) in
    let word = get_inside k.text_words p inside in
    let reloc = reloc_inside k.text_reloc p (omega (arith, inside, relocs_long k (all_split IsObject before (k ∷ after) good).1.0)) in
    operand_there forced before k after o x good linked instruction.row.operation a p word.0 reloc.0 word.1 reloc.1

-- jumps and calls
jump_space : (operation : Operation) (a : Addressing) → jumps operation ≡ true → IsDirect a → space_used operation a ≡ of_instructions
jump_space operation a j (inl e) =
    ap (λ (b : Addressing). space_used operation b) e ∙ ap (λ (t : Bool). if t || moves_instructions operation then of_instructions else of_data) j
jump_space operation a j (inr e) =
    ap (λ (b : Addressing). space_used operation b) e ∙ ap (λ (t : Bool). if t || moves_instructions operation then of_instructions else of_data) j

-- for `instruction_law`: a jump or a call to a name arrives at its definition
pub jumps_arrive : JumpsArrive
jumps_arrive forced before k after o x good kept linked once i w following here instruction is whole j operand p place a
    e direct u r ew er front c back all to n b =
    let h = operand_there forced before k after o x good linked instruction.row.operation a p u r ew er in
    record {
      address = h.address;
      place = h.place;
      word = h.word;
      is_there = h.is_there;
      arrives =
          subst (λ (space : Space). IsAddress x.file (before ++ k ∷ after) front c to n space (machine_value a (h.address + 2) h.word))
          (jump_space instruction.row.operation a j direct) (h.names kept once front c back all to n b);
    }
