-- The instructions at the sure places of an object, in a program, if nothing is suspicious for sure in the object.
use Rattle.std.proofs.Common.{rules, ◌≡◌, ℕ, zero, suc, ◌+◌, ◌*◌, ◌/◌, ◌%◌, Bool, true, false, inl, inr, List, [], ◌∷◌, ◌++◌, drop, Option}
use Rattle.std.proofs.{Common.{Some, None, refl, sym, ◌∙◌, ap, subst, arith}, lemmas.Bool.eqb-true, lemmas.Option.same_Some}
use Rattle.instructions.proofs.{LineLemmas.from_place, CallLemmas.each_made_by_sys}
use Rattle.std.specs.{Prelude.{slice_get, slice_index, eqb, cond, if◌then◌else◌, Ok}, List.find}
use Rattle.aout_core.specs.{declared.reloc.Reloc.Reloc, declared.reloc.Kind.Kind, Contents.Contents, Words.plus}
use Rattle.aout_core.specs.{WellFormed.{kind_numbered, kind_of, is_pc_relative, word_fault, first_bad_word}, declared.symbol.Symbol.Symbol}
use Rattle.aout_core.specs.declared.symbol.Segment.TheVariants as segs
use Rattle.aout_core.specs.declared.reloc.Kind.TheVariants as kinds
use Rattle.link_session.specs.Sessions.{IsObject}
use Rattle.link_session.proofs.{ListLemmas.all_split, WellFormedLemmas.first_of_none, WellFormedLemmas.well_formed_parts}
use Rattle.tool_options.specs.Choices.{Choices}
use Rattle.link_out.specs.{Results.Outcome, function.Link.link}
use Rattle.laws.proofs.LinkedTheorem.{linked_exactly}
use Rattle.laws.proofs.{InstructionLemmas.moves_low, InstructionPlaceLemmas.instructions_there, OperandPlaceLemmas.operands_there}
use Rattle.instructions.specs.declared.mode.Addressing.TheVariants.{Immediate, Relative, RelativeDeferred}
use Rattle.instructions.specs.{declared.operation.Operation.Operation, declared.mode.Addressing.Addressing}
use Rattle.instructions.specs.{declared.operand.Operand.Operand, declared.instruction.Instruction.Instruction}
use Rattle.instructions.specs.{declared.call_table.CallRow.CallRow, declared.line.Line.Line, declared.line.Line.TheVariants.Decoded}
use Rattle.instructions.specs.{declared.unix.Decoder.TheVariants.Unix, declared.unix.UnixLine.UnixLine}
use Rattle.instructions.specs.{declared.unix.UnixLine.TheVariants.Machine, Calls.system_calls, Relocated.is_relocated, Alike.is_cut}
use Rattle.instructions.specs.UnixLaws.{sys, AreMadeBySys}
use Rattle.instructions.specs.{Instructions.{instruction_of, word_count_of}, Lines.{word_for, line_of, line_at}}
use Rattle.instructions.specs.{UnixLines.{call_word, call_of, call_by, unix_line}, Modes.counts_from_pc}
use Rattle.instructions.specs.declared.operand.Operand.TheVariants as operands
use Rattle.disassemblies.specs.Lines.{unix_line_in}
use Rattle.checks.specs.{SureLaw.{is_whole, SuitsMode, SuitsModes}, Suspicions.is_immediate}
use Rattle.checks.proofs.SureLemmas.{sure_below, sure_places, sure_words}
use Rattle.laws.specs.ReachedInstructions.{kind_said, HasOperandSaid, IsNoDistance, ReachedInstructionsAreKept, SurePlacesBegin}
use Rattle.laws.specs.{OperandWords.machine_value, OperandPlaces.{addressing_of, within_text, kind_meant, IsOwnByte, HasOperand, IsOperand}}

head_of : (ws : List ℕ) (i w : ℕ) (more : List ℕ) → drop i ws ≡ w ∷ more →
    line_of (instruction_of (slice_index ws i)) (slice_index ws i) (drop (suc i) ws) ≡ line_of (instruction_of w) w more
head_of [] zero w more e = absurd cc
head_of [] (suc i) w more e = absurd cc
head_of (v ∷ ws) zero w more e = search rules
head_of (v ∷ ws) (suc i) w more e = head_of ws i w more e

-- so the line there is that of the first word
pub at_head : (ws : List ℕ) (i w : ℕ) (more : List ℕ) → drop i ws ≡ w ∷ more → line_at ws i ≡ line_of (instruction_of w) w more
at_head ws i w more e = search (rules, head_of)

-- the instruction of a system call has no operand word

abbrev made : CallRow → Option Instruction
made c = Some (sys c.number)

made_by_sys : (w : ℕ) (calls : List CallRow) (c : CallRow) → AreMadeBySys calls →
    find (λ d. eqb (call_word d) w) calls ≡ Some c → instruction_of w ≡ made c
made_by_sys w [] c all e = absurd cc
made_by_sys w (d ∷ calls) c all e =
    by (eqb (call_word d) w) refl e (λ h. made_by_sys w calls c rest h)
  where
    first : instruction_of (call_word d) ≡ made d
    first = cc

    rest : AreMadeBySys calls
    rest = cc

    by : (t : Bool) → eqb (call_word d) w ≡ t → cond t (Some d) (find (λ d. eqb (call_word d) w) calls) ≡ Some c →
        (find (λ d. eqb (call_word d) w) calls ≡ Some c → instruction_of w ≡ made c) → instruction_of w ≡ made c
    by true is h later =
        ap instruction_of (sym (eqb-true (call_word d) w is)) ∙ first ∙ ap made (same_Some d c h)
    by false is h later = later h

pub call_made : (w : ℕ) (c : CallRow) → call_by Unix w ≡ Some c → instruction_of w ≡ made c
unfolding call_of
call_made w c e = made_by_sys w system_calls c each_made_by_sys e

-- the line at a place at which the word is not relocated

pub word_at : (ws : List ℕ) (i w : ℕ) (following : List ℕ) → drop i ws ≡ w ∷ following → slice_index ws i ≡ w
word_at [] zero w following e = absurd cc
word_at [] (suc i) w following e = absurd cc
word_at (v ∷ ws) zero w following e = let same : v ≡ w = cc in same
word_at (v ∷ ws) (suc i) w following e = word_at ws i w following e

pub line_there : (k : Contents) (i : ℕ) → is_relocated (slice_get k.text_reloc i) ≡ false →
    unix_line_in Unix k i ≡ unix_line (call_by Unix (slice_index k.text_words i)) k.text_words i
line_there k i still = search rules

abbrev pub decoded : Instruction → List ℕ → Line
decoded i following = Decoded i (word_for i.first 0 following) (word_for i.second (word_count_of i.first) following)

pub decoded_by : (o : Option Instruction) (w : ℕ) (following : List ℕ) (instruction : Instruction) → o ≡ Some instruction →
    is_cut o following ≡ false → line_of o w following ≡ decoded instruction following
decoded_by None w following instruction e whole = absurd cc
decoded_by (Some i) w following instruction e whole = search rules

-- each operand word suits its mode, if the line does

by_place : (k : Contents) (i : ℕ) (instruction : Instruction) → SuitsMode k (i + 1) instruction.first →
    SuitsMode k (i + 1 + word_count_of instruction.first) instruction.second →
    (operand : Option Operand) (p : ℕ) → IsOperand instruction i operand p → SuitsMode k p operand
by_place k i instruction first second operand p (inl (e, at)) =
    subst (λ (x : Option Operand). SuitsMode k p x) (sym e) (subst (λ (n : ℕ). SuitsMode k n instruction.first) (sym at) first)
by_place k i instruction first second operand p (inr (e, at)) =
    subst (λ (x : Option Operand). SuitsMode k p x) (sym e) (subst (λ (n : ℕ). SuitsMode k n instruction.second) (sym at) second)

no_operand_word : (k : Contents) (i n : ℕ) (operand : Option Operand) (p : ℕ) → IsOperand (sys n) i operand p → SuitsMode k p operand
no_operand_word k i n operand p (inl (e, at)) = subst (λ (x : Option Operand). SuitsMode k p x) (sym e) tt
no_operand_word k i n operand p (inr (e, at)) = subst (λ (x : Option Operand). SuitsMode k p x) (sym e) tt

operand_suits : (k : Contents) (i w : ℕ) (following : List ℕ) → drop i k.text_words ≡ w ∷ following → (instruction : Instruction) →
    instruction_of w ≡ Some instruction → is_cut (instruction_of w) following ≡ false →
    is_relocated (slice_get k.text_reloc i) ≡ false → SuitsModes k i (unix_line_in Unix k i) →
    (operand : Option Operand) (p : ℕ) → IsOperand instruction i operand p → SuitsMode k p operand
operand_suits k i w following here instruction is whole still modes operand p place =
    by (call_by Unix w) refl
    (subst (λ (v : ℕ). SuitsModes k i (unix_line (call_by Unix v) k.text_words i)) (word_at k.text_words i w following here)
    (subst (λ (line : UnixLine). SuitsModes k i line) (line_there k i still) modes))
  where
    line : line_at k.text_words i ≡ decoded instruction following
    line = at_head k.text_words i w following here ∙ decoded_by (instruction_of w) w following instruction is whole

    by : (o : Option CallRow) → call_by Unix w ≡ o → SuitsModes k i (unix_line o k.text_words i) → SuitsMode k p operand
    by None e m =
        let both : SuitsModes k i (Machine (decoded instruction following)) =
        subst (λ (l : Line). SuitsModes k i (Machine l)) line m in
        by_place k i instruction both.0 both.1 operand p place
    by (Some c) e m =
        let same : instruction ≡ sys c.number = same_Some instruction (sys c.number) (sym is ∙ call_made w c e) in
        no_operand_word k i c.number operand p (subst (λ (j : Instruction). IsOperand j i operand p) same place)

suits_way : (a : Addressing) (pc : Bool) → (is_immediate a ≡ false → pc ≡ counts_from_pc a) → (is_immediate a ≡ true → pc ≡ false) →
    pc ≡ counts_from_pc a
suits_way Immediate pc other own = own refl
suits_way _ pc other own = other refl

bit_suits : (k : Contents) (p : ℕ) (operand : Option Operand) (a : Addressing) (r : Reloc) → SuitsMode k p operand →
    addressing_of operand ≡ Some a → slice_get k.text_reloc p ≡ Some r → IsNoDistance k a p → is_relocated (Some r) ≡ true →
    is_pc_relative r ≡ counts_from_pc a
bit_suits k p (Some (operands.General m register)) a r s e at near moved = suits_way a (is_pc_relative r) (s a r e at moved) (near r at)
bit_suits k p _ a r s e at near moved = absurd cc

-- what an operand word refers to

kind_at : (symbols : List Symbol) (i : ℕ) (rs ss : List Reloc) (p : ℕ) (r : Reloc) → first_bad_word symbols i (rs ++ ss) ≡ None →
    slice_get rs p ≡ Some r → (kind : Kind) × (kind_of r ≡ Some kind)
kind_at symbols i [] ss p r e at = absurd cc
kind_at symbols i (q ∷ rs) ss zero r e at = search rules
kind_at symbols i (q ∷ rs) ss (suc p) r e at =
    kind_at symbols (i + 1) rs ss p r (first_of_none (word_fault symbols i q) (first_bad_word symbols (i + 1) (rs ++ ss)) e).1 at

-- what is said is what is meant
record IsSaid (a : Addressing) (r : Reloc) : Type 0 where
  kind : Kind
  said : kind_said a r ≡ Some kind
  meant : kind_meant a r ≡ Some kind

abbrev meant_by : Bool → Bool → Option Kind → Option Kind
meant_by relative pc found = if relative then (if pc then found else within_text found) else (if pc then None else found)

abbrev number_or_distance : Bool → Kind
number_or_distance relative = if relative then kinds.TextSeg else kinds.Absolute

meant_alone : (relative pc : Bool) (found : Option Kind) → pc ≡ false → found ≡ Some kinds.Absolute →
    meant_by relative pc found ≡ Some (number_or_distance relative)
meant_alone true false found e f = ap within_text f
meant_alone false false found e f = f
meant_alone _ true found e f = absurd cc

said_by : (a : Addressing) (r : Reloc) (kind : Kind) (moved : Bool) → is_relocated (Some r) ≡ moved → kind_of r ≡ Some kind →
    (is_relocated (Some r) ≡ true → is_pc_relative r ≡ counts_from_pc a) → IsSaid a r
said_by a r kind true e is bit = search rules
said_by a r kind false e is bit =
    let low : r.0 % 16 ≡ 0 = moves_low (r ∷ []) 0 r refl e in
    let number : kind_of r ≡ Some kinds.Absolute = ap kind_numbered (let z : r.0 / 2 % 8 ≡ 0 = omega arith in z) in
    let pc : is_pc_relative r ≡ false = ap (λ (n : ℕ). eqb n 1) (let z : r.0 % 2 ≡ 0 = omega arith in z) in
    record {
      kind = number_or_distance (counts_from_pc a);
      said = search rules;
      meant = meant_alone (counts_from_pc a) (is_pc_relative r) (kind_of r) pc number;
    }

-- what the machine makes of a word is a word
pub value_small : (a : Addressing) (next w : ℕ) → machine_value a next w ≡ (0 + machine_value a next w) % 65536
value_small Relative next w = let e : (w + next) % 65536 ≡ (0 + (w + next) % 65536) % 65536 = omega arith in e
value_small RelativeDeferred next w = let e : (w + next) % 65536 ≡ (0 + (w + next) % 65536) % 65536 = omega arith in e
value_small _ next w = let e : w % 65536 ≡ (0 + w % 65536) % 65536 = omega arith in e

same_number : (n value address : ℕ) → n ≡ (0 + n) % 65536 → value ≡ address % 65536 → plus (0 + n) 0 ≡ address % 65536 → value ≡ n
same_number n value address small is there = let p : (0 + n + 0) % 65536 ≡ address % 65536 = there in omega arith

operand_said : (os : List Contents) (o : Choices) (x : Outcome) (before : List Contents) (k : Contents) (operation : Operation)
    (a : Addressing) (p : ℕ) → IsObject k → (h : HasOperand os o x before k operation a p) →
    (is_relocated (Some h.r) ≡ true → is_pc_relative h.r ≡ counts_from_pc a) → HasOperandSaid os o x before k operation a p
operand_said os o x before k operation a p is h bit =
    let found = kind_at k.symbols 0 k.text_reloc k.data_reloc p h.r (well_formed_parts k is.well).1 h.reloc_in in
    let s : IsSaid a h.r = said_by a h.r found.0 (is_relocated (Some h.r)) refl found.1 bit in
    let n : ℕ = machine_value a (2 * p + 2) h.w in
    record {
      operand = h;
      kind = s.kind;
      said = s.said;
      meant = s.meant;
      bit = bit;
      number =
          λ e. let own : IsOwnByte k (kind_meant a h.r) n segs.Absolute n = search rules in
          let there = h.segments segs.Absolute n own in
          same_number n (machine_value a (h.address + 2) h.word) there.address (value_small a (2 * p + 2) h.w) there.is
          there.place.symbol;
    }

-- for `reached_instruction_law`: a sure instruction is in the program, with its operands
pub reached_instructions_kept : ReachedInstructionsAreKept
reached_instructions_kept forced before k after o x good small e none l i s w following here instruction is whole =
    let linked : link forced (before ++ k ∷ after) o ≡ Ok x = (linked_exactly forced (before ++ k ∷ after) o x good).1 l in
    let words = sure_words e k none i s in
    record {
      still = words.0;
      kept = instructions_there forced before k after o x good small l i w following here words.0 whole;
      operands =
          λ operand p place a way near.
          let h = operands_there forced before k after o x good linked i w following here instruction is whole operand p place a way in
          operand_said (before ++ k ∷ after) o x before k instruction.row.operation a p
          (all_split IsObject before (k ∷ after) good).1.0 h
          (bit_suits k p operand a h.r (operand_suits k i w following here instruction is whole words.0 words.1 operand p place) way
          h.reloc_in near);
    }

-- an instruction begins at each sure place

record Begins (o : Option Instruction) (following : List ℕ) : Type 0 where
  instruction : Instruction
  is : o ≡ Some instruction
  whole : is_cut o following ≡ false

begins_by : (o : Option Instruction) (w : ℕ) (following : List ℕ) → is_whole (Machine (line_of o w following)) ≡ true → Begins o following
begins_by None w following e = absurd cc
begins_by (Some i) w following e = search rules

begins : (w : ℕ) (ws : List ℕ) (i : ℕ) → w ≡ slice_index ws i → (o : Option CallRow) → call_by Unix w ≡ o →
    is_whole (unix_line o ws i) ≡ true → Begins (instruction_of (slice_index ws i)) (drop (i + 1) ws)
begins w ws i same None e whole = begins_by (instruction_of (slice_index ws i)) (slice_index ws i) (drop (i + 1) ws) whole
begins w ws i same (Some c) e whole =
    let is : instruction_of (slice_index ws i) ≡ made c = ap instruction_of (sym same) ∙ call_made w c e in
    search rules

-- and one begins at each sure place
pub sure_places_begin : SurePlacesBegin
sure_places_begin e k none i s =
    let still = (sure_words e k none i s).0 in
    let w : ℕ = slice_index k.text_words i in
    let whole : is_whole (unix_line (call_by Unix w) k.text_words i) ≡ true =
    ap is_whole (sym (line_there k i still)) ∙ (sure_places e k none i s).0 in
    let b = begins w k.text_words i refl (call_by Unix w) refl whole in
    search (rules, from_place, sure_below)
