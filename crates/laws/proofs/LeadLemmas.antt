-- Where a line of a program leads: within the text of its object, or by a jump or a call.
use Rattle.std.proofs.Common.{rules, ◌≡◌, ℕ, suc, ◌+◌, ◌-◌, ◌*◌, ◌/◌, ◌%◌, ◌<◌, ◌≤◌, ◌⊎◌, inl, inr, Bool, true, false, ◌||◌, ◌&&◌, eqb}
use Rattle.std.proofs.Common.{nat_lt, if◌then◌else◌, List, [], ◌∷◌, length, drop, Option, Some, None, refl, sym, ◌∙◌, ap, subst, arith}
use Rattle.std.proofs.{Math.Bool.and-false, lemmas.Bool.{and_parts, and_from, or_cases, eq-eqb, lt-ltb, or_left, or_right}}
use Rattle.std.specs.{Prelude.{slice_get, IfSome}, List.list_any}
use Rattle.aout_core.specs.{Contents.Contents, Strip.stripped}
use Rattle.instructions.specs.Instructions.{instruction_of, instruction_in, word_count_of, following_words, jumps}
use Rattle.instructions.specs.{Lines.word_for, Targets.number, Rows.row_of, declared.table.Row.Row, declared.mode.Addressing.Addressing}
use Rattle.instructions.specs.{declared.operation.Operation.Operation, declared.operand.Operand.Operand}
use Rattle.instructions.specs.{declared.instruction.Instruction.Instruction, declared.call.SystemCall.SystemCall}
use Rattle.instructions.specs.{declared.call_table.CallRow.CallRow, declared.unix.UnixLine.TheVariants.Machine}
use Rattle.instructions.specs.{declared.unix.UnixLine.UnixLine, declared.unix.Decoder.TheVariants.Unix, declared.line.Line.TheVariants.Decoded}
use Rattle.instructions.specs.{declared.unix.UnixLine.TheVariants.Call, Operands.takes_word}
use Rattle.instructions.specs.declared.operand.Operand.TheVariants as operands
use Rattle.instructions.specs.declared.operation.Operation.TheVariants as operations
use Rattle.instructions.specs.declared.call.SystemCall.TheVariants as calls
use Rattle.disassemblies.specs.{Listed.listed_line, Starts.starts, Starts.is_start}
use Rattle.checks.specs.{ReachedLaw.is_place, Reached.passes, Reached.flows, Reached.calls_csv, Reached.calls_by_r5}
use Rattle.checks.specs.Reached.{returns, next_of, parent_of, branch_of, jump, leads_by, has_distance, is_shown_by, shown_from}
use Rattle.checks.specs.declared.evidence.Evidence.TheVariants.{Names, Promise}
use Rattle.instructions.proofs.AlikeLemmas.{get_from}
use Rattle.laws.specs.{OperandPlaces.addressing_of, OperandPlaces.IsDirect, OperandPlaces.IsOperand, OperandWords.machine_value}
use Rattle.laws.proofs.{ReachedInstructionLemmas.decoded, OperandPlaceLemmas.takes_its_word}

-- an address is that of a place
pub placed : (q address : ℕ) → is_place q (Some address) ≡ true → address ≡ 2 * q
placed q address e = search rules

pub place_is : (q address : ℕ) → address ≡ 2 * q → is_place q (Some address) ≡ true
place_is q address e =
    and_from (eqb (address % 2) 0) (eqb (address / 2) q) (eq-eqb (address % 2) 0 (omega arith)) (eq-eqb (address / 2) q (omega arith))

-- a line leads on if a test holds
leads_on : (t : Bool) (q address : ℕ) → is_place q (if t then Some address else None) ≡ true → (t ≡ true) × (address ≡ 2 * q)
leads_on true q address e = (refl, placed q address e)
leads_on false q address e = absurd cc

leads_on_back : (t : Bool) (q address : ℕ) → t ≡ true → address ≡ 2 * q → is_place q (if t then Some address else None) ≡ true
leads_on_back true q address e is = place_is q address is
leads_on_back false q address e is = absurd cc

-- no word of a file without relocation shows a place

no_distance : (c : Contents) (place : ℕ) (o : Option Operand) → has_distance (stripped c) place o ≡ false
no_distance c place (Some (operands.General m r)) = refl
no_distance c place _ = refl

no_mark : (c : Contents) (place : ℕ) (line : UnixLine) → is_shown_by (stripped c) place line ≡ false
no_mark c place (Machine (Decoded i a b)) =
    ap (λ (t : Bool). t || has_distance (stripped c) (place + 1 + word_count_of i.first) i.second) (no_distance c (place + 1) i.first)
    ∙ no_distance c (place + 1 + word_count_of i.first) i.second
no_mark c place _ = refl

pub none_shown : (c : Contents) (q place : ℕ) (ws : List ℕ) → list_any (is_place q) (shown_from (stripped c) place ws) ≡ false
none_shown c q place [] = refl
none_shown c q place (w ∷ ws) =
    by (is_start (starts Unix (stripped c)) place) (is_shown_by (stripped c) place (listed_line Unix (stripped c) place))
    (no_mark c place (listed_line Unix (stripped c) place)) (none_shown c q (place + 1) ws)
  where
    by : (s m : Bool) → m ≡ false → list_any (is_place q) (shown_from (stripped c) (place + 1) ws) ≡ false →
        (list_any (is_place q) ((if s && m then Some (2 * place) else None) ∷ shown_from (stripped c) (place + 1) ws)) ≡ false
    by true true e later = absurd cc
    by true false e later = later
    by false m e later = later

pub or_none : (a b : Bool) → b ≡ false → (a || b) ≡ true → a ≡ true
or_none true b n e = refl
or_none false b n e = let bad : true ≡ false = sym e ∙ n in absurd cc

-- an address of the program that is one of the object or the end of its text, moved with the text
pub record Within (start length q : ℕ) (own : List (Option ℕ)) : Type 0 where
  pub j : ℕ
  pub at : q ≡ start + j
  pub within : j ≤ length
  pub led : j < length → list_any (is_place j) own ≡ true

-- calls

pub or-nothing : (b : Bool) → (b || false) ≡ true → b ≡ true
or-nothing true e = refl
or-nothing false e = absurd cc

-- the parent of `sys fork`
parent_leads : (file k : Contents) (start p i q : ℕ) (call : SystemCall) → p ≡ start + i →
    (call ≡ calls.Fork → i + 2 ≤ length k.text_words) → is_place q (parent_of (stripped file) p call) ≡ true →
    (j : ℕ) × (q ≡ start + j) × (j ≤ length k.text_words) × (j < length k.text_words → is_place j (parent_of k i call) ≡ true)
parent_leads file k start p i q calls.Fork at inside e =
    let there = leads_on (nat_lt (p + 2) (length file.text_words)) q (2 * (p + 2)) e in
    let has : i + 2 ≤ length k.text_words = inside refl in (
      i + 2,
      omega (arith, there.1),
      has,
      λ below. leads_on_back (nat_lt (i + 2) (length k.text_words)) (i + 2) (2 * (i + 2)) (lt i below) refl,
    )
  where
    lt : (i : ℕ) → i + 2 < length k.text_words → nat_lt (i + 2) (length k.text_words) ≡ true
    lt i h = lt-ltb (i + 2) (length k.text_words) h
parent_leads file k start p i q _ at inside e = absurd cc

-- a call leads on within the text, or to its end
pub call_leads : (file k : Contents) (start p i q : ℕ) (c : CallRow) → p ≡ start + i →
    i + (1 + c.words) ≤ length k.text_words →
    (c.call ≡ calls.Fork → i + 2 ≤ length k.text_words) → list_any (is_place q) (leads_by Names (stripped file) p (Call c)) ≡ true →
    Within start (length k.text_words) q (leads_by Promise k i (Call c))
call_leads file k start p i q c at whole parent e = elim (or_cases
    (is_place q (if returns c.call || false then Some (2 * (p + (1 + c.words))) else None)) (is_place q (parent_of (stripped file) p c.call) || false) e) [
      | inl h ↦
          let on = leads_on (returns c.call || false) q (2 * (p + (1 + c.words))) h in
          record {
            j = i + (1 + c.words);
            at = omega (arith, on.1);
            within = whole;
            led = search (rules, or_left, leads_on_back, or-nothing);
          }
      | inr h ↦
          let led = parent_leads file k start p i q c.call at parent (or-nothing (is_place q (parent_of (stripped file) p c.call)) h) in
          search rules
    ]

-- control comes to the line after an instruction of the program only if it does in the object

no_csv : (file : Contents) (p : ℕ) → calls_csv (stripped file) p ≡ false
no_csv file p = and-false (calls_by_r5 (slice_get file.text_words p))

more_comes_back : (a b : Bool) → (a || false) ≡ true → (a || b) ≡ true
more_comes_back true b e = refl
more_comes_back false b e = absurd cc

passes_more : (operation : Operation) (a b : Bool) → passes operation (a || false) ≡ true → passes operation (a || b) ≡ true
passes_more operations.Jsr a b e = more_comes_back a b e
passes_more _ a b e = e

flows_more : (file k : Contents) (p i : ℕ) (instruction : Instruction) → flows (stripped file) p instruction ≡ true →
    flows k i instruction ≡ true
flows_more file k p i instruction e = search (rules, and_parts, and_from, passes_more, no_csv)

-- branches

-- the distance of a branch back is short
abbrev IsShort : Option Operand → Type 0
IsShort (Some (operands.Backward v)) = v < 0o400
IsShort _ = Unit {0}

short_in : (o : Option Row) (w : ℕ) (instruction : Instruction) → instruction_in o w ≡ Some instruction →
    IsShort instruction.first × IsShort instruction.second
short_in None w instruction e = absurd cc
short_in (Some row) w instruction e = search rules

pub branch_leads : (x : Option Operand) (start length p i q : ℕ) → IsShort x → p ≡ start + i → 2 * (start + length) < 65536 →
    IfSome (branch_of (2 * i) x) (λ a. a ≤ 2 * length) → is_place q (branch_of (2 * p) x) ≡ true →
    (j : ℕ) × (q ≡ start + j) × (j ≤ length) × (is_place j (branch_of (2 * i) x) ≡ true)
branch_leads (Some (operands.Forward v)) start length p i q short at fits inside e = search (rules, forward, placed)
  where
    forward : (c : ℕ) → (2 * i + 2 + 2 * v + c) % 0o200000 ≤ 2 * length → (2 * p + 2 + 2 * v + c) % 0o200000 ≡ 2 * q →
        (j : ℕ) × (q ≡ start + j) × (j ≤ length) × (is_place j (Some ((2 * i + 2 + 2 * v + c) % 0o200000)) ≡ true)
    forward c small is =
        let sum : 2 * start + (2 * i + 2 + 2 * v + c) % 0o200000 ≡ 2 * q = omega arith in (
          (2 * i + 2 + 2 * v + c) % 0o200000 / 2,
          omega arith,
          omega arith,
          place_is ((2 * i + 2 + 2 * v + c) % 0o200000 / 2) ((2 * i + 2 + 2 * v + c) % 0o200000) (omega arith),
        )
branch_leads (Some (operands.Backward v)) start length p i q short at fits inside e =
    let is : (2 * p + 0o400002 - 2 * v) % 0o200000 ≡ 2 * q = placed q ((2 * p + 0o400002 - 2 * v) % 0o200000) e in
    let small : (2 * i + 0o400002 - 2 * v) % 0o200000 ≤ 2 * length = inside in
    let close : v < 0o400 = short in
    let sum : 2 * start + (2 * i + 0o400002 - 2 * v) % 0o200000 ≡ 2 * q = omega arith in (
      (2 * i + 0o400002 - 2 * v) % 0o200000 / 2,
      omega arith,
      omega arith,
      place_is ((2 * i + 0o400002 - 2 * v) % 0o200000 / 2) ((2 * i + 0o400002 - 2 * v) % 0o200000) (omega arith),
    )
branch_leads None start length p i q short at fits inside e = absurd cc
branch_leads (Some (operands.General m r)) start length p i q short at fits inside e = absurd cc
branch_leads (Some (operands.Accumulator v)) start length p i q short at fits inside e = absurd cc
branch_leads (Some (operands.Register r)) start length p i q short at fits inside e = absurd cc
branch_leads (Some (operands.Number v)) start length p i q short at fits inside e = absurd cc

-- jumps and calls

-- an operand leads to a place of the program by a jump or a call; this is the place of its word
pub record GoesBy (operation : Operation) (place q : ℕ) (x : Option Operand) (word : Option ℕ) : Type 0 where
  pub jumps : jumps operation ≡ true
  pub way : Addressing
  pub mode : addressing_of x ≡ Some way
  pub direct : IsDirect way
  pub value : machine_value way (2 * place + 2) (number word) ≡ 2 * q

goes_by : (file : Contents) (operation : Operation) (place q : ℕ) (x : Option Operand) (word : Option ℕ) → 2 * q < 65536 →
    is_place q (jump (stripped file) operation place x word) ≡ true → GoesBy operation place q x word
goes_by file operation place q x word fits e = search rules

-- the operand word of an operand at a place of a text
word_is : (x : Option Operand) (n p w : ℕ) (ws g : List ℕ) → takes_word x ≡ true → drop p ws ≡ w ∷ g →
    word_for x n g ≡ slice_get ws (p + 1 + n)
word_is x n p w ws g takes e =
    ap (λ (t : Bool). if t then slice_get g n else None) takes
    ∙ ap (λ (xs : List ℕ). slice_get xs (suc n)) (sym e)
    ∙ get_from ws p (suc n)
    ∙ (let sum : p + suc n ≡ p + 1 + n = omega arith in ap (λ (m : ℕ). slice_get ws m) sum)

-- a jump of the program, and the same operand in the object
pub record JumpBy (file k : Contents) (start i q : ℕ) (instruction : Instruction) (own : List (Option ℕ)) : Type 0 where
  pub operand : Option Operand
  pub place : ℕ
  pub is : IsOperand instruction i operand place
  pub word : Option ℕ
  pub there : word ≡ slice_get file.text_words (start + place)
  pub goes : GoesBy instruction.row.operation (start + place) q operand word
  pub own_word : Option ℕ
  pub here : own_word ≡ slice_get k.text_words place
  pub led : (j : ℕ) → is_place j (jump k instruction.row.operation place operand own_word) ≡ true → list_any (is_place j) own ≡ true

module _ (file k : Contents) (start p i q w : ℕ) (f g : List ℕ) (instruction : Instruction) (at : p ≡ start + i) (fits : 2 * q < 65536)
    (here : drop i k.text_words ≡ w ∷ f) (there : drop p file.text_words ≡ w ∷ g) (own : List (Option ℕ)) where
  jump_by_operand : (x : Option Operand) (n : ℕ) → IsOperand instruction i x (i + 1 + n) →
      ((j : ℕ) → is_place j (jump k instruction.row.operation (i + 1 + n) x (word_for x n f)) ≡ true → list_any (is_place j) own ≡ true) →
      is_place q (jump (stripped file) instruction.row.operation (p + 1 + n) x (word_for x n g)) ≡ true →
      JumpBy file k start i q instruction own
  jump_by_operand x n is led e =
      let goes = goes_by file instruction.row.operation (p + 1 + n) q x (word_for x n g) fits e in
      let takes : takes_word x ≡ true = takes_its_word x goes.way goes.mode in
      let sum : p + 1 + n ≡ start + (i + 1 + n) = omega arith in
      search (rules, word_is)

module _ (file k : Contents) (start p i q w : ℕ) (f g : List ℕ) (instruction : Instruction) (at : p ≡ start + i) (fits : 2 * q < 65536)
    (inside : 2 * (start + length k.text_words) < 65536) (here : drop i k.text_words ≡ w ∷ f) (there : drop p file.text_words ≡ w ∷ g)
    (is : instruction_of w ≡ Some instruction)
    (whole : i + (1 + following_words instruction) ≤ length k.text_words)
    (first : IfSome (branch_of (2 * i) instruction.first) (λ a. a ≤ 2 * length k.text_words))
    (second : IfSome (branch_of (2 * i) instruction.second) (λ a. a ≤ 2 * length k.text_words)) where
  abbrev own : List (Option ℕ)
  own = leads_by Promise k i (Machine (decoded instruction f))

  abbrev operation : Operation
  operation = instruction.row.operation

  abbrev line_size : ℕ
  line_size = 1 + following_words instruction

  abbrev words_first : ℕ
  words_first = word_count_of instruction.first

  abbrev jump_first : Option ℕ
  jump_first = jump k operation (i + 1) instruction.first (word_for instruction.first 0 f)

  abbrev jump_second : Option ℕ
  jump_second = jump k operation (i + 1 + words_first) instruction.second (word_for instruction.second words_first f)

  abbrev jumps_after : ℕ → Bool
  jumps_after j = is_place j jump_first || (is_place j jump_second || false)

  abbrev after_next : ℕ → Bool
  after_next j =
      is_place j (branch_of (2 * i) instruction.first) || (is_place j (branch_of (2 * i) instruction.second) || jumps_after j)

  abbrev is_next : ℕ → Bool
  is_next j = is_place j (next_of Promise k i (Machine (decoded instruction f)))

  -- to the line after it
  next_leads : is_place q (if flows (stripped file) p instruction || false then Some (2 * (p + line_size)) else None) ≡ true →
      Within start (length k.text_words) q own
  next_leads e =
      let on = leads_on (flows (stripped file) p instruction || false) q (2 * (p + line_size)) e in
      let flow : flows k i instruction ≡ true =
      flows_more file k p i instruction (or-nothing (flows (stripped file) p instruction) on.0) in
      record {
        j = i + line_size;
        at = omega (arith, on.1);
        within = whole;
        led = search (rules, or_left, leads_on_back, decoded);
      }

  -- to the target of a branch
  branches_lead : (x : Option Operand) → IsShort x → IfSome (branch_of (2 * i) x) (λ a. a ≤ 2 * length k.text_words) →
      ((j : ℕ) → is_place j (branch_of (2 * i) x) ≡ true → list_any (is_place j) own ≡ true) → is_place q (branch_of (2 * p) x) ≡ true →
      Within start (length k.text_words) q own
  branches_lead x short low led e =
      let b = branch_leads x start (length k.text_words) p i q short at inside low e in
      record { j = b.0; at = b.1; within = b.2; led = λ below. led b.0 b.3 }

  abbrev JumpsBy : Type 0
  JumpsBy = JumpBy file k start i q instruction own

  first_jumps : is_place q (jump (stripped file) operation (p + 1) instruction.first (word_for instruction.first 0 g)) ≡ true → JumpsBy
  first_jumps e =
      let none : i + 1 ≡ i + 1 + 0 = omega arith in
      let none_too : p + 1 ≡ p + 1 + 0 = omega arith in
      jump_by_operand file k start p i q w f g instruction at fits here there own instruction.first 0 (inl (refl, sym none))
      (λ j h. or_right (is_next j) (after_next j) (or_right (is_place j (branch_of (2 * i) instruction.first))
      (is_place j (branch_of (2 * i) instruction.second) || jumps_after j)
      (or_right (is_place j (branch_of (2 * i) instruction.second)) (jumps_after j)
      (or_left (is_place j jump_first) (is_place j jump_second || false)
      (subst (λ (m : ℕ). is_place j (jump k operation m instruction.first (word_for instruction.first 0 f)) ≡ true) (sym none) h)))))
      (subst (λ (m : ℕ). is_place q (jump (stripped file) operation m instruction.first (word_for instruction.first 0 g)) ≡ true) none_too e)

  second_jumps : is_place q (jump (stripped file) operation (p + 1 + words_first) instruction.second
      (word_for instruction.second words_first g)) ≡ true → JumpsBy
  second_jumps e =
      jump_by_operand file k start p i q w f g instruction at fits here there own instruction.second words_first (inr (refl, refl))
      (λ j h. or_right (is_next j) (after_next j) (or_right (is_place j (branch_of (2 * i) instruction.first))
      (is_place j (branch_of (2 * i) instruction.second) || jumps_after j)
      (or_right (is_place j (branch_of (2 * i) instruction.second)) (jumps_after j)
      (or_right (is_place j jump_first) (is_place j jump_second || false)
      (or_left (is_place j jump_second) false h)))))
      e

  abbrev next : Bool
  next = is_place q (if flows (stripped file) p instruction || false then Some (2 * (p + line_size)) else None)

  pub instruction_leads : list_any (is_place q) (leads_by Names (stripped file) p (Machine (decoded instruction g))) ≡ true →
      Within start (length k.text_words) q own ⊎ JumpsBy
  instruction_leads e =
      let short = short_in (row_of w) w instruction is in
      search (rules, or_cases, next_leads, branches_lead, or_right, or_left, first_jumps, second_jumps, or-nothing)
