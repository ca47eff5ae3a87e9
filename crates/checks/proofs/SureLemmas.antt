-- If nothing is suspicious for sure, an instruction begins at each sure place, its branches are inside, and its pc bits suit its modes.
use Rattle.std.proofs.Common.{◌≡◌, ℕ, zero, suc, ◌+◌, ◌-◌, ◌*◌, ◌/◌, ◌<◌, ◌≤◌, Option, Some, None, refl, sym, ap, ◌∙◌, subst, inl, inr, rules}
use Rattle.std.proofs.{Common.arith, lemmas.Bool.{cases_lt, eqb-true, lt-ltb, le-ltb, ltb-false, or_cases, or_right, and_parts}}
use Rattle.std.specs.Prelude.{Bool, true, false, not, ◌&&◌, ◌||◌, eqb, nat_lt, if◌then◌else◌, List, [], ◌∷◌, ◌++◌, length, slice_get}
use Rattle.std.specs.{Prelude.slice_index, List.list_any}
use Rattle.aout_core.specs.{Contents.Contents, WellFormed.is_pc_relative}
use Rattle.instructions.specs.declared.operand.Operand.TheVariants.{General, Accumulator, Register, Forward, Backward, Number}
use Rattle.instructions.specs.{Modes.counts_from_pc, declared.operand.Operand.Operand}
use Rattle.instructions.specs.{declared.unix.Decoder.TheVariants.Unix, declared.unix.UnixLine.UnixLine}
use Rattle.instructions.specs.{Instructions.{instruction_of, word_count_of}, UnixLines.{unix_length, unix_line_at}}
use Rattle.instructions.specs.{declared.instruction.Instruction.Instruction, declared.line.Line.TheVariants.{Plain, Decoded}}
use Rattle.instructions.specs.{declared.unix.UnixLine.TheVariants.{Machine, Call}, Relocated.is_relocated}
use Rattle.instructions.proofs.UnixLemmas.{unix_short}
use Rattle.disassemblies.specs.{Lines.unix_line_in, Starts.starts, Starts.is_start}
use Rattle.checks.specs.Found.{Found}
use Rattle.checks.specs.declared.finding.FindingKind.TheVariants.{RelocatedFirstWord, UnsuitablePcBit, BranchOutside}
use Rattle.checks.specs.Trust.{has_word_at, enters, entered_by, entered, overlaps, is_sure, trust}
use Rattle.checks.specs.Branches.{of_lines, word_place, suspicious_entry, suspicious_branch}
use Rattle.checks.specs.Suspicions.{reloc_place, may_begin, is_exchanged, differ, is_immediate}
use Rattle.checks.specs.Suspicions.{suspicious_lack, suspicious_operand, suspicious_line, suspicious_at, suspicious_place}
use Rattle.checks.specs.Uses.{suspicious_uses}
use Rattle.checks.specs.SureLaw.{NoneIsSure, targets, is_whole, IsInside, AreInside, SureLaw, SuitsMode, SuitsModes, SureWordsLaw}
use Rattle.checks.specs.{Suspicions.{suspicious_words, suspicions}, Addresses.suspicious_addresses, Referents.suspicious_references}
use Rattle.checks.specs.{declared.evidence.Evidence.Evidence, declared.evidence.Evidence.TheVariants.{Names, Promise}}
use Rattle.checks.specs.{declared.trust.Trust.Trust, Reached.{branch_of, is_promised, is_reached}, ReachedLaw.{IsReached, Evident, Led}}
use Rattle.checks.proofs.ReachLemmas.{reached_law}

quiet_parts : (xs ys : List Found) → NoneIsSure (xs ++ ys) → NoneIsSure xs × NoneIsSure ys
quiet_parts [] ys q = (tt, q)
quiet_parts (x ∷ xs) ys q = let parts = quiet_parts xs ys q.1 in ((q.0, parts.0), parts.1)

-- a finding that is sure is not quiet
loud : (x : Found) (xs : List Found) → x.is_sure ≡ true → NoneIsSure (x ∷ xs) → ⊥
loud x xs s q = let no : x.is_sure ≡ false = q.0 in absurd cc

-- nothing is suspicious for sure at a place of these words, which begin at another one
place_quiet : (e : Evidence) (c : Contents) (words : List ℕ) (place p i : ℕ) → i < length words → p ≡ place + i →
    NoneIsSure (suspicious_words e c place words) → NoneIsSure (suspicious_place e c p)
place_quiet e c [] place p i h is q = absurd (omega arith)
place_quiet e c (w ∷ ws) place p zero h is q =
    let same : place ≡ p = omega arith in
    subst (λ (k : ℕ). NoneIsSure (suspicious_place e c k)) same
    (quiet_parts (suspicious_place e c place) (suspicious_words e c (place + 1) ws) q).0
place_quiet e c (w ∷ ws) place p (suc i) h is q =
    place_quiet e c ws (place + 1) p i (omega arith) (omega arith)
    (quiet_parts (suspicious_place e c place) (suspicious_words e c (place + 1) ws) q).1

looked_at : (reached begins : Bool) (xs : List Found) → reached ≡ true → NoneIsSure (if reached || begins then xs else []) → NoneIsSure xs
looked_at reached begins xs r q = search rules

lack_is_reported : (sure : Bool) (place : ℕ) (o : Option Instruction) → sure ≡ true → NoneIsSure (suspicious_lack sure place o) → ⊥
lack_is_reported sure place o s q = search (rules, loud)

-- a plain word at a sure place is suspicious
plain_is_reported : (moves reached begins : Bool) (first : Found) (lack : List Found) → reached ≡ true → first.is_sure ≡ true →
    (NoneIsSure lack → ⊥) →
    NoneIsSure (if moves then (if reached || begins then first ∷ [] else []) else (if reached then lack else [])) → ⊥
plain_is_reported moves reached begins first lack r s l q = search (rules, loud)

-- no line that was looked at has the word
none_enters : (v : Evidence) (c : Contents) (place : ℕ) (backs : List ℕ) → entered_by v c place backs ≡ None → (back : ℕ) →
    list_any (eqb back) backs ≡ true → enters v c place back ≡ false
none_enters v c place [] e back h = absurd cc
none_enters v c place (b ∷ bs) e back h = by (enters v c place b) refl e (λ n m. none_enters v c place bs n back m)
  where
    by : (t : Bool) → enters v c place b ≡ t → (if t then Some (place - b) else entered_by v c place bs) ≡ None →
        (entered_by v c place bs ≡ None → list_any (eqb back) bs ≡ true → enters v c place back ≡ false) → enters v c place back ≡ false
    by true is n later = absurd cc
    by false is n later = elim (or_cases (eqb back b) (list_any (eqb back) bs) h) [
      | inl same ↦ ap (enters v c place) (eqb-true back b same) ∙ is
      | inr more ↦ later n more
    ]

is_back : (back : ℕ) → 0 < back → back < 5 → list_any (eqb back) (1 ∷ 2 ∷ 3 ∷ 4 ∷ []) ≡ true
is_back back h k = search (rules, arith)

short_by : (moves : Bool) (w : ℕ) (line : UnixLine) → unix_length line ≤ 5 → unix_length (if moves then Machine (Plain w) else line) ≤ 5
short_by moves w line h = search rules

line_short : (c : Contents) (place : ℕ) → unix_length (unix_line_in Unix c place) ≤ 5
line_short c place =
    short_by (is_relocated (slice_get c.text_reloc place)) (slice_index c.text_words place) (unix_line_at Unix c.text_words place)
    (unix_short Unix c.text_words place).1

pub place_below : (v : Evidence) (c : Contents) (place : ℕ) → IsReached v c place → place < length c.text_words
place_below v c p (Evident place below led) = below
place_below v c p (Led from place r below led) = below

all_hold : (a b s l : Bool) → a ≡ false → b ≡ true → s ≡ true → l ≡ true → (not a && (b && (s && l))) ≡ false → ⊥
all_hold a b s l e f g h n = search rules

-- each reached line before a place ends before it, if none is found that has its word
ends_before : (v : Evidence) (c : Contents) (place : ℕ) → entered v c place ≡ None → (start : ℕ) → IsReached v c start → start < place →
    start + unix_length (unix_line_in Unix c start) ≤ place
ends_before v c place none start r before = elim (cases_lt place (start + unix_length (unix_line_in Unix c start))) [
  | inr e ↦ e
  | inl h ↦
      let short : unix_length (unix_line_in Unix c start) ≤ 5 = line_short c start in
      let back : ℕ = place - start in
      let same : place - back ≡ start = omega arith in
      let out : enters v c place back ≡ false =
      none_enters v c place (1 ∷ 2 ∷ 3 ∷ 4 ∷ []) none back (is_back back (omega arith) (omega arith)) in
      let there : (not (nat_lt place back) && has_word_at v c start back) ≡ false =
      sym (ap (λ (k : ℕ). not (nat_lt place back) && has_word_at v c k back) same) ∙ out in
      absurd (all_hold (nat_lt place back) (nat_lt start (length c.text_words)) (is_reached v c start)
      (nat_lt back (unix_length (unix_line_in Unix c start)))
      (le-ltb place back (omega arith)) (lt-ltb start (length c.text_words) (place_below v c start r))
      ((reached_law v c start).1 r)
      (lt-ltb back (unix_length (unix_line_in Unix c start)) (omega arith)) there)
]

entry_none : (t : Trust) (place : ℕ) (o : Option ℕ) → t.is_sure ≡ true →
    NoneIsSure (suspicious_entry Promise t place o) → o ≡ None
entry_none t place o s q = search rules

-- what is reported of a branch out of the text
abbrev outside : Trust → ℕ → Found
outside t place =
    record { place = word_place place; kind = BranchOutside; is_sure = t.is_sure }

-- and of a relocated word at a place
abbrev first_word : Contents → Trust → ℕ → Found
first_word c t place =
    record { place = reloc_place c place; kind = RelocatedFirstWord; is_sure = t.is_sure || is_exchanged c place }

-- nothing sure is reported of a branch that is looked at
quiet : (out reached : Bool) (x : Found) (xs : List Found) → reached ≡ true → x.is_sure ≡ true →
    NoneIsSure (if reached then (if out then x ∷ [] else xs) else []) → (out ≡ false) × NoneIsSure xs
quiet out reached x xs r s q = search (rules, loud)

branch_inside : (e : Evidence) (c : Contents) (t : Trust) (place : ℕ) (o : Option ℕ) → t.is_sure ≡ true → t.is_reached ≡ true →
    NoneIsSure (suspicious_branch (of_lines e) c t place o) → IsInside e c o
branch_inside e c t place None s r q = tt
branch_inside e c t place (Some target) s r q =
    let size : ℕ = 2 * length c.text_words in
    let entry : List Found = suspicious_entry (of_lines e) t place (entered (of_lines e) c (target / 2)) in
    let parts : (nat_lt size target ≡ false) × NoneIsSure entry =
    quiet (nat_lt size target) t.is_reached (outside t place) entry r s q in (
      ltb-false size target parts.0,
      λ is.
          let none : NoneIsSure (suspicious_entry Promise t place (entered Promise c (target / 2))) =
          subst (λ (v : Evidence). NoneIsSure (suspicious_entry (of_lines v) t place (entered (of_lines v) c (target / 2)))) is
          parts.1 in
          ends_before Promise c (target / 2) (entry_none t place (entered Promise c (target / 2)) s none),
    )

line_inside : (e : Evidence) (c : Contents) (t : Trust) (place : ℕ) (line : UnixLine) → t.is_sure ≡ true → t.is_reached ≡ true →
    NoneIsSure (suspicious_line (of_lines e) c t place line) → (is_whole line ≡ true) × AreInside e c (targets place line)
line_inside e c t place (Machine (Plain w)) s r q =
    absurd (plain_is_reported (is_relocated (slice_get c.text_reloc place)) t.is_reached (may_begin c place)
    (first_word c t place) (suspicious_lack t.is_sure place (instruction_of w)) r (ap (λ (b : Bool). b || is_exchanged c place) s)
    (lack_is_reported t.is_sure place (instruction_of w) s) q)
line_inside e c t place (Machine (Decoded i a b)) s r q =
    let operands : List Found =
    suspicious_operand c t.is_sure (place + 1) i.first
    ++ suspicious_operand c t.is_sure (place + 1 + word_count_of i.first) i.second in
    let first : List Found = suspicious_branch (of_lines e) c t place (branch_of (2 * place) i.first) in
    let second : List Found = suspicious_branch (of_lines e) c t place (branch_of (2 * place) i.second) in
    let both : NoneIsSure first × NoneIsSure second = quiet_parts first second (quiet_parts operands (first ++ second) q).1 in (
      refl,
      (
        branch_inside e c t place (branch_of (2 * place) i.first) s r both.0,
        (branch_inside e c t place (branch_of (2 * place) i.second) s r both.1, tt),
      ),
    )
line_inside e c t place (Call k) s r q = (refl, tt)

pub sure_below : (e : Evidence) (c : Contents) (place : ℕ) → is_sure e c place ≡ true → place < length c.text_words
sure_below e c place s =
    place_below e c place
    ((reached_law e c place).0 (and_parts (is_reached e c place) (is_promised e || not (overlaps e c place)) s).0)

-- what is known of a sure place
record IsQuiet (e : Evidence) (c : Contents) (place : ℕ) : Type 0 where
  reached : (trust e c place).is_reached ≡ true
  none : NoneIsSure (suspicious_line (of_lines e) c (trust e c place) place (unix_line_in Unix c place))

quiet_at : (e : Evidence) (c : Contents) (place : ℕ) → NoneIsSure (suspicions e c) → is_sure e c place ≡ true → IsQuiet e c place
quiet_at e c place none s =
    let reached : (trust e c place).is_reached ≡ true = or_right (is_reached Names c place) (is_sure e c place) s in
    record {
      reached = reached;
      none =
          (quiet_parts (suspicious_line (of_lines e) c (trust e c place) place (unix_line_in Unix c place))
          (suspicious_references (of_lines e) c (trust e c place) place (unix_line_in Unix c place)
          ++ suspicious_uses c (trust e c place) place (unix_line_in Unix c place))
          (looked_at (trust e c place).is_reached (is_start (starts Unix c) place) (suspicious_at (of_lines e) c (trust e c place) place)
          reached (place_quiet e c c.text_words 0 place place (sure_below e c place s) (omega arith)
          (quiet_parts (suspicious_words e c 0 c.text_words) (suspicious_addresses e c) none).0))).0;
    }

pub sure_places : SureLaw
sure_places e c none place s =
    let q = quiet_at e c place none s in line_inside e c (trust e c place) place (unix_line_in Unix c place) s q.reached q.none

-- the words of a sure place

-- a relocated word there is reported
moved_is_reported : (moves reached begins : Bool) (first : Found) (others : List Found) → moves ≡ true → reached ≡ true →
    first.is_sure ≡ true → NoneIsSure (if moves then (if reached || begins then first ∷ [] else []) else others) → ⊥
moved_is_reported moves reached begins first others m r s q = search (rules, loud)

not_moved : (v : Evidence) (c : Contents) (t : Trust) (place : ℕ) (b : Bool) → is_relocated (slice_get c.text_reloc place) ≡ b →
    t.is_sure ≡ true → t.is_reached ≡ true →
    NoneIsSure (suspicious_line v c t place
    (if b then Machine (Plain (slice_index c.text_words place)) else unix_line_at Unix c.text_words place)) → b ≡ false
not_moved v c t place false is s r q = refl
not_moved v c t place true is s r q =
    let w : ℕ = slice_index c.text_words place in
    let lack : List Found = if t.is_reached then suspicious_lack t.is_sure place (instruction_of w) else [] in
    absurd (moved_is_reported (is_relocated (slice_get c.text_reloc place)) t.is_reached (may_begin c place) (first_word c t place) lack
    is r (ap (λ (b : Bool). b || is_exchanged c place) s) q)

agree : (moves p q : Bool) (f : Found) → moves ≡ true → f.is_sure ≡ true → NoneIsSure (if moves && differ p q then f ∷ [] else []) → p ≡ q
agree moves p q f m s n = search (rules, loud)

-- what is reported of an operand word
abbrev bit_found : Contents → Bool → ℕ → Found
bit_found c is_sure place = record {
  place = reloc_place c place;
  kind = UnsuitablePcBit;
  is_sure = is_sure;
}

sure_bit : (s m : Bool) → s ≡ true → m ≡ false → (s && not m) ≡ true
sure_bit s m is other = search rules

suits : (c : Contents) (sure : Bool) (place : ℕ) (x : Option Operand) → sure ≡ true →
    NoneIsSure (suspicious_operand c sure place x) → SuitsMode c place x
suits c sure place None s q = tt
suits c sure place (Some (General m register)) s q =
    λ a r way there moved other.
    let none = rw (way, there) at q in
    agree (is_relocated (Some r)) (is_pc_relative r) (counts_from_pc a) (bit_found c (sure && not (is_immediate a)) place) moved
    (sure_bit sure (is_immediate a) s other) none
suits c sure place (Some (Accumulator v)) s q = tt
suits c sure place (Some (Register r)) s q = tt
suits c sure place (Some (Forward v)) s q = tt
suits c sure place (Some (Backward v)) s q = tt
suits c sure place (Some (Number v)) s q = tt

suits_line : (v : Evidence) (c : Contents) (t : Trust) (place : ℕ) (line : UnixLine) → t.is_sure ≡ true →
    NoneIsSure (suspicious_line v c t place line) → SuitsModes c place line
suits_line v c t place (Machine (Plain w)) s q = tt
suits_line v c t place (Machine (Decoded i a b)) s q =
    let first : List Found = suspicious_operand c t.is_sure (place + 1) i.first in
    let second : List Found = suspicious_operand c t.is_sure (place + 1 + word_count_of i.first) i.second in
    let branches : List Found =
    suspicious_branch v c t place (branch_of (2 * place) i.first) ++ suspicious_branch v c t place (branch_of (2 * place) i.second) in
    let both : NoneIsSure first × NoneIsSure second = quiet_parts first second (quiet_parts (first ++ second) branches q).0 in (
      suits c t.is_sure (place + 1) i.first s both.0,
      suits c t.is_sure (place + 1 + word_count_of i.first) i.second s both.1,
    )
suits_line v c t place (Call k) s q = tt

pub sure_words : SureWordsLaw
sure_words e c none place s =
    let t : Trust = trust e c place in
    let q = quiet_at e c place none s in (
      not_moved (of_lines e) c t place (is_relocated (slice_get c.text_reloc place)) refl s q.reached q.none,
      suits_line (of_lines e) c t place (unix_line_in Unix c place) s q.none,
    )
