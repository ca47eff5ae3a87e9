-- Where a line of a program leads, beside that of an object with the same first word.
use Rattle.std.proofs.Common.{◌≡◌, ℕ, zero, suc, ◌+◌, ◌≤◌, Bool, true, false, nat_lt}
use Rattle.std.proofs.Common.{if◌then◌else◌, List, [], ◌∷◌, length, drop, Option, Some, None, refl, sym, ◌∙◌, ap, subst, arith}
use Rattle.std.proofs.lemmas.Bool.{le-ltb, ltb-false}
use Rattle.std.specs.Prelude.{slice_get, slice_index}
use Rattle.aout_core.specs.{Contents.Contents, Strip.stripped}
use Rattle.instructions.specs.{declared.instruction.Instruction.Instruction, declared.call_table.CallRow.CallRow, declared.line.Line.Line}
use Rattle.instructions.specs.{declared.line.Line.TheVariants.Plain, declared.unix.Decoder.TheVariants.Unix}
use Rattle.instructions.specs.{Instructions.{instruction_of, instruction, following_words}, Alike.is_cut, Lines.{line_of, line_at}}
use Rattle.instructions.specs.UnixLines.{call_by, unix_line}
use Rattle.instructions.specs.{declared.unix.UnixLine.TheVariants.{Machine, Call}, Relocated.is_relocated}
use Rattle.disassemblies.specs.Lines.{unix_line_in}
use Rattle.checks.specs.SureLaw.{is_whole}
use Rattle.laws.proofs.ReachedInstructionLemmas.{at_head, call_made, word_at, line_there, decoded, decoded_by}

-- a line that is whole is not cut

machine_whole : (o : Option Instruction) (w : ℕ) (f : List ℕ) → instruction_of w ≡ o → is_whole (Machine (line_of o w f)) ≡ true →
    is_cut o f ≡ false
machine_whole None w f e h = refl
machine_whole (Some i) w f e h = by (nat_lt (length f) (following_words i)) h
  where
    by : (t : Bool) → is_whole (Machine (if t then Plain w else decoded i f)) ≡ true → t ≡ false
    by true h = absurd cc
    by false h = refl

made_whole : (w : ℕ) (c : CallRow) (f : List ℕ) → call_by Unix w ≡ Some c → is_cut (instruction_of w) f ≡ false
made_whole w c f e = ap (λ (o : Option Instruction). is_cut o f) (call_made w c e) ∙ le-ltb (length f) 0 (omega arith)

-- a call that is whole has its words
call_whole : (c : CallRow) (n v : ℕ) → is_whole (if nat_lt n c.words then Machine (Plain v) else Call c) ≡ true →
    nat_lt n c.words ≡ false
call_whole c n v h = by (nat_lt n c.words) h
  where
    by : (t : Bool) → is_whole (if t then Machine (Plain v) else Call c) ≡ true → t ≡ false
    by true h = absurd cc
    by false h = refl

rest_at : (ws : List ℕ) (i w : ℕ) (f : List ℕ) → drop i ws ≡ w ∷ f → drop (suc i) ws ≡ f
rest_at [] zero w f e = absurd cc
rest_at [] (suc i) w f e = absurd cc
rest_at (v ∷ ws) zero w f e = cc
rest_at (v ∷ ws) (suc i) w f e = rest_at ws i w f e

next_at : (ws : List ℕ) (i w : ℕ) (f : List ℕ) → drop i ws ≡ w ∷ f → drop (i + 1) ws ≡ f
next_at ws i w f e = let n : i + 1 ≡ suc i = omega arith in ap (λ (m : ℕ). drop m ws) n ∙ rest_at ws i w f e

-- the line of a call at a place, if enough words follow it
call_line : (ws : List ℕ) (i w : ℕ) (f : List ℕ) (c : CallRow) → drop i ws ≡ w ∷ f → nat_lt (length f) c.words ≡ false →
    unix_line (Some c) ws i ≡ Call c
call_line ws i w f c e enough =
    by (nat_lt (length (drop (i + 1) ws)) c.words) (ap (λ (xs : List ℕ). nat_lt (length xs) c.words) (next_at ws i w f e) ∙ enough)
  where
    by : (t : Bool) → t ≡ false → (if t then Machine (Plain (slice_index ws i)) else Call c) ≡ Call c
    by true e = absurd cc
    by false e = refl

more_words : (few many words : ℕ) → few ≤ many → nat_lt few words ≡ false → nat_lt many words ≡ false
more_words few many words h e = let a = ltb-false few words e in le-ltb many words (omega arith)

uncut_more : (o : Option Instruction) (f g : List ℕ) → is_cut o f ≡ false → length f ≤ length g → is_cut o g ≡ false
uncut_more None f g e h = refl
uncut_more (Some i) f g e h = more_words (length f) (length g) (following_words i) h e

-- what is at a place of an object, and at its place in a program
pub data Lines (file k : Contents) (p i : ℕ) : Type 0 where
  Calls : (c : CallRow) → c.words ≤ length (drop (i + 1) k.text_words) → unix_line_in Unix k i ≡ Call c →
      unix_line_in Unix (stripped file) p ≡ Call c → Lines file k p i
  Instructs : (instruction : Instruction) (w : ℕ) (f g : List ℕ) → instruction_of w ≡ Some instruction →
      is_cut (instruction_of w) f ≡ false →
      drop i k.text_words ≡ w ∷ f → drop p file.text_words ≡ w ∷ g → unix_line_in Unix k i ≡ Machine (decoded instruction f) →
      unix_line_in Unix (stripped file) p ≡ Machine (decoded instruction g) → Lines file k p i
  Ends : (w : ℕ) → unix_line_in Unix (stripped file) p ≡ Machine (Plain w) → Lines file k p i

-- by its whole line, no instruction at a place of the object is cut
pub whole_at : (k : Contents) (i w : ℕ) (f : List ℕ) → drop i k.text_words ≡ w ∷ f → is_relocated (slice_get k.text_reloc i) ≡ false →
    is_whole (unix_line_in Unix k i) ≡ true → is_cut (instruction_of w) f ≡ false
whole_at k i w f here still whole =
    by (call_by Unix w) refl (subst (λ (v : ℕ). is_whole (unix_line (call_by Unix v) k.text_words i) ≡ true) (word_at k.text_words i w f here)
    (ap is_whole (sym (line_there k i still)) ∙ whole))
  where
    by : (o : Option CallRow) → call_by Unix w ≡ o → is_whole (unix_line o k.text_words i) ≡ true → is_cut (instruction_of w) f ≡ false
    by None e h =
        machine_whole (instruction_of w) w f refl (ap (λ (l : Line). is_whole (Machine l)) (sym (at_head k.text_words i w f here)) ∙ h)
    by (Some c) e h = made_whole w c f e

pub lines_at : (file k : Contents) (p i w : ℕ) (f g : List ℕ) → drop i k.text_words ≡ w ∷ f → drop p file.text_words ≡ w ∷ g →
    length f ≤ length g → is_relocated (slice_get k.text_reloc i) ≡ false → is_whole (unix_line_in Unix k i) ≡ true → Lines file k p i
lines_at file k p i w f g here there more still whole = by (call_by Unix w) refl object program
  where
    object : unix_line_in Unix k i ≡ unix_line (call_by Unix w) k.text_words i
    object = cc (line_there k i still, word_at k.text_words i w f here)

    program : unix_line_in Unix (stripped file) p ≡ unix_line (call_by Unix w) file.text_words p
    program = ap (λ (v : ℕ). unix_line (call_by Unix v) file.text_words p) (word_at file.text_words p w g there)

    uncut : is_cut (instruction_of w) f ≡ false
    uncut = whole_at k i w f here still whole

    machine : (o : Option Instruction) → instruction_of w ≡ o → unix_line_in Unix k i ≡ Machine (line_at k.text_words i) →
        unix_line_in Unix (stripped file) p ≡ Machine (line_at file.text_words p) → Lines file k p i
    machine None e a b =
        Ends w (b ∙ ap (λ (l : Line). Machine l) (at_head file.text_words p w g there ∙ ap (λ (o : Option Instruction). line_of o w g) e))
    machine (Some instruction) e a b =
        Instructs instruction w f g e uncut here there
        (a ∙ ap (λ (l : Line). Machine l) (at_head k.text_words i w f here ∙ decoded_by (instruction_of w) w f instruction e uncut))
        (b ∙ ap (λ (l : Line). Machine l) (at_head file.text_words p w g there
        ∙ decoded_by (instruction_of w) w g instruction e (uncut_more (instruction_of w) f g uncut more)))

    by : (o : Option CallRow) → call_by Unix w ≡ o → unix_line_in Unix k i ≡ unix_line o k.text_words i →
        unix_line_in Unix (stripped file) p ≡ unix_line o file.text_words p → Lines file k p i
    by None e a b = machine (instruction_of w) refl a b
    by (Some c) e a b =
        let n : nat_lt (length (drop (i + 1) k.text_words)) c.words ≡ false =
        call_whole c (length (drop (i + 1) k.text_words)) (slice_index k.text_words i) (ap is_whole (sym a) ∙ whole) in
        let enough : nat_lt (length f) c.words ≡ false =
        ap (λ (xs : List ℕ). nat_lt (length xs) c.words) (sym (next_at k.text_words i w f here)) ∙ n in
        Calls c (ltb-false (length (drop (i + 1) k.text_words)) c.words n) (a ∙ call_line k.text_words i w f c here enough)
        (b ∙ call_line file.text_words p w g c there (more_words (length f) (length g) c.words more enough))
