-- What holds of each row of the table of calls.
use Rattle.std.proofs.Common.{◌≡◌, ℕ, ◌≤◌, ◌<◌, ◌/◌, Bool, true, false, ◌&&◌, eqb, nat_lt, Option, Some, None, List, [], ◌∷◌}
use Rattle.std.proofs.{Common.{refl, subst, cond, arith}, lemmas.Bool.Decides.{Decides-eqb, nat_tests}, lemmas.Bool.and_parts}
use Rattle.std.specs.{Prelude.IfSome, List.find}
use Rattle.instructions.specs.{declared.call_table.CallRow.CallRow, declared.unix.Decoder.Decoder, declared.call_table.TheConstants.CALLS}
use Rattle.instructions.specs.{Calls.system_calls, Rows.begins, Rows.row_of, UnixLines.call_word, UnixLines.call_of}
use Rattle.instructions.specs.{UnixLines.call_by, UnixLaws.AreMadeBySys, internal.CallSearch.call_in}
use Rattle.instructions.specs.declared.unix.Decoder.TheVariants as decoders

abbrev pub SoundCall : CallRow → Type 0
SoundCall c = c.words ≤ 4

abbrev Each : List CallRow → Type 0
Each [] = Unit {0}
Each (c ∷ calls) = SoundCall c × Each calls

each_sound : Each system_calls
each_sound = (omega arith, (omega arith, (omega arith, (omega arith, (omega arith, (omega arith, (omega arith, (omega arith, (omega arith, (omega arith, (omega arith, (omega arith, (omega arith, (omega arith, (omega arith, (omega arith, (omega arith, (omega arith, (omega arith, (omega arith, (omega arith, (omega arith, (omega arith, (omega arith, (omega arith, (omega arith, (omega arith, (omega arith, (omega arith, (omega arith, (omega arith, (omega arith, (omega arith, (omega arith, (omega arith, (omega arith, (omega arith, (omega arith, (omega arith, (omega arith, (omega arith, (omega arith, (omega arith, (omega arith, (omega arith, (omega arith, (omega arith, (omega arith, (omega arith, (omega arith, (omega arith, (omega arith, (omega arith, tt)))))))))))))))))))))))))))))))))))))))))))))))))))))

sound_at : (c d : CallRow) (b : Bool) (rest : Option CallRow) → SoundCall c → (rest ≡ Some d → SoundCall d) →
    cond b (Some c) rest ≡ Some d → SoundCall d
sound_at c d true rest s later e = let same : c ≡ d = cc in subst SoundCall same s
sound_at c d false rest s later e = later e

sound_found : (p : CallRow → Bool) (calls : List CallRow) (d : CallRow) → Each calls → find p calls ≡ Some d → SoundCall d
sound_found p [] d s e = absurd cc
sound_found p (c ∷ calls) d s e = sound_at c d (p c) (find p calls) s.0 (sound_found p calls d s.1) e

word_at : (w : ℕ) (c d : CallRow) (b : Bool) (rest : Option CallRow) → eqb (call_word c) w ≡ b → (rest ≡ Some d → call_word d ≡ w) →
    cond b (Some c) rest ≡ Some d → call_word d ≡ w
word_at w c d true rest t later e =
    let same : c ≡ d = cc in subst (λ (x : CallRow). call_word x ≡ w) same ((Decides-eqb (call_word c) w).0 t)
word_at w c d false rest t later e = later e

word_found : (w : ℕ) (calls : List CallRow) (d : CallRow) → find (λ c. eqb (call_word c) w) calls ≡ Some d → call_word d ≡ w
word_found w [] d e = absurd cc
word_found w (c ∷ calls) d e = word_at w c d (eqb (call_word c) w) (find (λ c. eqb (call_word c) w) calls) refl (word_found w calls d) e

-- the call that a decoder finds is one of the table, and has the word
pub call_sound : (d : Decoder) (w : ℕ) (c : CallRow) → call_by d w ≡ Some c → SoundCall c
unfolding call_of
call_sound decoders.Pdp11 w c e = absurd cc
call_sound decoders.Unix w c e = sound_found (λ c. eqb (call_word c) w) system_calls c each_sound e

pub call_has_word : (d : Decoder) (w : ℕ) (c : CallRow) → call_by d w ≡ Some c → call_word c ≡ w
unfolding call_of
call_has_word decoders.Pdp11 w c e = absurd cc
call_has_word decoders.Unix w c e = word_found w system_calls c e

small_by : (w : ℕ) (o : Option CallRow) → call_of w ≡ o → IfSome o (λ c. c.words ≤ 4)
small_by w None e = tt
small_by w (Some c) e = call_sound decoders.Unix w c e

pub call_small : (w : ℕ) → IfSome (call_of w) (λ c. c.words ≤ 4)
call_small w = small_by w (call_of w) refl

-- a call that is found in the table of the code is found in the definition's
pub calls_found : (w : ℕ) (o : Option CallRow) → o ≡ call_in CALLS w → o ≡ call_of w
unfolding call_of
calls_found w o e = e

-- each call is made by a word whose high byte is that of the first
abbrev are_low : List CallRow → Bool
are_low [] = true
are_low (c ∷ calls) = nat_lt c.number 256 && are_low calls

other_by : (w : ℕ) (c : CallRow) (rest : Option CallRow) (b : Bool) → eqb (call_word c) w ≡ b → (w / 256 ≡ 137 → ⊥) → c.number < 256 →
    rest ≡ None → cond b (Some c) rest ≡ None
other_by w c rest true t other low none =
    let same : call_word c ≡ w = (Decides-eqb (call_word c) w).0 t in
    let high : w / 256 ≡ 137 = omega (arith, same, low) in
    absurd (other high)
other_by w c rest false t other low none = none

other_found : (w : ℕ) (calls : List CallRow) → are_low calls ≡ true → (w / 256 ≡ 137 → ⊥) → find (λ c. eqb (call_word c) w) calls ≡ None
other_found w [] h other = refl
other_found w (c ∷ calls) h other =
    let parts = and_parts (nat_lt c.number 256) (are_low calls) h in
    let low : c.number < 256 = grind (arith, nat_tests) in
    other_by w c (find (λ c. eqb (call_word c) w) calls) (eqb (call_word c) w) refl other low (other_found w calls parts.1 other)

-- a word with another high byte makes none
pub no_call : (w : ℕ) → (w / 256 ≡ 137 → ⊥) → call_of w ≡ None
unfolding call_of
no_call w other = other_found w system_calls refl other

pub each_made_by_sys : AreMadeBySys system_calls
unfolding row_of begins
each_made_by_sys = refl
