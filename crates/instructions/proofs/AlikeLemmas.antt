-- The lines of two texts that differ at most in words that move, and of texts one after the other.
use Rattle.std.proofs.Common.{◌≡◌, ℕ, zero, suc, ◌+◌, ◌-◌, ◌<◌, ◌≤◌, Bool, true, false, nat_lt, if◌then◌else◌, Option, Some, None, List, []}
use Rattle.std.proofs.Common.{◌∷◌, ◌++◌, length, take, drop, slice_get, refl, sym, ap, subst, ◌∙◌, arith, get_or, drop-drop}
use Rattle.std.proofs.{lemmas.Bool.Decides.nat_tests, lemmas.List.{length-drop, take_rest}, lemmas.Option.slice_get-get_or}
use Rattle.instructions.specs.Instructions.{instruction_of, word_count_of, following_words}
use Rattle.instructions.specs.Lines.{word_for, line_of, line_at, line_length, lines_within, lines}
use Rattle.instructions.specs.{Alike.{AlikeWords, AlikeLine, AlikeLines, is_cut, AreWhole}, declared.instruction.Instruction.Instruction}
use Rattle.instructions.specs.{declared.line.Line.Line, declared.line.Line.TheVariants.{Plain, Decoded}, Operands.takes_word}
use Rattle.instructions.proofs.LineLemmas.{length_from, line_within}

-- the bound on the number of lines does not matter if it is no less than that of the words
pub lines_enough : (n m : ℕ) (ws : List ℕ) → length ws ≤ n → length ws ≤ m → lines_within n ws ≡ lines_within m ws
lines_enough zero zero ws h k = refl
lines_enough zero (suc m) [] h k = refl
lines_enough zero (suc m) (w ∷ f) h k = absurd (omega arith)
lines_enough (suc n) zero [] h k = refl
lines_enough (suc n) zero (w ∷ f) h k = absurd (omega arith)
lines_enough (suc n) (suc m) [] h k = refl
lines_enough (suc n) (suc m) (w ∷ f) h k =
    let line : Line = line_of (instruction_of w) w f in
    let some : 1 ≤ line_length line = (length_from line).0 in
    let rest : List ℕ = drop (line_length line) (w ∷ f) in
    let fewer : length rest ≤ length f = omega (arith, length-drop (line_length line) (w ∷ f)) in
    ap (λ l. line ∷ l) (lines_enough n m rest (omega arith) (omega arith))

-- the first line, and the lines of the words after it
pub lines_first : (w : ℕ) (f : List ℕ) →
    lines (w ∷ f) ≡ line_of (instruction_of w) w f ∷ lines (drop (line_length (line_of (instruction_of w) w f)) (w ∷ f))
lines_first w f =
    let line : Line = line_of (instruction_of w) w f in
    let some : 1 ≤ line_length line = (length_from line).0 in
    let rest : List ℕ = drop (line_length line) (w ∷ f) in
    let fewer : length rest ≤ length f = omega (arith, length-drop (line_length line) (w ∷ f)) in
    ap (λ l. line ∷ l) (lines_enough (length f) (length rest) rest fewer (omega arith))

-- the same of a list that is not empty, and of what is left of it
pub lines_some : (words : List ℕ) (k : ℕ) → 0 < length words → k ≡ line_length (line_at words 0) →
    lines words ≡ line_at words 0 ∷ lines (take (length words - k) (drop k words))
lines_some [] k h e = absurd (omega arith)
lines_some (w ∷ f) k h e =
    let all : take (length (w ∷ f) - k) (drop k (w ∷ f)) ≡ drop k (w ∷ f) = take_rest (w ∷ f) k in
    lines_first w f ∙ ap (λ n. line_of (instruction_of w) w f ∷ lines (drop n (w ∷ f))) (sym e)
    ∙ ap (λ l. line_of (instruction_of w) w f ∷ lines l) (sym all)

pub get_inside : (xs : List ℕ) (k : ℕ) → k < length xs → (x : ℕ) × (slice_get xs k ≡ Some x)
get_inside xs k h = (get_or xs k 0, slice_get-get_or xs k 0 h)

pub get_from : (xs : List ℕ) (k i : ℕ) → slice_get (drop k xs) i ≡ slice_get xs (k + i)
get_from xs zero i = let e : i ≡ 0 + i = omega arith in ap (λ (n : ℕ). slice_get xs n) e
get_from [] (suc k) i = refl
get_from (x ∷ xs) (suc k) i = let e : suc (k + i) ≡ suc k + i = omega arith in get_from xs k i ∙ ap (λ (n : ℕ). slice_get (x ∷ xs) n) e

-- two texts from a place on: of each word and that at the same place, P holds
abbrev pub Pairs : (ℕ → ℕ → ℕ → Type 0) → ℕ → List ℕ → List ℕ → Type 0
Pairs P place ws vs = (i q w v : ℕ) → q ≡ place + i → slice_get ws i ≡ Some w → slice_get vs i ≡ Some v → P q w v

-- a word that does not move is the same in both
abbrev pub Same : (ℕ → Bool) → ℕ → ℕ → ℕ → Type 0
Same moves place w v = moves place ≡ false → v ≡ w

pub pairs_from : (P : ℕ → ℕ → ℕ → Type 0) (place k : ℕ) (ws vs : List ℕ) → Pairs P place ws vs → Pairs P (place + k) (drop k ws) (drop k vs)
pairs_from P place k ws vs pairs i q w v e a b =
    pairs (k + i) q w v (omega arith) (sym (get_from ws k i) ∙ a) (sym (get_from vs k i) ∙ b)

alike_some : (P : ℕ → ℕ → ℕ → Type 0) (place : ℕ) (x y : Option ℕ) (w v : ℕ) → x ≡ Some w → y ≡ Some v → P place w v →
    AlikeWords P place x y
alike_some P place x y w v e h p = subst (λ a. AlikeWords P place a y) (sym e) (subst (λ b. AlikeWords P place (Some w) b) (sym h) p)

words_alike : (P : ℕ → ℕ → ℕ → Type 0) (place : ℕ) (takes : Bool) (c : ℕ) (f g : List ℕ) → (takes ≡ true → c < length f) →
    length f ≤ length g → ((w v : ℕ) → slice_get f c ≡ Some w → slice_get g c ≡ Some v → P place w v) →
    AlikeWords P place (if takes then slice_get f c else None) (if takes then slice_get g c else None)
words_alike P place false c f g inside more pairs = tt
words_alike P place true c f g inside more pairs =
    let x = get_inside f c (inside refl) in
    let y = get_inside g c (omega (arith, inside refl)) in
    alike_some P place (slice_get f c) (slice_get g c) x.0 y.0 x.1 y.1 (pairs x.0 y.0 x.1 y.1)

-- where two words are wanted and there are as many, each is there
pub has_both : (a b : Bool) (n : ℕ) → (if a then 1 else 0) + (if b then 1 else 0) ≤ n →
    (a ≡ true → 0 < n) × (b ≡ true → (if a then 1 else 0) < n)
has_both true true n h = (λ e. omega arith, λ e. omega arith)
has_both true false n h = (λ e. omega arith, λ e. absurd cc)
has_both false true n h = (λ e. absurd cc, λ e. omega arith)
has_both false false n h = (λ e. absurd cc, λ e. absurd cc)

alike_by : (P : ℕ → ℕ → ℕ → Type 0) (place w : ℕ) (i : Instruction) (a b c d : Option ℕ) (cut other : Bool) → cut ≡ false → other ≡ false →
    AlikeWords P (place + 1) a c → AlikeWords P (place + 1 + word_count_of i.first) b d →
    AlikeLine P place (if cut then Plain w else Decoded i a b) (if other then Plain w else Decoded i c d)
alike_by P place w i a b c d true other e h x y = absurd cc
alike_by P place w i a b c d false true e h x y = absurd cc
alike_by P place w i a b c d false false e h x y = (refl, x, y)

-- a line, and that of the same first word with other words after it
pub line_alike : (P : ℕ → ℕ → ℕ → Type 0) (place : ℕ) (o : Option Instruction) (w : ℕ) (f g : List ℕ) → is_cut o f ≡ false →
    length f ≤ length g → Pairs P place (w ∷ f) (w ∷ g) → AlikeLine P place (line_of o w f) (line_of o w g)
line_alike P place None w f g whole more pairs = refl
line_alike P place (Some i) w f g whole more pairs =
    let test : nat_lt (length f) (following_words i) ≡ false = whole in
    let enough : following_words i ≤ length f = grind (arith, nat_tests) in
    let other : nat_lt (length g) (following_words i) ≡ false = grind (arith, nat_tests) in
    let r = has_both (takes_word i.first) (takes_word i.second) (length f) enough in
    let c : ℕ = word_count_of i.first in
    alike_by P place w i (word_for i.first 0 f) (word_for i.second c f) (word_for i.first 0 g) (word_for i.second c g)
    (nat_lt (length f) (following_words i)) (nat_lt (length g) (following_words i)) whole other
    (words_alike P (place + 1) (takes_word i.first) 0 f g r.0 more (λ x y a b. pairs 1 (place + 1) x y refl a b))
    (words_alike P (place + 1 + c) (takes_word i.second) c f g r.1 more (λ x y a b. pairs (suc c) (place + 1 + c) x y (omega arith) a b))

length_by : (i : Instruction) (w : ℕ) (a b : Option ℕ) (cut : Bool) → cut ≡ false →
    line_length (if cut then Plain w else Decoded i a b) ≡ 1 + following_words i
length_by i w a b true e = absurd cc
length_by i w a b false e = refl

-- a line that is not cut is as long as its first word says
pub length_whole : (o : Option Instruction) (w : ℕ) (f g : List ℕ) → is_cut o f ≡ false → length f ≤ length g →
    line_length (line_of o w g) ≡ line_length (line_of o w f)
length_whole None w f g whole more = refl
length_whole (Some i) w f g whole more =
    let c : ℕ = word_count_of i.first in
    let test : nat_lt (length f) (following_words i) ≡ false = whole in
    let enough : following_words i ≤ length f = grind (arith, nat_tests) in
    let other : nat_lt (length g) (following_words i) ≡ false = grind (arith, nat_tests) in
    length_by i w (word_for i.first 0 g) (word_for i.second c g) (nat_lt (length g) (following_words i)) other
    ∙ sym (length_by i w (word_for i.first 0 f) (word_for i.second c f) (nat_lt (length f) (following_words i)) whole)

alike_step : (P : ℕ → ℕ → ℕ → Type 0) (place w v : ℕ) (f g : List ℕ) (rest others : List Line) → v ≡ w →
    AlikeLines P (place + line_length (line_of (instruction_of w) w f)) rest others →
    is_cut (instruction_of w) f ≡ false → length f ≤ length g → Pairs P place (w ∷ f) (v ∷ g) →
    AlikeLines P place (line_of (instruction_of w) w f ∷ rest) (line_of (instruction_of v) v g ∷ others)
alike_step P place w v f g rest others e later whole more pairs =
    subst (λ x. Pairs P place (w ∷ f) (x ∷ g) →
    AlikeLines P place (line_of (instruction_of w) w f ∷ rest) (line_of (instruction_of x) x g ∷ others)) (sym e)
    (λ p. (line_alike P place (instruction_of w) w f g whole more p, later)) pairs

-- the lines of a text are alike at the front of another, and the lines of what follows them come after
pub record BeginAlike (P : ℕ → ℕ → ℕ → Type 0) (place : ℕ) (ls : List Line) (others : List Line) (after : List ℕ) : Type 0 where
  pub front : List Line
  pub all : others ≡ front ++ lines after
  pub alike : AlikeLines P place ls front

begin_step : (P : ℕ → ℕ → ℕ → Type 0) (place w v : ℕ) (f g after : List ℕ) (rest others : List Line) → v ≡ w →
    is_cut (instruction_of w) f ≡ false → length f ≤ length g → Pairs P place (w ∷ f) (v ∷ g) →
    BeginAlike P (place + line_length (line_of (instruction_of w) w f)) rest others after →
    BeginAlike P place (line_of (instruction_of w) w f ∷ rest) (line_of (instruction_of v) v g ∷ others) after
begin_step P place w v f g after rest others e whole more pairs b = record {
  front = line_of (instruction_of v) v g ∷ b.front;
  all = ap (λ l. line_of (instruction_of v) v g ∷ l) b.all;
  alike = alike_step P place w v f g rest b.front e b.alike whole more pairs;
}

pub begin_alike : (P : ℕ → ℕ → ℕ → Type 0) (moves : ℕ → Bool) (n m place : ℕ) (ws vs : List ℕ) → length ws ≤ length vs →
    length ws ≤ n → length vs ≤ m → Pairs P place ws vs → Pairs (Same moves) place ws vs → AreWhole moves n place ws →
    BeginAlike P place (lines_within n ws) (lines_within m vs) (drop (length ws) vs)
begin_alike P moves zero m place [] vs more enough some pairs still whole =
    record { front = []; all = lines_enough m (length vs) vs some (omega arith); alike = tt }
begin_alike P moves zero m place (w ∷ f) vs more enough some pairs still whole = absurd (omega arith)
begin_alike P moves (suc n) m place [] vs more enough some pairs still whole =
    record { front = []; all = lines_enough m (length vs) vs some (omega arith); alike = tt }
begin_alike P moves (suc n) m place (w ∷ f) [] more enough some pairs still whole = absurd (omega arith)
begin_alike P moves (suc n) zero place (w ∷ f) (v ∷ g) more enough some pairs still whole = absurd (omega arith)
begin_alike P moves (suc n) (suc m) place (w ∷ f) (v ∷ g) more enough some pairs still whole =
    let e : v ≡ w = still 0 place w v (omega arith) refl refl whole.0 in
    let k : ℕ = line_length (line_of (instruction_of w) w f) in
    let one : 1 ≤ k = (length_from (line_of (instruction_of w) w f)).0 in
    let fits : k ≤ 1 + length f = line_within (instruction_of w) w f in
    let tails : length f ≤ length g = omega arith in
    let j : line_length (line_of (instruction_of v) v g) ≡ k =
    ap (λ x. line_length (line_of (instruction_of x) x g)) e ∙ length_whole (instruction_of w) w f g whole.1 tails in
    let a : length (drop k (w ∷ f)) ≤ n = omega (arith, length-drop k (w ∷ f)) in
    let b : length (drop k (v ∷ g)) ≤ m = omega (arith, length-drop k (v ∷ g)) in
    let c : length (drop k (w ∷ f)) ≤ length (drop k (v ∷ g)) = omega (arith, length-drop k (w ∷ f), length-drop k (v ∷ g)) in
    let sum : k + length (drop k (w ∷ f)) ≡ length (w ∷ f) = omega (arith, length-drop k (w ∷ f)) in
    let later : BeginAlike P (place + k) (lines_within n (drop k (w ∷ f))) (lines_within m (drop k (v ∷ g)))
    (drop (length (drop k (w ∷ f))) (drop k (v ∷ g))) =
    begin_alike P moves n m (place + k) (drop k (w ∷ f)) (drop k (v ∷ g)) c a b
    (pairs_from P place k (w ∷ f) (v ∷ g) pairs) (pairs_from (Same moves) place k (w ∷ f) (v ∷ g) still) whole.2 in
    let there : drop (length (drop k (w ∷ f))) (drop k (v ∷ g)) ≡ drop (length (w ∷ f)) (v ∷ g) =
    drop-drop (length (drop k (w ∷ f))) k (v ∷ g) ∙ ap (λ i. drop i (v ∷ g)) sum in
    begin_step P place w v f g (drop (length (w ∷ f)) (v ∷ g)) (lines_within n (drop k (w ∷ f)))
    (lines_within m (drop (line_length (line_of (instruction_of v) v g)) (v ∷ g))) e whole.1 tails pairs
    (subst (λ i. BeginAlike P (place + k) (lines_within n (drop k (w ∷ f))) (lines_within m (drop i (v ∷ g)))
    (drop (length (w ∷ f)) (v ∷ g))) (sym j)
    (subst (λ l. BeginAlike P (place + k) (lines_within n (drop k (w ∷ f))) (lines_within m (drop k (v ∷ g))) l) there later))
