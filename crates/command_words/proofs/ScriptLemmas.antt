-- The lines of a script, taken off its bytes one by one.
use Rattle.std.proofs.Common.{rules, ◌≡◌, ◌≢◌, ◌+◌, ◌<◌, ◌≤◌, ℕ, Bool, true, false, cond, List, [], ◌∷◌, ◌++◌, length, Option, Some, None}
use Rattle.std.proofs.Common.{Ok, refl, sym, ap, ◌∙◌, ◌↔◌, Err, subst, drop, drop_at, arith, append_assoc, append-nil, length-append}
use Rattle.std.proofs.{lemmas.Bool.ne_eqb}
use Rattle.aout_core.specs.Refusals.{refused}
use Rattle.std.specs.{Prelude.IsSome, Io.KnownBytes.Consumes, Io.KnownBytes.IsAtEnd}
use Rattle.command_words.specs.Scripts.{asked, long_line, and_given, ends_with_fault, given_after}
use Rattle.command_words.specs.ScriptAnswers.{Answer, asked_by, HasLine, HasNone, NamesPath, after_line, WhereKnown, IsNextOf}
use Rattle.command_words.specs.{internal.LineParts.{IsStopOf, IsTakenOf}, declared.lines.Line.Line, declared.line_reader.Stop.Stop}
use Rattle.command_words.specs.declared.line_reader.Stop.TheVariants as stops
use Rattle.texts.specs.Lines.{lines_in, on_first}

pub has_none_push : (line : List ℕ) (b : ℕ) → HasNone line → b ≢ 10 → HasNone (line ++ b ∷ [])
has_none_push [] b h n = (n, tt)
has_none_push (x ∷ line) b h n = (h.0, has_none_push line b h.1 n)

-- a line whose newline is not among these bytes goes on after them
pub goes_on : (all line held : List ℕ) → HasNone line → all ≡ line ++ held → HasLine all → held ≡ [] → ⊥
goes_on all line held none split whole empty =
    whole (subst HasNone (sym (split ∙ ap (λ (l : List ℕ). line ++ l) empty ∙ append-nil line)) none)

-- where a line goes on after the bytes that were taken, some are held, and its reader is not asked
pub not_asked : {A : Type 0} {before now after : A} (all line held : List ℕ) → HasNone line →
    (HasLine all → (all ≡ line ++ held) × (now ≡ before)) → ((held ≡ [] → ⊥) → after ≡ now) → HasLine all → after ≡ before
not_asked all line held none begun kept whole = search rules

-- ---- the lines of bytes

-- a line that a newline ends
lines_of_line : (line rest : List ℕ) → HasNone line → lines_in (line ++ 10 ∷ rest) ≡ line ∷ lines_in rest
lines_of_line [] rest h = refl
lines_of_line (x ∷ line) rest h = cc (ne_eqb x 10 h.0, lines_of_line line rest h.1)

after_whole_line : (line rest : List ℕ) → HasNone line → after_line (line ++ 10 ∷ rest) ≡ rest
after_whole_line [] rest h = refl
after_whole_line (x ∷ line) rest h = cc (ne_eqb x 10 h.0, after_whole_line line rest h.1)

newline_inside : (line rest : List ℕ) → HasNone (line ++ 10 ∷ rest) → ⊥
newline_inside [] rest h = h.0 refl
newline_inside (x ∷ line) rest h = newline_inside line rest h.1

-- a last line without a newline
lines_of_last : (x : ℕ) (line : List ℕ) → HasNone (x ∷ line) → lines_in (x ∷ line) ≡ (x ∷ line) ∷ []
lines_of_last x [] h = ap (λ (c : Bool). cond c ([] ∷ []) (on_first x [])) (ne_eqb x 10 h.0)
lines_of_last x (y ∷ line) h =
    ap (λ (c : Bool). cond c ([] ∷ lines_in (y ∷ line)) (on_first x (lines_in (y ∷ line)))) (ne_eqb x 10 h.0)
    ∙ ap (on_first x) (lines_of_last y line h.1)

pub after_last_line : (line : List ℕ) → HasNone line → after_line line ≡ []
after_last_line [] h = refl
after_last_line (x ∷ line) h = ap (λ (c : Bool). cond c line (after_line line)) (ne_eqb x 10 h.0) ∙ after_last_line line h.1

-- a line begins with these bytes
first_line : (x : ℕ) (ls : List (List ℕ)) → (more : List ℕ) × (others : List (List ℕ)) × (on_first x ls ≡ (x ∷ more) ∷ others)
first_line x [] = ([], [], refl)
first_line x (l ∷ ls) = (l, ls, refl)

starts_line : (x : ℕ) (front rest : List ℕ) → HasNone (x ∷ front) →
    (more : List ℕ) × (others : List (List ℕ)) × (lines_in (x ∷ (front ++ rest)) ≡ (x ∷ (front ++ more)) ∷ others)
starts_line x [] rest h =
    let (more, others, same) = first_line x (lines_in rest) in
    (more, others, ap (λ (c : Bool). cond c ([] ∷ lines_in rest) (on_first x (lines_in rest))) (ne_eqb x 10 h.0) ∙ same)
starts_line x (y ∷ front) rest h = search (rules, ne_eqb, (starts_line y front rest h.1))

-- ---- what they give

given_line : (n : ℕ) (l : List ℕ) (ls : List (List ℕ)) → n < 1000000 → length l ≤ 4096 →
    given_after n (l ∷ ls) ≡ and_given (asked l) (given_after (n + 1) ls)
given_line n l ls few short = search rules

given_long : (n : ℕ) (l : List ℕ) (ls : List (List ℕ)) → n < 1000000 → 4096 < length l → given_after n (l ∷ ls) ≡ ends_with_fault long_line
given_long n l ls few long = search rules

-- ---- the same of a reader that tells its bytes

pub known_map : (old new : Option (List ℕ)) (P Q : List ℕ → List ℕ → Type 0) →
    ((bytes left : List ℕ) → P bytes left → Q bytes left) → WhereKnown old new P → WhereKnown old new Q
known_map None new P Q f h = tt
known_map (Some bytes) None P Q f h = absurd h
known_map (Some bytes) (Some left) P Q f h = f bytes left h

long_lines : (n : ℕ) (front rest : List ℕ) → n < 1000000 → 4096 < length front → HasNone front →
    given_after n (lines_in (front ++ rest)) ≡ ends_with_fault long_line
long_lines n [] rest few long h = absurd (omega arith)
long_lines n (x ∷ front) rest few long h =
    let (more, others, same) = starts_line x front rest h in
    ap (given_after n) same ∙ given_long n (x ∷ (front ++ more)) others few (omega (arith, length-append front more))

pub long_known : (n : ℕ) (old new : Option (List ℕ)) (line : List ℕ) (b : ℕ) → n < 1000000 → length line ≡ 4096 →
    HasNone (line ++ b ∷ []) → Consumes old new (line ++ b ∷ []) →
    WhereKnown old new (λ bytes left. IsStopOf n bytes left stops.LongLine)
long_known n None new line b few long none taken = tt
long_known n (Some bytes) None line b few long none taken = absurd taken
long_known n (Some bytes) (Some left) line b few long none taken =
    let size : length (line ++ b ∷ []) ≡ 4097 = length-append line (b ∷ []) ∙ ap (λ (k : ℕ). k + 1) long in (
      sym (ap (drop 4097) taken ∙ drop_at (line ++ b ∷ []) left 4097 size),
      ap (λ (x : List ℕ). given_after n (lines_in x)) taken ∙ long_lines n (line ++ b ∷ []) left few (omega (arith, size)) none,
    )

pub line_known : (n : ℕ) (old new : Option (List ℕ)) (line : List ℕ) → n < 1000000 → length line ≤ 4096 → HasNone line →
    Consumes old new (line ++ 10 ∷ []) → WhereKnown old new (λ bytes left. IsTakenOf n bytes left line (Ok false))
line_known n None new line few short none taken = tt
line_known n (Some bytes) None line few short none taken = absurd taken
line_known n (Some bytes) (Some left) line few short none taken =
    let whole : bytes ≡ line ++ 10 ∷ left = taken ∙ append_assoc line (10 ∷ []) left in (
      (
        sym (ap after_line whole ∙ after_whole_line line left none),
        ap (given_after n) (ap lines_in whole ∙ lines_of_line line left none) ∙ given_line n line (lines_in left) few short,
      ),
      (λ never. absurd (cc), λ h. absurd (newline_inside line left (subst HasNone whole h))),
    )

last_lines : (n : ℕ) (line : List ℕ) → n < 1000000 → length line ≤ 4096 → (length line ≡ 0 → ⊥) → HasNone line →
    given_after n (lines_in line) ≡ and_given (asked line) (given_after (n + 1) [])
last_lines n [] few short some none = absurd (some refl)
last_lines n (x ∷ line) few short some none = ap (given_after n) (lines_of_last x line none) ∙ given_line n (x ∷ line) [] few short

pub last_known : (n : ℕ) (old new : Option (List ℕ)) (line : List ℕ) → n < 1000000 → length line ≤ 4096 →
    (length line ≡ 0 → ⊥) → HasNone line → Consumes old new line → IsAtEnd new →
    WhereKnown old new (λ bytes left. IsTakenOf n bytes left line (Ok true))
last_known n None new line few short some none taken end = tt
last_known n (Some bytes) None line few short some none taken end = absurd taken
last_known n (Some bytes) (Some left) line few short some none taken end = search (rules, after_last_line, last_lines)

-- ---- the answers

pub line_answered : (n : ℕ) (settled : Option Stop) (line : List ℕ) (is_last : Bool) (it : Line) (bytes left : List ℕ) →
    asked_by it ≡ asked line → (IsSome settled ↔ is_last ≡ true) →
    IsTakenOf n bytes left line (Ok is_last) → IsNextOf n bytes left settled (Ok it)
line_answered n settled line is_last it bytes left same last h = search rules

-- no memory for the line that was taken
pub lost_known : (n : ℕ) (old new : Option (List ℕ)) (settled : Option Stop) (line : List ℕ) (is_last : Bool) → NamesPath (asked line) →
    WhereKnown old new (λ bytes left. IsTakenOf n bytes left line (Ok is_last)) →
    WhereKnown old new (λ bytes left. IsNextOf n bytes left settled (Err (stops.Memory refused)))
lost_known n old new settled line is_last named = search rules

-- why there is no further line
stops_next : (n : ℕ) (settled : Option Stop) (stop : Stop) (bytes left : List ℕ) → IsStopOf n bytes left stop →
    IsNextOf n bytes left settled (Err stop)
stops_next n settled (stops.Memory _) bytes left h = absurd h
stops_next n settled _ bytes left h = h

pub stop_known : (n : ℕ) (old new : Option (List ℕ)) (settled : Option Stop) (stop : Stop) →
    WhereKnown old new (λ bytes left. IsStopOf n bytes left stop) →
    WhereKnown old new (λ bytes left. IsNextOf n bytes left settled (Err stop))
stop_known n old new settled stop = search rules

-- the answer is that the reader failed exactly where the stop is
pub failed_as : {P : Type 0} (stop : Stop) → (stop ≡ stops.ReadFailed ↔ P) →
    ((let answer : Answer = Err stop in answer) ≡ Err stops.ReadFailed ↔ P)
failed_as stop failed = (λ e. failed.0 (cc), λ p. ap (λ (s : Stop). let answer : Answer = Err s in answer) (failed.1 p))
