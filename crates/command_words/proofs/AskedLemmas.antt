-- What a line of a script asks for.
use Rattle.std.proofs.Common.{Result, Ok, Err, ◌≡◌, ◌≢◌, ◌==◌, ◌+◌, ℕ, Bool, true, false, not, if◌then◌else◌, List, ◌++◌, length, take}
use Rattle.std.proofs.Common.{drop, refl, sym, ap, ◌∙◌, arith, take-append-drop, take_at, length-append}
use Rattle.std.proofs.{lemmas.Bool.{eqb-false, lt-ltb, and_from, and_left, false_from_ne_true}, lemmas.Slice.Eq.bytes_eq-Decides}
use Rattle.std.proofs.lemmas.Str.{IsUtf8-from_is_utf8, is_utf8-from_IsUtf8}
use Rattle.std.specs.{Prelude.IfErr, Prelude.bytes_eq, Prelude.codes, Prelude.nat_lt, Str.IsUtf8, Str.is_utf8}
use Rattle.command_words.specs.Scripts.{Asked, to_add, to_withdraw, for_externals, for_undefined, to_link, for_nothing, has_path, asked}

-- this is so, whatever the error is
pub where_err : {A E : Type 0} (r : Result A E) (P : Type 0) → P → IfErr r (λ _. P)
where_err (Ok x) P p = tt
where_err (Err e) P p = p

-- the word does not stand at the front
pub path_without_word : (word line : List ℕ) → ((rest : List ℕ) → line ≢ word ++ rest) → has_path word line ≡ false
path_without_word word line lacks =
    and_left (bytes_eq (take (length word) line) word) (nat_lt (length word) (length line))
    (false_from_ne_true (bytes_eq (take (length word) line) word)
    (λ e. lacks (drop (length word) line) (sym (take-append-drop (length word) line)
    ∙ ap (λ (l : List ℕ). l ++ drop (length word) line) ((bytes_eq-Decides (take (length word) line) word).0 e))))

-- something stands after it
pub path_of_some : (word line rest : List ℕ) → line ≡ word ++ rest → (length rest == 0) ≡ false → has_path word line ≡ true
path_of_some word line rest is some =
    let more : length rest ≡ 0 → ⊥ = eqb-false (length rest) 0 some in
    let whole : length line ≡ length word + length rest = ap (λ (l : List ℕ). length l) is ∙ length-append word rest in
    let front : take (length word) line ≡ word = ap (take (length word)) is ∙ take_at word rest (length word) refl in
    and_from (bytes_eq (take (length word) line) word) (nat_lt (length word) (length line))
    ((bytes_eq-Decides (take (length word) line) word).1 front) (lt-ltb (length word) (length line) (omega arith))

-- what a line that is text asks for
abbrev asked_of_text : List ℕ → Asked
asked_of_text line =
    if has_path (codes "add ") line then to_add (drop 4 line)
    else (if bytes_eq line (codes "withdraw") then to_withdraw
    else (if bytes_eq line (codes "externals") then for_externals
    else (if bytes_eq line (codes "undefined") then for_undefined
    else (if has_path (codes "link ") line then to_link (drop 5 line)
    else for_nothing))))

as_text : (line : List ℕ) (b : Bool) → is_utf8 line ≡ b → asked line ≡ (if not b then for_nothing else asked_of_text line)
as_text line b e = ap (λ (c : Bool). if not c then for_nothing else asked_of_text line) e

is_text : (line : List ℕ) → IsUtf8 line → asked line ≡ asked_of_text line
is_text line text = as_text line true (is_utf8-from_IsUtf8 line text)

is_other : (line w : List ℕ) → (line ≡ w → ⊥) → bytes_eq line w ≡ false
is_other line w n = false_from_ne_true (bytes_eq line w) (λ e. n ((bytes_eq-Decides line w).0 e))

pub asked_no_text : (line : List ℕ) → (IsUtf8 line → ⊥) → for_nothing ≡ asked line
asked_no_text line never = sym (as_text line false (false_from_ne_true (is_utf8 line) (λ e. never (IsUtf8-from_is_utf8 line e))))

pub asked_add : (line : List ℕ) → IsUtf8 line → has_path (codes "add ") line ≡ true → asked line ≡ to_add (drop 4 line)
asked_add line text adds = is_text line text ∙ rw adds refl

pub asked_withdraw : (line : List ℕ) → IsUtf8 line → line ≡ codes "withdraw" → asked line ≡ to_withdraw
asked_withdraw line text is = is_text line text ∙ ap asked_of_text is

pub asked_externals : (line : List ℕ) → IsUtf8 line → line ≡ codes "externals" → asked line ≡ for_externals
asked_externals line text is = is_text line text ∙ ap asked_of_text is

pub asked_undefined : (line : List ℕ) → IsUtf8 line → line ≡ codes "undefined" → asked line ≡ for_undefined
asked_undefined line text is = is_text line text ∙ ap asked_of_text is

pub asked_link : (line : List ℕ) → IsUtf8 line → has_path (codes "add ") line ≡ false → (line ≡ codes "withdraw" → ⊥) →
    (line ≡ codes "externals" → ⊥) → (line ≡ codes "undefined" → ⊥) →
    has_path (codes "link ") line ≡ true → asked line ≡ to_link (drop 5 line)
asked_link line text adds a b c links =
    is_text line text ∙ rw (
      adds,
      is_other line (codes "withdraw") a,
      is_other line (codes "externals") b,
      is_other line (codes "undefined") c,
      links,
    ) refl
