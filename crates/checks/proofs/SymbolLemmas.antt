-- One more symbol of a table: its name is noted.
use Rattle.std.proofs.Common.{◌≡◌, refl, ℕ, ◌+◌, ◌<◌, Bool, true, false, if◌then◌else◌, not, ◌&&◌, is_some, Option, Some, None, List, []}
use Rattle.std.proofs.Common.{◌∷◌, ◌++◌, take, length, get_or, sym, ◌∙◌, ap, arith}
use Rattle.std.proofs.{lemmas.List.{take_more, length-take}, lemmas.Slice.Eq.bytes_eq-Decides, lemmas.Bool.and_parts}
use Rattle.std.specs.Prelude.{bytes_eq, Result, Ok, Err, OnOk}
use Rattle.aout_core.specs.{declared.symbol.Symbol.Symbol, WellFormed.first_of}
use Rattle.checks.specs.Odd.{first_named_from, first_named, has_name}

first_named-joined : (is_of : Symbol → Bool) (name : List ℕ) (n : ℕ) (ss : List Symbol) (s : Symbol) →
    first_named_from is_of n name (ss ++ s ∷ [])
    ≡ first_of (first_named_from is_of n name ss) (if has_name is_of s name then Some (n + length ss) else None)
first_named-joined is_of name n [] s = let same : n ≡ n + 0 = omega arith in ap (λ (k : ℕ). if has_name is_of s name then Some k else None) same
first_named-joined is_of name n (e ∷ ss) s =
    let same : n + 1 + length ss ≡ n + length (e ∷ ss) = omega arith in
    by (has_name is_of e name) (first_named-joined is_of name (n + 1) ss s
    ∙ ap (λ (k : ℕ). first_of (first_named_from is_of (n + 1) name ss) (if has_name is_of s name then Some k else None)) same)
  where
    by : (b : Bool) → first_named_from is_of (n + 1) name (ss ++ s ∷ []) ≡ first_of (first_named_from is_of (n + 1) name ss)
        (if has_name is_of s name then Some (n + length (e ∷ ss)) else None) →
        (if b then Some n else first_named_from is_of (n + 1) name (ss ++ s ∷ [])) ≡ first_of (if b then Some n
        else first_named_from is_of (n + 1) name ss) (if has_name is_of s name then Some (n + length (e ∷ ss)) else None)
    by true rest = refl
    by false rest = rest

-- what is noted of a name, if this is the name that was looked up or not
noted : (is_name : Bool) (found old : Option ℕ) (i : ℕ) → (is_name ≡ true → found ≡ old) →
    (if is_name && not (is_some found) then Some i else old) ≡ first_of old (if is_name then Some i else None)
noted true found old i same = ap (λ (o : Option ℕ). if not (is_some o) then Some i else old) (same refl) ∙ by old
  where
    by : (o : Option ℕ) → (if not (is_some o) then Some i else o) ≡ first_of o (Some i)
    by None = refl
    by (Some x) = refl
noted false found None i same = refl
noted false found (Some x) i same = refl

pub noted_more : (is_of : Symbol → Bool) (symbols : List Symbol) (i : ℕ) (s : Symbol) (other : List ℕ) (found old new : Option ℕ)
    (is_asked : Bool) → i < length symbols → s ≡ get_or symbols i s → is_asked ≡ is_of s →
    new ≡ (if (is_asked && bytes_eq s.name other) && not (is_some found) then Some i else old) → found ≡ first_named is_of s.name
    (take i symbols) → old ≡ first_named is_of other (take i symbols) → new ≡ first_named is_of other (take (i + 1) symbols)
noted_more is_of symbols i s other found old new is_asked inside is asked put looked so_far =
    let before : List Symbol = take i symbols in
    let count : 0 + length before ≡ i = omega (arith, length-take i symbols) in
    let joined : take (i + 1) symbols ≡ before ++ s ∷ [] = take_more symbols i s inside ∙ ap (λ (e : Symbol). before ++ e ∷ []) (sym is) in
    put
    ∙ ap (λ (b : Bool). if (b && bytes_eq s.name other) && not (is_some found) then Some i else old) asked
    ∙ noted (has_name is_of s other) found old i
    (λ e. looked
    ∙ ap (λ (name : List ℕ). first_named is_of name before) ((bytes_eq-Decides s.name other).0 (and_parts (is_of s) (bytes_eq s.name other) e).1)
    ∙ sym so_far)
    ∙ ap (λ (o : Option ℕ). first_of o (if has_name is_of s other then Some i else None)) so_far
    ∙ ap (λ (k : ℕ). first_of (first_named is_of other before) (if has_name is_of s other then Some k else None)) (sym count)
    ∙ sym (first_named-joined is_of other 0 before s)
    ∙ ap (λ (l : List Symbol). first_named is_of other l) (sym joined)

-- what is noted of a name that is asked for
pub asked_noted : {A E : Type 0} (r : Result A E) (is_asked : Bool) (name : List ℕ) (i : ℕ) (old new : List ℕ → Option ℕ) →
    is_asked ≡ true →
    OnOk r ((other : List ℕ) → new other ≡ (if bytes_eq name other && not (is_some (old name)) then Some i else old other)) →
    OnOk r ((other : List ℕ) → new other ≡ (if (is_asked && bytes_eq name other) && not (is_some (old name)) then Some i else old other))
asked_noted (Ok x) is_asked name i old new e h =
    λ other. h other
    ∙ ap (λ (b : Bool). if (b && bytes_eq name other) && not (is_some (old name)) then Some i else old other) (sym e)
asked_noted (Err x) is_asked name i old new e h = h
