-- No relocation word is shown as wrong exactly if the check of objects finds none that is bad.
use Rattle.std.proofs.Common.{◌≡◌, ℕ, ◌+◌, ◌*◌, Bool, true, false, Option, Some, None, List, refl, ◌∙◌, ap}
use Rattle.std.specs.Prelude.{◌↔◌, [], ◌∷◌, ◌++◌, not, eqb, take, length, slice_get, if◌then◌else◌}
use Rattle.aout_core.specs.declared.object.ObjectFault.TheVariants.{NotAnObject, NoRelocation, BadSymbolNumber}
use Rattle.aout_core.specs.WellFormed.{is_wanted, kind_of, symbol_number, kind_fault, word_fault, first_of, first_bad_word}
use Rattle.aout_core.specs.{declared.symbol.Symbol.Symbol, declared.reloc.Reloc.Reloc, declared.reloc.Kind.Kind}
use Rattle.aout_core.specs.{declared.object.ObjectFault.ObjectFault, Contents.Contents, Encoding.relocation_at}
use Rattle.aout_core.specs.declared.reloc.Kind.TheVariants as kinds
use Rattle.checks.specs.Wrong.{fault_kind, bad_word, bad_words, all_bad_words, more_bad_words, wrong_words}
use Rattle.checks.specs.{declared.finding.FindingKind.FindingKind, Found.Found, WrongLaw.{WrongWordsLaw, WrongObjectsLaw}}

nothing : (xs ys : List Found) → xs ++ ys ≡ [] → (xs ≡ []) × (ys ≡ [])
nothing [] ys e = (refl, e)
nothing (x ∷ xs) ys e = absurd cc

-- each refusal of a word has a kind of finding
kind_is_found : (symbols : List Symbol) (i : ℕ) (kind : Option Kind) (number : ℕ) →
    (fault_kind (kind_fault symbols 0 kind number) ≡ None) ↔ (kind_fault symbols i kind number ≡ None)
kind_is_found symbols i None number = (λ e. absurd cc, λ e. absurd cc)
kind_is_found symbols i (Some kinds.Absolute) number = (λ e. refl, λ e. refl)
kind_is_found symbols i (Some kinds.TextSeg) number = (λ e. refl, λ e. refl)
kind_is_found symbols i (Some kinds.DataSeg) number = (λ e. refl, λ e. refl)
kind_is_found symbols i (Some kinds.BssSeg) number = (λ e. refl, λ e. refl)
kind_is_found symbols i (Some kinds.External) number = by (is_wanted (slice_get symbols number))
  where
    by : (b : Bool) → (fault_kind (if b then None else Some (BadSymbolNumber 0)) ≡ None)
        ↔ ((let o : Option ObjectFault = if b then None else Some (BadSymbolNumber i) in o) ≡ None)
    by true = (λ e. refl, λ e. refl)
    by false = (λ e. absurd cc, λ e. absurd cc)

no_word : (place : ℕ) (o : Option FindingKind) → bad_word place o ≡ [] → o ≡ None
no_word place None e = refl
no_word place (Some kind) e = absurd cc

no_faults : (a b : Option ObjectFault) → first_of a b ≡ None → (a ≡ None) × (b ≡ None)
no_faults None b e = (refl, e)
no_faults (Some x) b e = absurd cc

-- what is found of the first relocation word
abbrev first_found : Contents → ℕ → ℕ → Reloc → List Found
first_found c place n r =
    bad_word (place + 2 * n) (fault_kind (word_fault c.symbols 0 r))

shown_none : (c : Contents) (place n i : ℕ) (rs : List Reloc) → bad_words c place n rs ≡ [] → first_bad_word c.symbols i rs ≡ None
shown_none c place n i [] e = refl
shown_none c place n i (r ∷ rs) e =
    let parts : (first_found c place n r ≡ []) × (bad_words c place (n + 1) rs ≡ []) =
    nothing (first_found c place n r) (bad_words c place (n + 1) rs) e in
    let fine : word_fault c.symbols i r ≡ None =
    (kind_is_found c.symbols i (kind_of r) (symbol_number r)).0
    (no_word (place + 2 * n) (fault_kind (word_fault c.symbols 0 r)) parts.0) in
    ap (λ (o : Option ObjectFault). first_of o (first_bad_word c.symbols (i + 1) rs)) fine ∙ shown_none c place (n + 1) (i + 1) rs parts.1

none_shown : (c : Contents) (place n i : ℕ) (rs : List Reloc) → first_bad_word c.symbols i rs ≡ None → bad_words c place n rs ≡ []
none_shown c place n i [] e = refl
none_shown c place n i (r ∷ rs) e =
    let parts : (word_fault c.symbols i r ≡ None) × (first_bad_word c.symbols (i + 1) rs ≡ None) =
    no_faults (word_fault c.symbols i r) (first_bad_word c.symbols (i + 1) rs) e in
    let none : fault_kind (word_fault c.symbols 0 r) ≡ None = (kind_is_found c.symbols i (kind_of r) (symbol_number r)).1 parts.0 in
    ap (λ (o : Option FindingKind). bad_word (place + 2 * n) o ++ bad_words c place (n + 1) rs) none
    ∙ none_shown c place (n + 1) (i + 1) rs parts.1

cut_to_none : (xs ys : List Found) → take 16 xs ++ ys ≡ [] → xs ≡ []
cut_to_none [] ys e = refl
cut_to_none (x ∷ xs) ys e = absurd cc

pub shown_words : WrongWordsLaw
shown_words c = (
  λ e. shown_none c (relocation_at c.header) 0 0 (c.text_reloc ++ c.data_reloc)
      (cut_to_none (all_bad_words c) (more_bad_words c.header (length (all_bad_words c))) e),
  λ e. ap (λ (xs : List Found). take 16 xs ++ more_bad_words c.header (length xs))
      (none_shown c (relocation_at c.header) 0 0 (c.text_reloc ++ c.data_reloc) e),
)

pub shown_objects : WrongObjectsLaw
shown_objects c = by (eqb c.header.magic 0o407) (eqb c.header.flag 0)
  where
    by : (magic flag : Bool) →
        ((if not magic then Some NotAnObject
        else (if not flag then Some NoRelocation else first_bad_word c.symbols 0 (c.text_reloc ++ c.data_reloc))) ≡ None)
        ↔ ((magic ≡ true) × (flag ≡ true) × (wrong_words c ≡ []))
    by true true = (λ e. (refl, refl, (shown_words c).1 e), λ e. (shown_words c).0 e.2)
    by true false = (λ e. absurd cc, λ (m, f, e). absurd cc)
    by false flag = (λ e. absurd cc, λ (m, f, e). absurd cc)
