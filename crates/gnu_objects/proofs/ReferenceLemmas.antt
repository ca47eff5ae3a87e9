-- What the words of a converted object refer to.
use Rattle.std.proofs.Common.{◌≡◌, ℕ, zero, suc, ◌+◌, ◌*◌, ◌/◌, ◌%◌, ◌<◌, Bool, true, false, eqb-true, List, [], ◌∷◌, ◌++◌, map, take}
use Rattle.std.proofs.Common.{length, Option, Some, None, option_map, slice_get, refl, sym, ap, ◌∙◌, arith, rules}
use Rattle.std.proofs.{lemmas.Bool.cases_lt, lemmas.List.length-map, lemmas.List.take_all, lemmas.Option.slice_get-map, lemmas.Option.slice_get_past}
use Rattle.std.specs.Option.{option_or}
use Rattle.aout_core.specs.WellFormed.{kind_numbered, kind_of, symbol_number, word_fault, first_of, first_bad_word}
use Rattle.aout_core.specs.{declared.object.ObjectFault.ObjectFault, declared.reloc.Reloc.Reloc, declared.reloc.Kind.TheVariants.External}
use Rattle.aout_core.specs.{declared.symbol.Symbol.Symbol, Contents.Contents}
use Rattle.gnu_objects.specs.GnuRefusals.{dropped_refusal, first_refusal, word_refusal}
use Rattle.gnu_objects.specs.{Laws.{GnuFile, RefersAlike, IsSameReference, AreSameReferences}, declared.refusal.Refusal.Refusal}
use Rattle.gnu_objects.specs.{declared.symbols.GnuSymbol.GnuSymbol, Staying.{refers, kept, count}, Converted.{renumbered, converted_symbol}}
use Rattle.gnu_objects.proofs.StayingLemmas.{length-kept, kept_at}

pub both_none : (a b : Option Refusal) → option_or a b ≡ None → (a ≡ None) × (b ≡ None)
both_none a b e = search rules

first_none : (a b : Option ObjectFault) → first_of a b ≡ None → (a ≡ None) × (b ≡ None)
first_none a b e = search rules

pub bad_split : (symbols : List Symbol) (i : ℕ) (xs ys : List Reloc) → first_bad_word symbols i (xs ++ ys) ≡ None →
    (first_bad_word symbols i xs ≡ None) × ((j : ℕ) × (first_bad_word symbols j ys ≡ None))
bad_split symbols i [] ys e = (refl, (i, e))
bad_split symbols i (r ∷ rs) ys e =
    let heads = first_none (word_fault symbols i r) (first_bad_word symbols (i + 1) (rs ++ ys)) e in
    let rest = bad_split symbols (i + 1) rs ys heads.1 in
    (ap (λ (f : Option ObjectFault). first_of f (first_bad_word symbols (i + 1) rs)) heads.0 ∙ rest.0, rest.1)

pub dropped_split : (strings : List ℕ) (symbols : List GnuSymbol) (flags : List Bool) (i : ℕ) (xs ys : List ℕ) →
    first_refusal (word_refusal strings symbols flags) i (xs ++ ys) ≡ None →
    (first_refusal (word_refusal strings symbols flags) i xs ≡ None) × ((j : ℕ) × (first_refusal (word_refusal strings symbols flags) j ys ≡ None))
dropped_split strings symbols flags i [] ys e = (refl, (i, e))
dropped_split strings symbols flags i (w ∷ ws) ys e =
    let heads = both_none (word_refusal strings symbols flags i w) (first_refusal (word_refusal strings symbols flags) (i + 1) (ws ++ ys)) e in
    let rest = dropped_split strings symbols flags (i + 1) ws ys heads.1 in
    (ap (λ (f : Option Refusal). option_or f (first_refusal (word_refusal strings symbols flags) (i + 1) ws)) heads.0 ∙ rest.0, rest.1)

-- ---- the bits of a relocation word

same_pc : (c w : ℕ) → (16 * c + w % 16) % 2 ≡ w % 2
same_pc c w = omega arith

same_kind : (c w : ℕ) → (16 * c + w % 16) / 2 % 8 ≡ w / 2 % 8
same_kind c w = omega arith

new_number : (c w : ℕ) → (16 * c + w % 16) / 16 ≡ c
new_number c w = omega arith

abbrev reloc : ℕ → Reloc
reloc w = record { 0 = w }

not_external : (w : ℕ) → refers w ≡ false → kind_of (reloc w) ≡ Some External → ⊥
not_external w e k = search rules

is_kind_external : (w : ℕ) → refers w ≡ true → kind_of (reloc w) ≡ Some External
is_kind_external w e = ap kind_numbered (eqb-true (w / 2 % 8) 4 e)

-- ---- a word that refers to a symbol

found : {A : Type 0} (xs : List A) (k : ℕ) → k < length xs → (x : A) × (slice_get xs k ≡ Some x)
found [] k lt = absurd (omega arith)
found (x ∷ xs) zero lt = (x, refl)
found (x ∷ xs) (suc k) lt = found xs k (omega arith)

wanted : (symbols : List Symbol) (i : ℕ) (r : Reloc) → kind_of r ≡ Some External →
    slice_get symbols (symbol_number r) ≡ None → word_fault symbols i r ≡ None → ⊥
wanted symbols i r kind missing e = search rules

referred : (strings : List ℕ) (symbols : List GnuSymbol) (flags : List Bool) (i k : ℕ) → length flags ≡ length symbols →
    k < length symbols → dropped_refusal strings i k (slice_get symbols k) (slice_get flags k) ≡ None →
    (s : GnuSymbol) × (slice_get symbols k ≡ Some s) × (slice_get flags k ≡ Some true)
referred strings symbols flags i k beside lt h = by (found symbols k lt) (found flags k (omega arith))
  where
    by_flag : (s : GnuSymbol) (b : Bool) → slice_get symbols k ≡ Some s → slice_get flags k ≡ Some b →
        (s : GnuSymbol) × (slice_get symbols k ≡ Some s) × (slice_get flags k ≡ Some true)
    by_flag s true is flag = (s, is, flag)
    by_flag s false is flag =
        let refused : dropped_refusal strings i k (Some s) (Some false) ≡ None =
        sym (ap (λ (o : Option GnuSymbol). dropped_refusal strings i k o (slice_get flags k)) is
        ∙ ap (λ (o : Option Bool). dropped_refusal strings i k (Some s) o) flag) ∙ h in
        absurd (cc)

    by : (s : GnuSymbol) × (slice_get symbols k ≡ Some s) → (b : Bool) × (slice_get flags k ≡ Some b) →
        (s : GnuSymbol) × (slice_get symbols k ≡ Some s) × (slice_get flags k ≡ Some true)
    by (s, is) (b, flag) = by_flag s b is flag

abbrev new_reloc : List Bool → ℕ → Reloc
new_reloc flags w = reloc (16 * count (take (w / 16) flags) + w % 16)

refers_alike : (g : GnuFile) (c : Contents) (flags : List Bool) (i j w : ℕ) →
    length flags ≡ length g.symbols → c.symbols ≡ map (converted_symbol g.strings) (kept flags g.symbols) →
    dropped_refusal g.strings i (w / 16) (slice_get g.symbols (w / 16)) (slice_get flags (w / 16)) ≡ None →
    kind_of (new_reloc flags w) ≡ Some External → word_fault c.symbols j (new_reloc flags w) ≡ None →
    RefersAlike g c (w / 16) (symbol_number (new_reloc flags w))
refers_alike g c flags i j w beside table stays kind good = search (
  rules,
  cases_lt,
  new_number,
  slice_get-map,
  option_map,
  kept_at,
  referred,
  take_all,
  length-map,
  length-kept,
  wanted,
  slice_get_past,
)

same_reference : (g : GnuFile) (c : Contents) (flags : List Bool) (i j w : ℕ) →
    length flags ≡ length g.symbols → c.symbols ≡ map (converted_symbol g.strings) (kept flags g.symbols) →
    word_refusal g.strings g.symbols flags i w ≡ None → word_fault c.symbols j (renumbered flags w) ≡ None →
    IsSameReference g c (reloc w) (renumbered flags w)
same_reference g c flags i j w beside table stays good = search (rules, not_external, same_kind, is_kind_external, same_pc, refers_alike)

pub references : (g : GnuFile) (c : Contents) (flags : List Bool) (i j : ℕ) (ws : List ℕ) →
    length flags ≡ length g.symbols → c.symbols ≡ map (converted_symbol g.strings) (kept flags g.symbols) →
    first_refusal (word_refusal g.strings g.symbols flags) i ws ≡ None → first_bad_word c.symbols j (map (renumbered flags) ws) ≡ None →
    AreSameReferences g c ws (map (renumbered flags) ws)
references g c flags i j [] beside table stays good = tt
references g c flags i j (w ∷ ws) beside table stays good =
    let s = both_none (word_refusal g.strings g.symbols flags i w) (first_refusal (word_refusal g.strings g.symbols flags) (i + 1) ws) stays in
    let b = first_none (word_fault c.symbols j (renumbered flags w)) (first_bad_word c.symbols (j + 1) (map (renumbered flags) ws)) good in
    (same_reference g c flags i j w beside table s.0 b.0, references g c flags (i + 1) (j + 1) ws beside table s.1 b.1)
