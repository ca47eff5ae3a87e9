-- Objects in GNU's form, what they become, and objects near these that they do not become.
use Rattle.std.proofs.Common.{◌≡◌, ℕ, zero, suc, ◌/◌, false, List, [], ◌∷◌, Some, None, slice_get, refl, sym as back, ap, ◌∙◌, arith}
use Rattle.std.specs.{Prelude.Ok, Prelude.Err, List.AllZip}
use Rattle.aout_core.specs.{declared.reloc.Reloc.Reloc, declared.symbol.Symbol.Symbol, Contents.Contents, WellFormed.symbol_number}
use Rattle.gnu_objects.specs.{declared.options.Locals.TheVariants.KeepNone, declared.symbols.GnuSymbol.GnuSymbol}
use Rattle.gnu_objects.specs.{declared.refusal.Refusal.TheVariants.LocalWord, Converted.{converted, converted_symbol}}
use Rattle.gnu_objects.specs.{Laws.{gnu_file, RefersAlike, IsSameReference, IsConversion, ConversionLaw}, declared.options.Options.Options}
use Rattle.laws.proofs.examples.Samples.{sym, object, _f, _g}

abbrev dropping : Options
dropping = record { drops_debugger = false; locals = KeepNone }

-- three words of text, of which the second refers to a symbol from the pc, and a word of data; the external `_f`, the local `x` and
-- the undefined `_g`
abbrev calling : ℕ → List ℕ
calling reference =
    7 ∷ 1 ∷ 6 ∷ 0 ∷ 2 ∷ 0 ∷ 0 ∷ 0 ∷ 24 ∷ 0 ∷ 0 ∷ 0 ∷ 0 ∷ 0 ∷ 0 ∷ 0
    ∷ 247 ∷ 9 ∷ 252 ∷ 255 ∷ 135 ∷ 0 ∷ 1 ∷ 0 ∷ 0 ∷ 0 ∷ reference ∷ 0 ∷ 0 ∷ 0 ∷ 0 ∷ 0
    ∷ 0 ∷ 0 ∷ 4 ∷ 0 ∷ 34 ∷ 0 ∷ 0 ∷ 0 ∷ 0 ∷ 0 ∷ 7 ∷ 0 ∷ 3 ∷ 0 ∷ 6 ∷ 0 ∷ 0 ∷ 0 ∷ 9 ∷ 0 ∷ 32 ∷ 0 ∷ 0 ∷ 0
    ∷ 0 ∷ 0 ∷ 12 ∷ 0 ∷ 95 ∷ 102 ∷ 0 ∷ 120 ∷ 0 ∷ 95 ∷ 103 ∷ 0 ∷ []

abbrev calls_g : List ℕ
calls_g = calling 0o51

abbrev with_symbols : ℕ → List Symbol → Contents
with_symbols reference symbols =
    object (0o4767 ∷ 0o177774 ∷ 0o207 ∷ []) (0 ∷ reference ∷ 0 ∷ []) (1 ∷ []) (0 ∷ []) 0 symbols

-- without the local
abbrev without_x : ℕ → Contents
without_x reference = with_symbols reference (sym _f 0o42 0 ∷ sym _g 0o40 0 ∷ [])

-- `_g` gets the number that `x` had
dropped_x : converted dropping calls_g ≡ Ok (without_x 0o31)
dropped_x = refl

abbrev Becomes : Contents → Type 0
Becomes c = IsConversion dropping (gnu_file calls_g) c

conversion_says : ConversionLaw → Becomes (without_x 0o31)
conversion_says law = law dropping calls_g (without_x 0o31) refl

abbrev entry : ℕ → ℕ → ℕ → GnuSymbol
entry place type_bits value = record { description = 0; place = place; type_bits = type_bits; overlay = 0; value = value }

kind_in : (t s : GnuSymbol) → Some t ≡ Some s → t.type_bits ≡ s.type_bits
kind_in t s e = let same : t ≡ s = cc in ap (λ (u : GnuSymbol). u.type_bits) same

bits_in : (e f : Symbol) → Some e ≡ Some f → e.type_bits ≡ f.type_bits
bits_in e f same = let one : e ≡ f = cc in ap (λ (u : Symbol). u.type_bits) one

-- A table that is off by one: the word refers to the symbol before its own, or after the table as if nothing was dropped.

refers_of : (reference : ℕ) → Becomes (without_x reference) → RefersAlike (gnu_file calls_g) (without_x reference) 2 (reference / 16)
refers_of reference becomes = becomes.text_reloc.1.0.refers refl

off_by_one : Becomes (without_x 0o11) → ⊥
off_by_one becomes = at (refers_of 0o11 becomes)
  where
    at : RefersAlike (gnu_file calls_g) (without_x 0o11) 2 0 → ⊥
    at (s, is, there) =
        let before : 0o40 ≡ s.type_bits = kind_in (entry 9 0o40 0) s is in
        let after : 0o42 ≡ s.type_bits = bits_in (sym _f 0o42 0) (converted_symbol (gnu_file calls_g).strings s) there in
        omega (arith, before, after)

number_as_before : Becomes (without_x 0o51) → ⊥
number_as_before becomes = at (refers_of 0o51 becomes)
  where
    at : RefersAlike (gnu_file calls_g) (without_x 0o51) 2 2 → ⊥
    at (s, is, there) = let bad : None ≡ Some (converted_symbol (gnu_file calls_g).strings s) = there in cc

-- A word that refers to the local: without it no object is what the file becomes, whatever number the word has.

abbrev calls_x : List ℕ
calls_x = calling 0o31

needed_refused : converted dropping calls_x ≡ Err (LocalWord 1 1)
needed_refused = refl

second : (P : ℕ → Reloc → Type 0) (a b c : ℕ) (rs : List Reloc) → AllZip P (a ∷ b ∷ c ∷ []) rs → (r : Reloc) × P b r
second P a b c [] h = absurd h
second P a b c (r ∷ []) h = absurd h.1
second P a b c (r ∷ s ∷ rs) h = (s, h.1.0)

no_local : (m : ℕ) (e : Symbol) → slice_get (sym _f 0o42 0 ∷ sym _g 0o40 0 ∷ []) m ≡ Some e → 3 ≡ e.type_bits → ⊥
no_local zero e is three =
    let same : sym _f 0o42 0 ≡ e = cc in let bits : 0o42 ≡ e.type_bits = ap (λ (u : Symbol). u.type_bits) same in
    omega (arith, bits)
no_local (suc zero) e is three =
    let same : sym _g 0o40 0 ≡ e = cc in let bits : 0o40 ≡ e.type_bits = ap (λ (u : Symbol). u.type_bits) same in
    omega (arith, bits)
no_local (suc (suc m)) e is three = cc

dropped_and_needed : (c : Contents) → IsConversion dropping (gnu_file calls_x) c → ⊥
dropped_and_needed c becomes =
    at (second (λ (w : ℕ) (r : Reloc). IsSameReference (gnu_file calls_x) c (record { 0 = w }) r) 0 0o31 0 c.text_reloc becomes.text_reloc)
  where
    to : (r : Reloc) → RefersAlike (gnu_file calls_x) c 1 (symbol_number r) → ⊥
    to r (s, is, there) =
        no_local (symbol_number r) (converted_symbol (gnu_file calls_x).strings s)
        (back (ap (λ (l : List Symbol). slice_get l (symbol_number r)) becomes.symbols) ∙ there) (kind_in (entry 7 3 6) s is)

    at : (r : Reloc) × IsSameReference (gnu_file calls_x) c (record { 0 = 0o31 }) r → ⊥
    at (r, same) = to r (same.refers refl)
