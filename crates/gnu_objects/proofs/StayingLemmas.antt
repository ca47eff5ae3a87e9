-- The symbols that stay.
use Rattle.std.proofs.Common.{◌≡◌, ℕ, zero, suc, ◌+◌, Bool, true, false, List, [], ◌∷◌, map, take, length, Some, slice_get, refl, ap, ◌∙◌}
use Rattle.std.proofs.{Common.arith, lemmas.List.length-map}
use Rattle.aout_core.specs.declared.symbol.Symbol.{Symbol}
use Rattle.gnu_objects.specs.Staying.{staying_from, staying, pairs_kept, kept, count}
use Rattle.gnu_objects.specs.{declared.options.Locals.Locals, declared.symbols.GnuSymbol.GnuSymbol}

pub length-staying_from : (locals : Locals) (strings : List ℕ) (symbols : List GnuSymbol) (words : List ℕ) (n : ℕ) (rest : List GnuSymbol) →
    length (staying_from locals strings symbols words n rest) ≡ length rest
length-staying_from locals strings symbols words n [] = refl
length-staying_from locals strings symbols words n (s ∷ rest) = cc (length-staying_from locals strings symbols words (n + 1) rest)

pub length-staying : (locals : Locals) (strings : List ℕ) (symbols : List GnuSymbol) (words : List ℕ) →
    length (staying locals strings symbols words) ≡ length symbols
length-staying locals strings symbols words = length-staying_from locals strings symbols words 0 symbols

pub length-pairs_kept : (flags : List Bool) (symbols : List GnuSymbol) → length flags ≡ length symbols →
    length (pairs_kept flags symbols) ≡ count flags
length-pairs_kept [] [] e = refl
length-pairs_kept [] (s ∷ ss) e = absurd (omega arith)
length-pairs_kept (f ∷ fs) [] e = absurd (omega arith)
length-pairs_kept (true ∷ fs) (s ∷ ss) e = ap (λ (k : ℕ). suc k) (length-pairs_kept fs ss (omega arith))
length-pairs_kept (false ∷ fs) (s ∷ ss) e = length-pairs_kept fs ss (omega arith)

pub length-kept : (flags : List Bool) (symbols : List GnuSymbol) → length flags ≡ length symbols → length (kept flags symbols) ≡ count flags
length-kept flags symbols e = length-map (pairs_kept flags symbols) (λ p. p.0) ∙ length-pairs_kept flags symbols e

-- a symbol that stays comes after as many as stay before it
pub kept_at : (flags : List Bool) (symbols : List GnuSymbol) (k : ℕ) (s : GnuSymbol) → slice_get symbols k ≡ Some s →
    slice_get flags k ≡ Some true → slice_get (kept flags symbols) (count (take k flags)) ≡ Some s
kept_at flags [] k s e f = absurd (cc)
kept_at [] (t ∷ ts) k s e f = absurd (cc)
kept_at (true ∷ fs) (t ∷ ts) zero s e f = e
kept_at (false ∷ fs) (t ∷ ts) zero s e f = absurd (cc)
kept_at (true ∷ fs) (t ∷ ts) (suc k) s e f = kept_at fs ts k s e f
kept_at (false ∷ fs) (t ∷ ts) (suc k) s e f = kept_at fs ts k s e f

-- the symbols that stay, and what becomes of them
pub kept_fused : (f : GnuSymbol → Symbol) (flags : List Bool) (symbols : List GnuSymbol) →
    map (λ p. f p.0) (pairs_kept flags symbols) ≡ map f (kept flags symbols)
kept_fused f flags symbols = by (pairs_kept flags symbols)
  where
    by : (ps : List (GnuSymbol × Bool)) → map (λ p. f p.0) ps ≡ map f (map (λ p. p.0) ps)
    by [] = refl
    by (p ∷ ps) = ap (λ l. f p.0 ∷ l) (by ps)
