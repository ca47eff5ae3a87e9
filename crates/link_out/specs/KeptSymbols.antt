-- Which symbols are kept. (ld(1), the options `-s`, `-x` and `-X`)
--
-- Externals go into the table, unless all symbols are dropped. All locals are kept, or those whose names do not begin with
-- L, as a compiler's labels do, or none.
use Rattle.std.specs.Prelude.{ℕ, Bool, true, false, not, ◌&&◌, eqb, List, [], ◌∷◌, codes}
use Rattle.aout_core.specs.{declared.symbol.Symbol.Symbol, Words.letter_of, WellFormed.is_external}
use Rattle.tool_options.specs.{declared.options.Keep.Keep, declared.options.Keep.TheVariants.{All, NotL, Externals, Nothing}}

-- a name that begins with L
abbrev pub begins_with_l : List ℕ → Bool
begins_with_l [] = false
begins_with_l (b ∷ bs) = eqb b (letter_of (codes "L"))

abbrev pub keeps : Keep → List ℕ → Bool
keeps All name = true
keeps NotL name = not (begins_with_l name)
keeps Externals name = false
keeps Nothing name = false

abbrev pub is_kept_local : Keep → Symbol → Bool
is_kept_local keep s = not (is_external s) && keeps keep s.name

abbrev pub rows_kept : Keep → List Symbol → List Symbol
rows_kept Nothing rows = []
rows_kept _ rows = rows
