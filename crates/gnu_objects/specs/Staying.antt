-- Which symbols stay in the table, and names that are equal in eight bytes.
--
-- Externals stay. Symbols for a debugger go. A local goes if the options drop it, and also if its name, cut at eight bytes, is
-- that of another symbol whose whole name differs.
use Rattle.std.specs.Prelude.{ℕ, ◌+◌, ◌/◌, ◌%◌, Bool, true, false, ◌&&◌, ◌||◌, ◌==◌, not, nat_eq, if◌then◌else◌, List, [], ◌∷◌, map, filter}
use Rattle.std.specs.{Prelude.{zip, take, length, Option, Some, None, is_some}, List.list_any, Cmp.Lexicographic.pointwise}
use Rattle.gnu_objects.specs.declared.options.Locals.TheVariants.{KeepAll, KeepNeeded, KeepNone}
use Rattle.gnu_objects.specs.{declared.options.Locals.Locals, declared.symbols.GnuSymbol.GnuSymbol, GnuForm.name_at, GnuForm.is_stab}

abbrev pub is_external : GnuSymbol → Bool
is_external s = s.type_bits / 0o40 % 2 == 1

-- a relocation word that refers to a symbol by its number
abbrev pub refers : ℕ → Bool
refers w = w / 2 % 8 == 4

-- a word that refers to symbol n
abbrev pub is_needed : List ℕ → ℕ → Bool
is_needed words n = list_any (λ w. refers w && (w / 16 == n)) words

-- the locals that the options keep
abbrev pub is_chosen : Locals → List ℕ → ℕ → Bool
is_chosen KeepAll words n = true
is_chosen KeepNeeded words n = is_needed words n
is_chosen KeepNone words n = false

-- two names that differ, and are equal in eight bytes
abbrev pub are_alike : List ℕ → List ℕ → Bool
are_alike first second = pointwise nat_eq (take 8 first) (take 8 second) && not (pointwise nat_eq first second)

-- a symbol with a name that a linker sees: not for a debugger, and an external if only these count
abbrev pub counts : List ℕ → Bool → GnuSymbol → Bool
counts strings externals s = not (is_stab strings s) && (not externals || is_external s)

-- the first such symbol from number m on whose name is alike with this one
abbrev pub alike_with : List ℕ → Bool → List ℕ → ℕ → List GnuSymbol → Option ℕ
alike_with strings externals name m [] = None
alike_with strings externals name m (s ∷ rest) =
    if counts strings externals s && are_alike name (name_at strings s.place) then Some m
    else alike_with strings externals name (m + 1) rest

-- a symbol whose name is alike with another's
abbrev pub collides : List ℕ → List GnuSymbol → GnuSymbol → Bool
collides strings symbols s = is_some (alike_with strings false (name_at strings s.place) 0 symbols)

-- symbol n stays
abbrev pub stays : Locals → List ℕ → List GnuSymbol → List ℕ → ℕ → GnuSymbol → Bool
stays locals strings symbols words n s =
    not (is_stab strings s) && (is_external s || (is_chosen locals words n && not (collides strings symbols s)))

-- for each symbol from number n on whether it stays
abbrev pub staying_from : Locals → List ℕ → List GnuSymbol → List ℕ → ℕ → List GnuSymbol → List Bool
staying_from locals strings symbols words n [] = []
staying_from locals strings symbols words n (s ∷ rest) =
    stays locals strings symbols words n s ∷ staying_from locals strings symbols words (n + 1) rest

abbrev pub staying : Locals → List ℕ → List GnuSymbol → List ℕ → List Bool
staying locals strings symbols words = staying_from locals strings symbols words 0 symbols

-- the symbols that stay, in their order
abbrev pub pairs_kept : List Bool → List GnuSymbol → List (GnuSymbol × Bool)
pairs_kept flags symbols = filter (λ p. p.1) (zip symbols flags)

abbrev pub kept : List Bool → List GnuSymbol → List GnuSymbol
kept flags symbols = map (λ p. p.0) (pairs_kept flags symbols)

-- how many stay
abbrev pub count : List Bool → ℕ
count flags = length (filter (λ b. b) flags)
