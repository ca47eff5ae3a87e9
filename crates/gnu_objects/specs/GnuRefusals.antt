-- Why an object in GNU's form is refused, the first reason that applies.
--
-- First the header and the sizes are checked, then the strings, each symbol, the entry point, the number of symbols that stay, the
-- externals, of which no two may be equal in eight bytes only, and last the relocation words.
use Rattle.std.specs.Prelude.{ℕ, ◌+◌, ◌/◌, ◌%◌, Bool, true, false, ◌&&◌, ◌||◌, ◌==◌, not, nat_lt, nat_le, if◌then◌else◌, List, [], ◌∷◌}
use Rattle.std.specs.{Prelude.{take, length, slice_get, Option, Some, None, option_map}, Option.option_or}
use Rattle.aout_core.specs.{declared.header.Header.Header, Decoding.header_in, Encoding.file_length}
use Rattle.gnu_objects.specs.declared.refusal.Refusal.TheVariants.{ShortHeader, BadMagic, OddSize, Truncated, BadStrings, Overlay, BadPlace}
use Rattle.gnu_objects.specs.declared.refusal.Refusal.TheVariants.{Stab, Description, Linked, TooManySymbols, AlikeNames, StabWord}
use Rattle.gnu_objects.specs.declared.refusal.{Refusal.TheVariants.LocalWord, Refusal.Refusal}
use Rattle.gnu_objects.specs.declared.refusal.Size.TheVariants as sizes
use Rattle.gnu_objects.specs.{declared.symbols.GnuSymbol.GnuSymbol, GnuForm.{is_stab, long_at, name_at}, Staying.{counts, alike_with, refers, count}}

-- what is wrong with the header of a file of so many bytes
abbrev pub header_refusal : ℕ → Header → Option Refusal
header_refusal size h =
    if nat_lt size 16 then Some ShortHeader
    else (if not (h.magic == 0o407) then Some (BadMagic h.magic)
    else (if not (h.text_size % 2 == 0) then Some (OddSize sizes.TextSize)
    else (if not (h.data_size % 2 == 0) then Some (OddSize sizes.DataSize)
    else (if not (h.bss_size % 2 == 0) then Some (OddSize sizes.BssSize)
    else (if not (h.symbol_size % 8 == 0) then Some (OddSize sizes.SymbolSize)
    else (if nat_lt size (file_length h) then Some Truncated else None))))))

-- what is wrong with the strings
abbrev pub strings_refusal : List ℕ → Header → Option Refusal
strings_refusal bytes h =
    if h.symbol_size == 0 then None
    else (if nat_lt (length bytes) (file_length h + 4) then Some Truncated
    else (if nat_lt (long_at bytes (file_length h)) 4 then Some BadStrings
    else (if nat_lt (length bytes) (file_length h + long_at bytes (file_length h)) then Some Truncated
    else None)))

-- what is wrong with the header, the sizes and the strings, which is known before any memory is requested
abbrev pub sizes_refusal_under : List ℕ → Header → Option Refusal
sizes_refusal_under bytes h = option_or (header_refusal (length bytes) h) (strings_refusal bytes h)

abbrev pub sizes_refusal : List ℕ → Option Refusal
sizes_refusal bytes = sizes_refusal_under bytes (header_in (take 16 bytes))

-- the first refusal of these, from number n on
abbrev pub first_refusal : {A : Type 0} → (ℕ → A → Option Refusal) → ℕ → List A → Option Refusal
first_refusal refusal n [] = None
first_refusal refusal n (x ∷ rest) = option_or (refusal n x) (first_refusal refusal (n + 1) rest)

-- what is wrong with symbol n: an overlay, a name that is not in the strings, a symbol for a debugger that is not to be dropped, or
-- a description, which only such symbols have
abbrev pub symbol_refusal : List ℕ → Bool → ℕ → GnuSymbol → Option Refusal
symbol_refusal strings drops n s =
    if not (s.overlay == 0) then Some (Overlay n)
    else (if nat_le (length strings) s.place || (nat_lt 0 s.place && nat_lt s.place 4) then Some (BadPlace n)
    else (if is_stab strings s then (if drops then None else Some (Stab n))
    else (if not (s.description == 0) then Some (Description n)
    else None)))

-- symbol n is an external whose name is alike with that of another one of these
abbrev pub alike_refusal : List ℕ → List GnuSymbol → ℕ → GnuSymbol → Option Refusal
alike_refusal strings symbols n s =
    if counts strings true s then option_map (AlikeNames n) (alike_with strings true (name_at strings s.place) 0 symbols) else None

-- the first two externals whose names are alike
abbrev pub first_alike : List ℕ → List GnuSymbol → Option Refusal
first_alike strings symbols = first_refusal (alike_refusal strings symbols) 0 symbols

-- word n refers to symbol m, and whether this stays is known
abbrev pub dropped_refusal : List ℕ → ℕ → ℕ → Option GnuSymbol → Option Bool → Option Refusal
dropped_refusal strings n m (Some s) (Some false) = Some (if is_stab strings s then StabWord n else LocalWord n m)
dropped_refusal strings n m _ _ = None

-- word n refers to a symbol that does not stay
abbrev pub word_refusal : List ℕ → List GnuSymbol → List Bool → ℕ → ℕ → Option Refusal
word_refusal strings symbols flags n w =
    if refers w then dropped_refusal strings n (w / 16) (slice_get symbols (w / 16)) (slice_get flags (w / 16)) else None

-- what is wrong with the symbols, and with the words that refer to them. A linked program has no relocation, since it was stripped, and an
-- entry point, which an assembler does not give; a table of the Seventh Edition has 5,461 symbols at most
abbrev pub table_refusal : Bool → Header → List ℕ → List GnuSymbol → List ℕ → List Bool → Option Refusal
table_refusal drops h strings symbols words flags =
    option_or (first_refusal (symbol_refusal strings drops) 0 symbols)
    (option_or (if not (h.flag == 0) && not (h.entry_point == 0) then Some (Linked h.entry_point) else None)
    (option_or (if nat_lt 5461 (count flags) then Some (TooManySymbols (count flags)) else None)
    (option_or (first_alike strings symbols)
    (first_refusal (word_refusal strings symbols flags) 0 words))))
