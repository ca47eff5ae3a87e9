-- What is odd in a file, and not refused. (a.out(5), ld(1); what counts as odd: own choice)
--
-- The header comes first, then the relocation words of text and of data, and then the symbols. Each finding has the byte of the file
-- at which the odd field begins.
use Rattle.std.specs.Prelude.{ℕ, ◌+◌, ◌-◌, ◌*◌, ◌/◌, ◌%◌, Bool, true, false, not, ◌&&◌, ◌||◌, eqb, nat_lt, nat_le, if◌then◌else◌, List, []}
use Rattle.std.specs.{Prelude.{◌∷◌, ◌++◌, take, drop, length, bytes_eq, Option, Some, None, is_some}, List.{flat_map, list_any}}
use Rattle.std.specs.{Char.is_ascii_uppercase, Str.str_eq_ignore_ascii_case}
use Rattle.aout_core.specs.WellFormed.{is_external, is_undefined, kind_of, masked_type, segment_of, symbol_number}
use Rattle.aout_core.specs.{declared.header.Header.Header, declared.symbol.Symbol.Symbol}
use Rattle.aout_core.specs.{declared.reloc.Reloc.Reloc, declared.reloc.Kind.Kind, declared.reloc.Kind.TheVariants.External}
use Rattle.aout_core.specs.{Contents.Contents, Encoding.symbols_at, Encoding.file_length, Addresses.target, Placed.placed_words}
use Rattle.aout_core.specs.{declared.placed.PlacedWord.PlacedWord, declared.part.Part.TheVariants.Text, declared.part.Part.TheVariants.Data}
use Rattle.texts.specs.Names.{is_printable}
use Rattle.checks.specs.declared.finding.FindingKind.TheVariants.{IgnoredEntry, IgnoredWord, BytesAfterTable, IgnoredRelocationBits}
use Rattle.checks.specs.declared.finding.FindingKind.TheVariants.{OutsideReference, EmptyName, UnprintableName, BytesAfterName}
use Rattle.checks.specs.declared.finding.FindingKind.TheVariants.{NoRoom, UnusedName, SimilarName, RepeatedName, IgnoredTypeBits, UnknownType, OddCommon, OutsideValue}
use Rattle.checks.specs.{Found.Found, Found.found_as, Found.found_if, Segments.bss_to, Segments.has_address, Segments.segment_meant}
use Rattle.checks.specs.Outside.{is_byte, is_sure_word, is_sure_value}

-- the entry point of a file with relocation
abbrev pub odd_entry : Header → List Found
odd_entry h = found_if (not (eqb h.entry_point 0) && eqb h.flag 0) 10 IgnoredEntry

abbrev pub odd_unused : Header → List Found
odd_unused h = found_if (not (eqb h.unused 0)) 12 IgnoredWord

-- bytes after the table; zeros may fill a block
abbrev pub odd_rest : Header → List ℕ → List Found
odd_rest h bytes =
    found_as (list_any is_byte (drop (file_length h) bytes)) (nat_lt (file_length h) (length bytes)) (file_length h) BytesAfterTable

-- memory has 65,536 bytes; with split spaces text and data may have as many each
abbrev pub odd_room : Header → List Found
odd_room h = found_as (nat_lt 65535 (h.data_size + h.bss_size)) (nat_lt 65535 (bss_to h)) 2 NoRoom

abbrev pub odd_header : Header → List ℕ → List Found
odd_header h bytes = odd_entry h ++ odd_unused h ++ odd_rest h bytes ++ odd_room h

-- the bits above 17 count for an external alone
abbrev pub ignores_number : Option Kind → Bool
ignores_number None = false
ignores_number (Some External) = false
ignores_number (Some _) = true

-- a word by its relocation word: bits that are ignored, and an address outside of its segment
abbrev pub odd_reloc : Contents → PlacedWord → Option Reloc → List Found
odd_reloc c w None = []
odd_reloc c w (Some r) =
    found_if (nat_le 0o20 r.0 && ignores_number (kind_of r)) w.reloc_place IgnoredRelocationBits
    ++ found_as (is_sure_word c w.part w.number (segment_meant (kind_of r)) r (target r w.word w.address))
    (not (has_address c.header (segment_meant (kind_of r)) (target r w.word w.address))) w.reloc_place OutsideReference

abbrev pub odd_word : Contents → PlacedWord → List Found
odd_word c w = odd_reloc c w w.reloc

-- the byte does not print; a backslash does, though names that are shown have it as `\134`
abbrev pub is_hidden : ℕ → Bool
is_hidden byte = not (is_printable byte) && not (eqb byte 92)

-- the bytes of a name's field after the name; none if the bytes end before the field does
abbrev pub after_name : List ℕ → ℕ → Symbol → List ℕ
after_name bytes place s = if nat_lt (length bytes) (place + 8) then [] else take (8 - length s.name) (drop (place + length s.name) bytes)

-- types 0 to 4, a register and a file name
abbrev pub has_type : Symbol → Bool
has_type s = nat_lt (masked_type s) 5 || (eqb (masked_type s) 0o24 || eqb (masked_type s) 0o37)

-- of a symbol whose entry begins at this byte, and whose name an earlier external has or not: what is odd of its name
abbrev pub odd_name : List ℕ → Bool → ℕ → Symbol → List Found
odd_name bytes is_again place s =
    found_if (eqb (length s.name) 0) place EmptyName
    ++ found_if (list_any is_hidden s.name) place UnprintableName
    ++ found_if (list_any is_byte (after_name bytes place s)) place BytesAfterName
    ++ found_if is_again place RepeatedName

-- and of its type word and its value; a common of an odd size, if these are wanted
abbrev pub odd_fields : Bool → Contents → ℕ → Symbol → List Found
odd_fields commons c place s =
    found_if (nat_le 0o100 s.type_bits) (place + 8) IgnoredTypeBits
    ++ found_if (not (has_type s)) (place + 8) UnknownType
    ++ found_if (commons && (is_undefined s && eqb (s.value % 2) 1)) (place + 10) OddCommon
    ++ found_if (is_undefined s && nat_lt 0o157777 s.value) (place + 10) NoRoom
    ++ found_as (is_sure_value c s) (not (has_address c.header (segment_of s) s.value)) (place + 10) OutsideValue

-- a symbol of a kind has a name; names are equal in eight bytes
abbrev pub has_name : (Symbol → Bool) → Symbol → List ℕ → Bool
has_name is_of s name = is_of s && bytes_eq s.name name

-- the number of the first symbol of a kind that has a name, if the first of these symbols has number n
abbrev pub first_named_from : (Symbol → Bool) → ℕ → List ℕ → List Symbol → Option ℕ
first_named_from is_of n name [] = None
first_named_from is_of n name (s ∷ ss) = if has_name is_of s name then Some n else first_named_from is_of (n + 1) name ss

abbrev pub first_named : (Symbol → Bool) → List ℕ → List Symbol → Option ℕ
first_named is_of name symbols = first_named_from is_of 0 name symbols

-- the number of the first of these that has the name of an external; locals may have any names
abbrev pub first_alike : Symbol → List Symbol → Option ℕ
first_alike s earlier = if is_external s then first_named is_external s.name earlier else None

abbrev pub symbol_at : Header → ℕ → ℕ
symbol_at h n = symbols_at h + 12 * n

-- a relocation word refers to the symbol of a number
abbrev pub refers_to : ℕ → Reloc → Bool
refers_to n r = eqb (r.0 / 2 % 8) 4 && eqb (symbol_number r) n

abbrev pub is_used : Contents → ℕ → Bool
is_used c n = list_any (refers_to n) c.text_reloc || list_any (refers_to n) c.data_reloc

-- an object does not define a name, and has no common of it
abbrev pub is_mention : Contents → Symbol → Bool
is_mention c s = eqb c.header.flag 0 && (is_undefined s && eqb s.value 0)

abbrev pub is_unused : Contents → ℕ → Symbol → Bool
is_unused c n s = is_mention c s && not (is_used c n)

-- a symbol of text, data or bss
abbrev pub is_placed : Symbol → Bool
is_placed s = not (nat_lt (masked_type s) 2) && not (nat_lt 4 (masked_type s))

abbrev pub is_placed_local : Symbol → Bool
is_placed_local s = not (is_external s) && is_placed s

-- its name is another one of the same letters
abbrev pub is_like : List ℕ → Symbol → Bool
is_like name s = is_placed s && (not (bytes_eq s.name name) && str_eq_ignore_ascii_case s.name name)

-- an undefined symbol was probably meant to be a local of its name, or has a capital, and a symbol has another name of the same letters. A
-- function may be named as one that it calls but for a capital, as `_Exit` and `_exit`
abbrev pub has_similar : Contents → Symbol → Bool
has_similar c s = is_mention c s && (is_some (first_named is_placed_local s.name c.symbols)
    || (list_any is_ascii_uppercase s.name && list_any (is_like s.name) c.symbols))

-- an undefined symbol that no word uses, or that was probably meant to be another one
abbrev pub odd_mention : Contents → ℕ → ℕ → Symbol → List Found
odd_mention c place n s = found_as false (is_unused c n s) place UnusedName ++ found_as false (has_similar c s) place SimilarName

-- symbol number n, which follows these in the table
abbrev pub odd_symbol : Bool → Contents → List ℕ → Option ℕ → ℕ → Symbol → List Found
odd_symbol commons c bytes first n s =
    odd_name bytes (is_some first) (symbol_at c.header n) s
    ++ odd_fields commons c (symbol_at c.header n) s
    ++ odd_mention c (symbol_at c.header n) n s

-- the symbols from number n on
abbrev pub odd_symbols : Bool → Contents → List ℕ → ℕ → List Symbol → List Found
odd_symbols commons c bytes n [] = []
odd_symbols commons c bytes n (s ∷ ss) =
    odd_symbol commons c bytes (first_alike s (take n c.symbols)) n s ++ odd_symbols commons c bytes (n + 1) ss

-- all that is odd, with the commons of odd sizes or without them
abbrev pub odd : Bool → List ℕ → Contents → List Found
odd commons bytes c =
    odd_header c.header bytes
    ++ flat_map (odd_word c) (placed_words c Text)
    ++ flat_map (odd_word c) (placed_words c Data)
    ++ odd_symbols commons c bytes 0 c.symbols
