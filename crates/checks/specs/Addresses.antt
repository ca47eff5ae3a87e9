-- What is suspicious of addresses in text, if all of it is instructions: no instruction begins there. (a.out(5); what is suspicious: own
-- choice)
--
-- By that promise an instruction begins at each symbol of text, and where a word of kind text refers to without the pc bit. It begins at an
-- even address, not within another instruction, and not at the end of an object's text, where data begins; a linked file has `_etext` there.
-- Some symbol is of text, or an absolute external has an address of the text by mistake. An address outside of text is odd in any file, and
-- is not counted here.
use Rattle.std.specs.Prelude.{ℕ, ◌+◌, ◌*◌, ◌/◌, ◌%◌, Bool, not, ◌&&◌, ◌||◌, eqb, nat_lt, if◌then◌else◌, List, [], ◌∷◌, ◌++◌, length}
use Rattle.std.specs.{Prelude.{Option, Some, None, is_some}, List.{flat_map, list_any}}
use Rattle.aout_core.specs.{declared.symbol.Symbol.Symbol, declared.symbol.Segment.TheVariants.Absolute, declared.reloc.Reloc.Reloc}
use Rattle.aout_core.specs.{Contents.Contents, Placed.placed_words, declared.placed.PlacedWord.PlacedWord}
use Rattle.aout_core.specs.{declared.part.Part.TheVariants.{Text, Data}, WellFormed.{is_external, masked_type, segment_number}}
use Rattle.checks.specs.{declared.finding.FindingKind.TheVariants.{UnsuitableAddress, AbsoluteText}, Found.{Found, found_if}}
use Rattle.checks.specs.{Segments.bss_to, declared.evidence.Evidence.Evidence, declared.evidence.Evidence.TheVariants.Promise}
use Rattle.checks.specs.{Odd.symbol_at, Reached.is_text, Trust.entered}

-- no instruction begins at an address of the text or at its end
abbrev pub is_misplaced : Evidence → Contents → ℕ → Bool
is_misplaced e c n =
    not (nat_lt (2 * length c.text_words) n)
    && (eqb (n % 2) 1 || (if nat_lt n (2 * length c.text_words) then is_some (entered e c (n / 2))
    else eqb c.header.flag 0 && nat_lt n (bss_to c.header)))

-- an external that is absolute has an address of the text
abbrev pub is_absolute_text : Contents → Symbol → Bool
is_absolute_text c s =
    is_external s && (eqb (masked_type s) (segment_number Absolute) && nat_lt s.value (2 * length c.text_words))

-- whether some symbol is of text, and one whose entry is at this byte
abbrev pub suspicious_symbol : Evidence → Contents → Bool → ℕ → Symbol → List Found
suspicious_symbol e c named place s =
    found_if (is_text s && is_misplaced e c s.value) (place + 10) UnsuitableAddress
    ++ found_if (not named && is_absolute_text c s) (place + 8) AbsoluteText

-- the symbols from number n on
abbrev pub suspicious_symbols : Evidence → Contents → Bool → ℕ → List Symbol → List Found
suspicious_symbols e c named n [] = []
suspicious_symbols e c named n (s ∷ ss) =
    suspicious_symbol e c named (symbol_at c.header n) s ++ suspicious_symbols e c named (n + 1) ss

-- a word, by its relocation word
abbrev pub suspicious_reloc : Evidence → Contents → PlacedWord → Option Reloc → List Found
suspicious_reloc e c w None = []
suspicious_reloc e c w (Some r) = found_if (eqb (r.0 % 0o20) 2 && is_misplaced e c w.word) w.place UnsuitableAddress

abbrev pub suspicious_word : Evidence → Contents → PlacedWord → List Found
suspicious_word e c w = suspicious_reloc e c w w.reloc

-- all addresses in text, if all of it is instructions
abbrev pub suspicious_addresses : Evidence → Contents → List Found
suspicious_addresses Promise c =
    flat_map (suspicious_word Promise c) (placed_words c Text)
    ++ flat_map (suspicious_word Promise c) (placed_words c Data)
    ++ suspicious_symbols Promise c (list_any is_text c.symbols) 0 c.symbols
suspicious_addresses _ c = []
