-- What is damaged in a file: why it is refused, at which byte, and in which words. (a.out(5); the refusals: own choice)
use Rattle.std.specs.Prelude.{ℕ, ◌+◌, ◌*◌, ◌%◌, Bool, true, false, not, eqb, nat_lt, if◌then◌else◌, List, [], ◌∷◌, ◌++◌, take, length}
use Rattle.std.specs.Prelude.{Option, Some, None}
use Rattle.aout_core.specs.{declared.header.Header.Header, declared.reloc.Reloc.Reloc, declared.file.ReadFault.ReadFault}
use Rattle.aout_core.specs.{declared.object.ObjectFault.ObjectFault, Contents.Contents, Encoding.relocation_at, Decoding.header_in}
use Rattle.aout_core.specs.{WellFormed.word_fault}
use Rattle.aout_core.specs.declared.file.ReadFault.TheVariants as faults
use Rattle.aout_core.specs.declared.object.ObjectFault.TheVariants as refusals
use Rattle.checks.specs.declared.finding.FindingKind.TheVariants.{ShortHeader, BadMagic, OddSize, Truncated, BadRelocation}
use Rattle.checks.specs.declared.finding.FindingKind.TheVariants.{BadSymbolNumber, MoreBadWords}
use Rattle.checks.specs.{declared.finding.FindingKind.FindingKind, Found.Found, Found.found_if}

-- the size of a part, at its word of the header
abbrev pub odd_size : ℕ → ℕ → List Found
odd_size place size = found_if (not (eqb (size % 2) 0)) place OddSize

-- each size that is not whole
abbrev pub odd_sizes : Header → List Found
odd_sizes h =
    odd_size 2 h.text_size ++ odd_size 4 h.data_size ++ odd_size 6 h.bss_size
    ++ found_if (not (eqb (h.symbol_size % 12) 0)) 8 OddSize

-- bytes that are not a file, for this reason
abbrev pub wrong_by : ReadFault → List ℕ → List Found
wrong_by faults.BadMagic bytes = found_if true 0 BadMagic
wrong_by faults.OddSize bytes = odd_sizes (header_in bytes)
wrong_by _ bytes = found_if true (length bytes) Truncated

abbrev pub wrong_bytes : ReadFault → List ℕ → List Found
wrong_bytes fault bytes = if nat_lt (length bytes) 16 then found_if true (length bytes) ShortHeader else wrong_by fault bytes

-- a word makes ld refuse it
abbrev pub is_damaged : Option ObjectFault → Bool
is_damaged (Some (refusals.BadRelocation _)) = true
is_damaged (Some (refusals.BadSymbolNumber _)) = true
is_damaged _ = false

-- what is wrong with a relocation word, by what makes ld refuse an object
abbrev pub fault_kind : Option ObjectFault → Option FindingKind
fault_kind (Some (refusals.BadRelocation _)) = Some BadRelocation
fault_kind (Some (refusals.BadSymbolNumber _)) = Some BadSymbolNumber
fault_kind _ = None

abbrev pub bad_word : ℕ → Option FindingKind → List Found
bad_word place None = []
bad_word place (Some kind) = found_if true place kind

-- the words from number n on that make ld refuse an object, by their relocation words; that of word 0 is at this byte
abbrev pub bad_words : Contents → ℕ → ℕ → List Reloc → List Found
bad_words c place n [] = []
bad_words c place n (r ∷ rs) =
    bad_word (place + 2 * n) (fault_kind (word_fault c.symbols 0 r)) ++ bad_words c place (n + 1) rs

abbrev pub all_bad_words : Contents → List Found
all_bad_words c = bad_words c (relocation_at c.header) 0 (c.text_reloc ++ c.data_reloc)

-- that there are more than 16, of so many
abbrev pub more_bad_words : Header → ℕ → List Found
more_bad_words h count = found_if (nat_lt 16 count) (relocation_at h) MoreBadWords

-- the first 16 one by one, and that there are more
abbrev pub wrong_words : Contents → List Found
wrong_words c = take 16 (all_bad_words c) ++ more_bad_words c.header (length (all_bad_words c))

-- of a file that ld refuses for this reason, if it does
abbrev pub wrong_in : Option ObjectFault → Contents → List Found
wrong_in refused c = if is_damaged refused then wrong_words c else []
