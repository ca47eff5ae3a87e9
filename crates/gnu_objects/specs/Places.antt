-- The byte of a file that a refusal is about.
use Rattle.std.specs.Prelude.{ℕ, ◌+◌, ◌*◌, nat_lt, if◌then◌else◌, List, take, length}
use Rattle.aout_core.specs.declared.object.ObjectFault.TheVariants.{NotAnObject, NoRelocation, BadRelocation, BadSymbolNumber}
use Rattle.aout_core.specs.Encoding.{relocation_at, symbols_at, file_length}
use Rattle.aout_core.specs.{declared.header.Header.Header, Decoding.header_in}
use Rattle.gnu_objects.specs.declared.refusal.Refusal.TheVariants.{ShortHeader, BadMagic, OddSize, Truncated, BadStrings, Overlay, BadPlace}
use Rattle.gnu_objects.specs.declared.refusal.Refusal.TheVariants.{Stab, Description, Linked, TooManySymbols, AlikeNames, StabWord}
use Rattle.gnu_objects.specs.declared.refusal.Refusal.TheVariants.{LocalWord, BadWord, Memory}
use Rattle.gnu_objects.specs.declared.refusal.Size.TheVariants.{TextSize, DataSize, BssSize, SymbolSize}
use Rattle.gnu_objects.specs.declared.refusal.Refusal.{Refusal}

abbrev pub symbol_place : Header → ℕ → ℕ
symbol_place h n = symbols_at h + 8 * n

abbrev pub word_place : Header → ℕ → ℕ
word_place h n = relocation_at h + 2 * n

-- in a file of so many bytes; for a file that is too short the byte is that after its last
abbrev pub place_with : ℕ → Header → Refusal → ℕ
place_with size h ShortHeader = size
place_with size h (BadMagic magic) = 0
place_with size h (OddSize TextSize) = 2
place_with size h (OddSize DataSize) = 4
place_with size h (OddSize BssSize) = 6
place_with size h (OddSize SymbolSize) = 8
place_with size h Truncated = size
place_with size h BadStrings = file_length h
place_with size h (Overlay n) = symbol_place h n
place_with size h (BadPlace n) = symbol_place h n
place_with size h (Stab n) = symbol_place h n
place_with size h (Description n) = symbol_place h n
place_with size h (Linked entry) = 10
place_with size h (TooManySymbols count) = 8
place_with size h (AlikeNames n m) = symbol_place h m
place_with size h (StabWord n) = word_place h n
place_with size h (LocalWord n m) = word_place h n
place_with size h (BadWord NotAnObject) = 0
place_with size h (BadWord NoRelocation) = 14
place_with size h (BadWord (BadRelocation n)) = word_place h n
place_with size h (BadWord (BadSymbolNumber n)) = word_place h n
place_with size h (Memory _) = 0

abbrev pub place_of : List ℕ → Refusal → ℕ
place_of bytes refusal =
    if nat_lt (length bytes) 16 then length bytes else place_with (length bytes) (header_in (take 16 bytes)) refusal
