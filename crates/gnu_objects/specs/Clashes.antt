-- Externals whose names differ, and are equal in eight bytes.
use Rattle.std.specs.Prelude.{ℕ, Bool, true, not, ◌==◌, if◌then◌else◌, List, [], ◌∷◌, ◌++◌, length, map, take, Option, Some, None}
use Rattle.std.specs.List.{flat_map, list_any}
use Rattle.aout_core.specs.{declared.header.Header.Header, Decoding.header_in}
use Rattle.gnu_objects.specs.{declared.refusal.Refusal.Refusal, declared.symbols.GnuSymbol.GnuSymbol, GnuForm.name_at, GnuForm.strings_of}
use Rattle.gnu_objects.specs.{declared.clash.Clash.Clash, GnuForm.symbols_of, GnuRefusals.sizes_refusal, Staying.are_alike, Staying.counts}

-- the names of the externals among these symbols
abbrev pub externals_in : List ℕ → List GnuSymbol → List (List ℕ)
externals_in strings [] = []
externals_in strings (s ∷ rest) =
    if counts strings true s then name_at strings s.place ∷ externals_in strings rest else externals_in strings rest

abbrev pub externals_unless : Option Refusal → List ℕ → Header → List (List ℕ)
externals_unless None bytes h = externals_in (strings_of bytes h) (symbols_of bytes h)
externals_unless (Some refusal) bytes h = []

-- those of a file; one that is refused for its header, its sizes or its strings has none
abbrev pub externals_of : List ℕ → List (List ℕ)
externals_of bytes = externals_unless (sizes_refusal bytes) bytes (header_in (take 16 bytes))

-- a name, if it differs from one of these before it, and is equal to that in eight bytes
abbrev pub clashing : List (List ℕ) → List ℕ → List (List ℕ)
clashing before name = if list_any (are_alike name) before then name ∷ [] else []

-- those of these names that do, after others
abbrev pub alike_after : List (List ℕ) → List (List ℕ) → List (List ℕ)
alike_after before [] = []
alike_after before (name ∷ names) = clashing before name ++ alike_after (before ++ name ∷ []) names

-- the names of the externals of these files that do
abbrev pub clashes_of : List (List ℕ) → List (List ℕ)
clashes_of files = alike_after [] (flat_map externals_of files)

abbrev pub has_clash : List (List ℕ) → Bool
has_clash files = not (length (clashes_of files) == 0)

-- the names of the externals that clash with earlier ones
abbrev pub names_of : List Clash → List (List ℕ)
names_of clashes = map (λ (c : Clash). c.second.now) clashes
