-- Where an object fits a program, as records. (a.out(5); the records: own choice)
--
-- An object without text, whose words do not refer to it, fits at all addresses or at none. So it has one record, for the first.
use Rattle.std.specs.Prelude.{◌≡◌, ◌⊎◌, ℕ, ◌+◌, ◌*◌, ◌%◌, ◌<◌, ◌≤◌, List, [], ◌∷◌, length, map, take, Option, Some, None, Result, Ok, IsOk}
use Rattle.std.specs.List.{AllByRecursion}
use Rattle.aout_core.specs.{Contents.Contents, Addresses.data_start_in}
use Rattle.link_out.specs.Steps.{and_then}
use Rattle.origins.specs.Fits.{ArePlaces, FitsAt}
use Rattle.libv7.specs.{declared.cause.Refusal.Refusal, declared.places_call.PlaceRecord.PlaceRecord}
use Rattle.libv7.specs.{Causes.at, FileAnswers.{file_in, object_in}, MemoryWanted.HasBody}

-- the program and the object, which have the numbers 0 and 1
abbrev pub files_in : List ℕ → List ℕ → Result (Contents × Contents) Refusal
files_in program object = and_then (at 0 (file_in program)) (λ p. and_then (at 1 (object_in object)) (λ o. Ok (p, o)))

-- memory may run out for the program, for the object, or for its places
abbrev pub PlacesMayRunOut : List ℕ → List ℕ → ℕ → Type 0
PlacesMayRunOut program object place =
    ((place ≡ 0) × (HasBody program ⊎ IsOk (files_in program object)))
    ⊎ ((place ≡ 1) × IsOk (file_in program) × HasBody object)

-- ---- data

-- the object fits with its text at an address, and its data at this word of the program's
abbrev pub FitsWith : Contents → Contents → ℕ → ℕ → Type 0
FitsWith program object text word = (word ≤ length program.data_words) × FitsAt program object text (2 * word)

-- this number alone, or none, as there are several
abbrev pub IsOnly : (ℕ → Type 0) → Option ℕ → Type 0
IsOnly Is None = (j : ℕ) × (k : ℕ) × (j < k) × Is j × Is k
IsOnly Is (Some k) = Is k × ((j : ℕ) → Is j → j ≡ k)

abbrev pub IsWordFor : List ℕ → (ℕ → Type 0) → Option ℕ → Type 0
IsWordFor [] Is word = word ≡ None
IsWordFor (w ∷ ws) Is word = IsOnly Is word

-- the word of the program's data at which the object's begins; none if it has no data, or fits with it at several
abbrev pub IsWordOf : Contents → Contents → ℕ → Option ℕ → Type 0
IsWordOf program object text word = IsWordFor object.data_words (FitsWith program object text) word

-- ---- text

abbrev pub AreTextsFor : List ℕ → Contents → Contents → List ℕ → Type 0
AreTextsFor [] program object texts = (all : List ℕ) × ArePlaces program object all × (texts ≡ take 1 all)
AreTextsFor (w ∷ ws) program object texts = ArePlaces program object texts

-- the addresses of text at which the object fits, or the first of them
abbrev pub AreTexts : Contents → Contents → List ℕ → Type 0
AreTexts program object texts = AreTextsFor object.text_words program object texts

-- ---- records

abbrev pub place_record : Contents → ℕ → Option ℕ → PlaceRecord
place_record program text None = record { text = text; «data» = 0; has_data = 0 }
place_record program text (Some word) =
    record { text = text; «data» = (data_start_in program.header + 2 * word) % 65536; has_data = 1 }

pub record IsRecord (program object : Contents) (r : PlaceRecord) : Type 0 where
  pub word : Option ℕ
  pub data_at : IsWordOf program object r.text word
  pub same : r ≡ place_record program r.text word

-- in the order of these addresses
pub record AreRecords (program object : Contents) (records : List PlaceRecord) : Type 0 where
  pub texts : AreTexts program object (map (λ (r : PlaceRecord). r.text) records)
  pub each : AllByRecursion (IsRecord program object) records

-- of the files that the bytes begin with
pub record AreFound (program object : List ℕ) (records : List PlaceRecord) : Type 0 where
  pub file : Contents
  pub input : Contents
  pub read : files_in program object ≡ Ok (file, input)
  pub found : AreRecords file input records
