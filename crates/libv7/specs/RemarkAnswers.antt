-- What a call remarks of a file: what is wrong and odd in it, as records with their texts.
--
-- Each record has the place of its text among all texts, which are one after another. What a text says is in no definition.
use Rattle.std.specs.Prelude.{◌≡◌, ℕ, ◌+◌, ◌-◌, ◌/◌, true, ◌||◌, nat_le, nat_lt, if◌then◌else◌, List, [], ◌∷◌, ◌++◌, length, Option, Some}
use Rattle.std.specs.{Prelude.{None, Result, Ok, Err}, List.flat_map}
use Rattle.aout_core.specs.{Decoding.decode, WellFormed.first_object_fault, declared.file.ReadFault.ReadFault}
use Rattle.aout_core.specs.{Encoding.{relocation_at, symbols_at, file_length}, declared.header.Header.Header, Contents.Contents}
use Rattle.checks.specs.{Suspicions.all_odd, declared.evidence.Evidence.TheVariants.Flow}
use Rattle.checks.specs.{Found.{Found, each_found, kind_number}, Wrong.{wrong_bytes, wrong_in}, declared.finding.Finding.Finding}
use Rattle.libv7.specs.declared.remarks_call.Located.{Located}
use Rattle.libv7.specs.{declared.remarks_call.RemarkRecord.RemarkRecord, declared.remarks_call.Remarks.Remarks}

-- ---- the part of a file that a byte is in, and the word or the symbol there

abbrev pub elsewhere : Located
elsewhere = record { part = 0; word = 0 }

-- 1, text, or 2, data; the index counts text before data
abbrev pub at_word : Header → ℕ → Located
at_word h index = record { part = if nat_lt index (h.text_size / 2) then 1 else 2; word = index }

-- a relocation word is where the word is to which it belongs; 4 is the symbol table. Bytes that do not begin with a file have no parts
abbrev pub located_in : Option Header → ℕ → Located
located_in None place = elsewhere
located_in (Some h) place =
    if nat_lt place 16 || nat_le (file_length h) place then elsewhere
    else (if nat_le (symbols_at h) place then record { part = 4; word = (place - symbols_at h) / 12 }
    else (if nat_le (relocation_at h) place then at_word h ((place - relocation_at h) / 2)
    else at_word h ((place - 16) / 2)))

-- the texts, one after another
abbrev pub texts_of : List Finding → List ℕ
texts_of findings = flat_map (λ (f : Finding). f.text.items) findings

-- the records of these, whose texts begin at this place of all texts
abbrev pub records_from : Option Header → ℕ → List Finding → List RemarkRecord
records_from h at [] = []
records_from h at (f ∷ fs) = record {
  place = f.place;
  text = at;
  text_size = length f.text.items;
  kind = kind_number f.kind;
  part = (located_in h f.place).part;
  word = (located_in h f.place).word;
} ∷ records_from h (at + length f.text.items) fs

-- ---- what is remarked

-- a status, bytes, and a list of records
pub record Output (A : Type 0) : Type 0 where
  pub status : ℕ
  pub bytes : List ℕ
  pub records : List A

-- 1 if something is wrong
abbrev pub status_by : List Finding → ℕ
status_by [] = 0
status_by (f ∷ fs) = 1

abbrev pub remarked_by : Option Header → List Finding → List Finding → Output RemarkRecord
remarked_by h wrong odd = record {
  status = status_by wrong;
  bytes = texts_of (wrong ++ odd);
  records = records_from h 0 (wrong ++ odd);
}

-- these are found, each with some text, and remarked
pub record IsRemarkedBy (h : Option Header) (found more : List Found) (x : Output RemarkRecord) : Type 0 where
  pub wrong : List Finding
  pub odd : List Finding
  pub are_wrong : each_found wrong ≡ found
  pub are_odd : each_found odd ≡ more
  pub remarked : x ≡ remarked_by h wrong odd

-- what is wrong in the bytes, and then what is odd in the file that they begin with, if it is that
abbrev pub IsRemarkedOf : List ℕ → Result Contents ReadFault → Output RemarkRecord → Type 0
IsRemarkedOf bytes (Err fault) x = IsRemarkedBy None (wrong_bytes fault bytes) [] x
IsRemarkedOf bytes (Ok c) x = IsRemarkedBy (Some c.header) (wrong_in (first_object_fault c) c) (all_odd Flow true bytes c) x

abbrev pub IsRemarked : List ℕ → Output RemarkRecord → Type 0
IsRemarked bytes x = IsRemarkedOf bytes (decode bytes) x

abbrev pub remarks_in : Remarks → Output RemarkRecord
remarks_in x = record { status = x.status; bytes = x.texts.items; records = x.records.items }
