-- What a call answers for one file, by its bytes. (strip(1), nm(1), size(1); instructions and the refusals: own choice)
--
-- The file is the one that the bytes begin with; what follows it is ignored.
use Rattle.std.specs.Prelude.{◌≡◌, ℕ, ◌%◌, ◌/◌, Bool, false, eqb, nat_lt, if◌then◌else◌, List, [], ◌∷◌, Result, Ok, Err}
use Rattle.aout_core.specs.Encoding.{file_length, encoding}
use Rattle.aout_core.specs.{Contents.Contents, Decoding.decode, Strip.stripped, WellFormed.first_object_fault}
use Rattle.link_out.specs.Steps.{and_then, refused_as, unless}
use Rattle.link_out.specs.Inputs as inputs
use Rattle.tool_options.specs.declared.nm_options.NmOptions.{NmOptions}
use Rattle.symtools.specs.{NmLists.nm_text, SizeLines.size_text}
use Rattle.libv7.specs.declared.cause.Cause.TheVariants.{NoOption, BadFile, BadObject}
use Rattle.libv7.specs.{declared.cause.Cause.Cause, Causes.cause_of_input}

-- the file that the bytes begin with
abbrev pub file_in : List ℕ → Result Contents Cause
file_in bytes = refused_as BadFile (decode bytes)

abbrev pub object_of : Contents → Result Contents Cause
object_of c = unless BadObject (first_object_fault c) c

-- the object that the bytes begin with, as an input of a link
abbrev pub object_in : List ℕ → Result Contents Cause
object_in bytes = refused_as cause_of_input (inputs.object_in (decode bytes))

-- how many bytes the object takes
abbrev pub checked_in : List ℕ → Result ℕ Cause
checked_in bytes = and_then (object_in bytes) (λ c. Ok (file_length c.header))

abbrev pub stripped_in : List ℕ → Result (List ℕ) Cause
stripped_in bytes = and_then (file_in bytes) (λ c. Ok (encoding (stripped c)))

-- the line of size, without a path
abbrev pub sizes_in : List ℕ → Result (List ℕ) Cause
sizes_in bytes = and_then (file_in bytes) (λ c. Ok (size_text (([], c) ∷ [])))

-- a text of what there is, of which this holds
abbrev pub IsTextOf : {A : Type 0} → (A → List ℕ → Type 0) → Result A Cause → List ℕ → Type 0
IsTextOf {A} Is found text = (x : A) × (found ≡ Ok x) × Is x text

-- any text
abbrev pub IsAny : {A : Type 0} → A → List ℕ → Type 0
IsAny x text = Unit {0}

-- the bit at a place, of value 1, 2, 4 ..
abbrev pub has_bit : ℕ → ℕ → Bool
has_bit bits place = eqb (bits / place % 2) 1

-- 1: -g, 2: -n, 4: -p, 8: -r, 16: -u
abbrev pub nm_options_in : ℕ → Result NmOptions Cause
nm_options_in bits = if nat_lt 31 bits then Err NoOption else Ok (record {
  external = has_bit bits 1;
  by_value = has_bit bits 2;
  each_line = false;
  table_order = has_bit bits 4;
  reverse = has_bit bits 8;
  undefined = has_bit bits 16;
})

-- the lines of nm, without a path
abbrev pub names_in : ℕ → List ℕ → Result (List ℕ) Cause
names_in bits bytes = and_then (nm_options_in bits) (λ o. and_then (file_in bytes) (λ c. Ok (nm_text o (([], c) ∷ []))))
