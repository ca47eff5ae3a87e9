-- Which call the arguments ask for, and what holds of every call. (ld(1), nm(1), size(1), strip(1))
--
-- A call is a tool with its options and files. Arguments ask for a call if `clap` takes them, they name its tool, and its options
-- and files are those that `clap` reads from them. Without files nm and size take the program, `a.out`.
use Rattle.std.specs.Prelude.{◌≡◌, ◌<◌, ℕ, List, [], ◌∷◌, map, filter, length, Ok, Some, bytes_eq, codes, string_bytes, unwrap_or, vec_len}
use Rattle.aout_core.specs.Refusals.{refused}
use Rattle.clap.specs.{Faults.fault_of, Simple.subcommand_of, Walk.Row, Walk.first_of, declared.error.kind.ErrorKind.ErrorKind}
use Rattle.clap.specs.{declared.error.kind.ErrorKind.TheVariants.OutOfMemory}
use Rattle.tool_options.specs.declared.nm_options.NmOptions.{NmOptions}
use Rattle.command_words.specs.declared.words.Call.TheVariants.{Ld, Nm, Size, Strip, Session}
use Rattle.command_words.specs.declared.words.TheConstants.{FILE, OUT, EXTERNAL, BY_VALUE, EACH_LINE, TABLE_ORDER, REVERSE, UNDEFINED}
use Rattle.command_words.specs.LinkWords.{AreAllowed, AreForced, forced_asked, is_given, options_asked, values_of}
use Rattle.command_words.specs.{declared.fault.WordsFault.WordsFault, declared.words.Call.Call, Tools.v7_app}
use Rattle.command_words.specs.declared.fault.WordsFault.TheVariants as faults

-- a call has files, but for a session; no option of a link excludes another, and at most 64 different names are forced
abbrev pub IsWhole : Call → Type 0
IsWhole (Ld options forced out files) = (0 < vec_len files) × AreAllowed options × AreForced forced
IsWhole (Nm options files) = 0 < vec_len files
IsWhole (Size files) = 0 < vec_len files
IsWhole (Strip files) = 0 < vec_len files
IsWhole (Session options forced) = AreAllowed options × AreForced forced

-- the program, if no file is named
abbrev pub program : List ℕ
program = codes "a.out"

abbrev pub or_program : List (List ℕ) → List (List ℕ)
or_program [] = program ∷ []
or_program (file ∷ files) = file ∷ files

abbrev pub list_asked : List Row → NmOptions
list_asked rows = record {
  external = is_given rows EXTERNAL.now;
  by_value = is_given rows BY_VALUE.now;
  each_line = is_given rows EACH_LINE.now;
  table_order = is_given rows TABLE_ORDER.now;
  reverse = is_given rows REVERSE.now;
  undefined = is_given rows UNDEFINED.now;
}

-- the options, the forced names and the output are those that were read, and the files are these; a session has none
abbrev pub Asks : List Row → List (List ℕ) → Call → Type 0
Asks rows paths (Ld options forced out files) =
    (options_asked rows ≡ Ok options) × (forced_asked rows ≡ Ok forced)
    × (string_bytes out ≡ unwrap_or (first_of OUT.now rows) program) × (map string_bytes files.items ≡ paths)
Asks rows paths (Session options forced) = (options_asked rows ≡ Ok options) × (forced_asked rows ≡ Ok forced) × (paths ≡ [])
Asks rows paths (Nm options files) = (options ≡ list_asked rows) × (map string_bytes files.items ≡ or_program paths)
Asks rows paths (Size files) = map string_bytes files.items ≡ or_program paths
Asks rows paths (Strip files) = map string_bytes files.items ≡ paths

-- the paths of the files of a call
abbrev pub files_of : Call → List (List ℕ)
files_of (Ld options forced out files) = map string_bytes files.items
files_of (Nm options files) = map string_bytes files.items
files_of (Size files) = map string_bytes files.items
files_of (Strip files) = map string_bytes files.items
files_of (Session options forced) = []

-- how many of the arguments are a dash alone; each has to be a file, since it may not be the value of an option
abbrev pub dashes_in : List (List ℕ) → ℕ
dashes_in words = length (filter (λ word. bytes_eq word (codes "-")) words)

-- the argument that names the tool of a call
abbrev pub name_of : Call → List ℕ
name_of (Ld options forced out files) = codes "ld"
name_of (Nm options files) = codes "nm"
name_of (Size files) = codes "size"
name_of (Strip files) = codes "strip"
name_of (Session options forced) = codes "session"

-- `clap` takes the arguments, which name the tool of a call, and its options and files are those that it reads from them
abbrev pub IsAsked : List (List ℕ) → Call → Type 0
IsAsked words call =
    (fault_of v7_app words ≡ []) × (rows : List Row) × (subcommand_of v7_app words ≡ Some (name_of call, rows))
    × Asks rows (values_of rows FILE.now) call

-- that there was no memory is distinguished from all other causes
abbrev pub fault_of_words : ErrorKind → WordsFault
fault_of_words OutOfMemory = faults.Memory refused
fault_of_words kind = faults.Usage

-- arguments that ask for a call fail only if memory runs out. Others may fail for that reason too: memory is requested for the tools
-- and their options before an argument is read, so nothing rules out `Memory`
abbrev pub AsksForNone : List (List ℕ) → WordsFault → Type 0
AsksForNone words fault =
    (call : Call) → IsWhole call → IsAsked words call → dashes_in words ≡ dashes_in (files_of call) → fault ≡ faults.Memory refused
