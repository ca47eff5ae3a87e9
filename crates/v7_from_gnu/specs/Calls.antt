-- What the arguments of v7-from-gnu ask for.
--
-- With a folder there are files, and without one there are two paths.
use Rattle.std.specs.Prelude.{ℕ, ◌==◌, if◌then◌else◌, List, [], ◌∷◌, ◌++◌, map, Option, Some, None, Result, Ok, Err, codes}
use Rattle.aout_core.specs.Words.{letter_of}
use Rattle.gnu_objects.specs.{declared.options.Locals.Locals, declared.options.Locals.TheVariants.{KeepAll, KeepNeeded, KeepNone}}
use Rattle.host.specs.{Arguments.{Given, given_in, has_letter, if_given, value_of}, declared.reasons.Reason.Reason}
use Rattle.host.specs.declared.reasons.Reason.TheVariants.{NoFile, NotTwoFiles}
use Rattle.v7_from_gnu.specs.{Jobs.Conversion, Jobs.Job}

-- ---- paths

-- what follows the last slash (47) of some bytes, or was found before them
abbrev pub after_slash_or : List ℕ → List ℕ → List ℕ
after_slash_or found [] = found
after_slash_or found (b ∷ bs) = if b == 47 then after_slash_or bs bs else after_slash_or found bs

-- what follows the last slash of a path, or all of it
abbrev pub after_slash : List ℕ → List ℕ
after_slash path = after_slash_or path path

-- a file goes to one of its name in a folder
abbrev pub into_folder : List ℕ → List ℕ → Job
into_folder folder path = record { from = path; to = folder ++ codes "/" ++ after_slash path }

-- with a folder all files, and without one a file and the path of its object
abbrev pub jobs_of : Option (List ℕ) → List (List ℕ) → Result (List Job) Reason
jobs_of (Some folder) [] = Err NoFile
jobs_of (Some folder) (path ∷ paths) = Ok (map (into_folder folder) (path ∷ paths))
jobs_of None (from ∷ to ∷ []) = Ok (record { from = from; to = to } ∷ [])
jobs_of None _ = Err NotTwoFiles

-- ---- options

-- -x wins over -X
abbrev pub locals_in : Given → Locals
locals_in given =
    if has_letter given.letters (letter_of (codes "x")) then KeepNone
    else (if has_letter given.letters (letter_of (codes "X")) then KeepNeeded else KeepAll)

abbrev pub with_jobs : Given → Result (List Job) Reason → Result Conversion Reason
with_jobs given (Err reason) = Err reason
with_jobs given (Ok jobs) =
    Ok
    (record {
      options = record { drops_debugger = has_letter given.letters (letter_of (codes "S")); locals = locals_in given };
      is_quiet = has_letter given.letters (letter_of (codes "q"));
      jobs = jobs;
    })

abbrev pub conversion_of : Given → Result Conversion Reason
conversion_of given = with_jobs given (jobs_of (value_of given (letter_of (codes "o"))) given.paths)

abbrev pub conversion_asked : List (List ℕ) → Result Conversion Reason
conversion_asked words = if_given (given_in (codes "SXxq") (codes "o") words) conversion_of
