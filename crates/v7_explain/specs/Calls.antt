-- What the arguments of v7-explain ask for.
--
-- Options and paths may be in any order, but for -m, which is the first argument: those after it are of a map. With no option the files
-- at these paths are listed.
use Rattle.std.specs.Prelude.{ℕ, Bool, false, ◌&&◌, not, if◌then◌else◌, bytes_eq, codes, List, [], ◌∷◌, Option, Some, None, Result, Ok, Err}
use Rattle.std.specs.Option.{option_or}
use Rattle.aout_core.specs.{Words.letter_of}
use Rattle.instructions.specs.declared.unix.Decoder.TheVariants.{Pdp11, Unix}
use Rattle.host.specs.{Arguments.{Given, excluded_in, given_in, has_letter, if_given, value_of}, declared.reasons.Reason.Reason}
use Rattle.host.specs.declared.reasons.Reason.TheVariants.{Needs, NoFile, NoValue, NotFirst, NotOneFile}
use Rattle.checks.specs.declared.evidence.Evidence.TheVariants.{Flow, Promise}
use Rattle.v7_explain.specs.{declared.explaining.Mode.TheVariants.{Listing, Show, Check, Inventory}, declared.explaining.Mode.Mode}
use Rattle.v7_explain.specs.{declared.listing.View.TheVariants.{Instructions, Rows}}

-- to explain files, or those in folders, to store the listing of a file, to ask a file for a name or an address, or the map that the
-- arguments after -m ask for
pub data Call : Type 0 where
  explain : Mode → List (List ℕ) → Call
  walk : List (List ℕ) → Call
  store : List ℕ → List ℕ → Call
  ask : List ℕ → List ℕ → Call
  map_link : List (List ℕ) → Call

abbrev pub has : Given → List ℕ → Bool
has given letter = has_letter given.letters (letter_of letter)

-- how files are explained: with -t all of a text is instructions
abbrev pub mode_in : Given → Mode
mode_in given =
    if has given (codes "c") && has given (codes "t") then Check Promise
    else (if has given (codes "c") then Check Flow
    else (if has given (codes "l") then Inventory
    else (if has given (codes "d") then Show (Instructions Unix)
    else (if has given (codes "p") then Show (Instructions Pdp11)
    else (if has given (codes "s") then Show Rows else Listing false)))))

-- the options ask for this, if none excludes another, with the values of -y and -o, and paths: -R goes into folders
abbrev pub asked_by : Given → Option (List ℕ) → Option (List ℕ) → List (List ℕ) → Result Call Reason
asked_by given (Some what) to (path ∷ []) = Ok (ask what path)
asked_by given (Some what) to _ = Err (NotOneFile (letter_of (codes "y")))
asked_by given None (Some to) (path ∷ []) = Ok (store to path)
asked_by given None (Some to) _ = Err (NotOneFile (letter_of (codes "o")))
asked_by given None None [] = Err NoFile
asked_by given None None (path ∷ paths) =
    Ok (if has given (codes "R") then walk (path ∷ paths) else explain (mode_in given) (path ∷ paths))

abbrev pub call_unless : Option Reason → Given → Result Call Reason
call_unless (Some reason) given = Err reason
call_unless None given =
    asked_by given (value_of given (letter_of (codes "y"))) (value_of given (letter_of (codes "o"))) given.paths

-- only one may be given of the letters that ask for something, but for -d and -y
abbrev pub call_of : Given → Result Call Reason
call_of given =
    if has given (codes "m") then Err (NotFirst (letter_of (codes "m")))
    else (if has given (codes "t") && not (has given (codes "c")) then Err (Needs (letter_of (codes "t")) (letter_of (codes "c")))
    else (if has given (codes "R") && not (has given (codes "l")) then Err (Needs (letter_of (codes "R")) (letter_of (codes "l")))
    else call_unless (option_or (excluded_in (codes "cdlops") given) (excluded_in (codes "clopsy") given)) given))

-- the arguments after -m, if that is the first one
abbrev pub after_map : List (List ℕ) → Option (List (List ℕ))
after_map [] = None
after_map (word ∷ words) = if bytes_eq word (codes "-m") then Some words else None

abbrev pub asked_or : Option (List (List ℕ)) → List (List ℕ) → Result Call Reason
asked_or (Some rest) words = Ok (map_link rest)
asked_or None words = if_given (given_in (codes "cdlmpRst") (codes "oy") words) call_of

abbrev pub asked_in : List (List ℕ) → Result Call Reason
asked_in words = asked_or (after_map words) words

-- ---- the arguments of a map

-- those of ld, after each -y with its argument. With -y alone there is no map
abbrev pub words_of_link : List (List ℕ) → Result (List (List ℕ)) Reason
words_of_link [] = Ok []
words_of_link (word ∷ []) = if bytes_eq word (codes "-y") then Err (NoValue (letter_of (codes "y"))) else Ok (word ∷ [])
words_of_link (word ∷ argument ∷ rest) = if bytes_eq word (codes "-y") then words_of_link rest else Ok (word ∷ argument ∷ rest)
