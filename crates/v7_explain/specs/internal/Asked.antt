-- What the arguments ask for, as the code has it.
use Rattle.std.specs.Prelude.{ℕ, Bool, false, bytes_eq, codes, List, [], ◌∷◌, map, Option, Some, None, Result, Ok, Err, string_bytes}
use Rattle.aout_core.specs.Words.{letter_of}
use Rattle.host.specs.{declared.reasons.Reason.Reason, declared.reasons.Reason.TheVariants.NoValue}
use Rattle.v7_explain.specs.{declared.arguments.Call.TheVariants.{Explain, Walk, Store, Ask}, declared.arguments.Call.Call as Code}
use Rattle.v7_explain.specs.Calls.{Call, ask, explain, store, walk}

abbrev pub call_in : Code → Call
call_in (Explain mode paths) = explain mode (map string_bytes paths.now)
call_in (Walk paths) = walk (map string_bytes paths.now)
call_in (Store to path) = store to.now path.now
call_in (Ask what shows path) = ask what.now path.now

-- the same, or why there is none
abbrev pub result_in : Result Code Reason → Result Call Reason
result_in (Ok call) = Ok (call_in call)
result_in (Err reason) = Err reason

-- the first word is -y
abbrev pub asks_of_map : List (List ℕ) → Bool
asks_of_map [] = false
asks_of_map (word ∷ words) = bytes_eq word (codes "-y")

-- the words that are left; or an argument is missing
abbrev pub words_left : Option (List (List ℕ)) → Result (List (List ℕ)) Reason
words_left None = Err (NoValue (letter_of (codes "y")))
words_left (Some words) = Ok words
