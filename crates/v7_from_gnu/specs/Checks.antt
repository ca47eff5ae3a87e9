-- What is checked before a file is opened, and before one is written: paths, and the files that they lead to.
use Rattle.std.specs.Prelude.{◌≡◌, ◌⊎◌, ℕ, Bool, false, ◌||◌, List, [], ◌∷◌, ◌++◌, map, position, Result, Ok, Err, bytes_eq}
use Rattle.std.specs.{List.list_any, Option.is_some}
use Rattle.aout_core.specs.Refusals.{refused}
use Rattle.host.specs.{Answers.Refuses, Events.History, Events.Extends, Nodes.is_refused, Nodes.looks, declared.answer.Fault.Fault}
use Rattle.host.specs.{declared.nodes.Nodes.Nodes, declared.answer.Fault.TheVariants.Memory}
use Rattle.v7_from_gnu.specs.{Jobs.Job, Jobs.Target}

-- ---- paths

abbrev pub goes_to : List Job → List ℕ → Bool
goes_to jobs path = list_any (λ (job : Job). bytes_eq job.to path) jobs

-- an object of those that come after others would go to the path of an earlier one
abbrev pub path_from : List Job → List Job → Bool
path_from before [] = false
path_from before (job ∷ jobs) = goes_to before job.to || path_from (before ++ job ∷ []) jobs

abbrev pub has_path_twice : List Job → Bool
has_path_twice jobs = path_from [] jobs

-- ---- the files that paths lead to

-- the system is asked for them, one job after another, after those that were found before; or memory runs out
abbrev pub Looks : History → History → List Nodes → List Job → Result (List Nodes) Fault → Type 0
Looks old new found [] result = (new ≡ old) × (result ≡ Ok found)
Looks old new found (job ∷ jobs) result =
    (nodes : Nodes) × (between : History) × Extends old between (looks job.from job.to nodes)
    × (((new ≡ between) × (result ≡ Err (Memory refused))) ⊎ Looks between new (found ++ nodes ∷ []) jobs result)

-- whether these are of an object that could replace one of the files
abbrev pub replaces : List Nodes → Nodes → Bool
replaces found nodes = is_refused found nodes

abbrev pub replaces_any : List Nodes → Bool
replaces_any found = is_some (position (replaces found) found)

-- no object could replace one of the files, or that is refused
abbrev pub Judges : Result (List Nodes) Fault → Result (Unit {0}) Fault → Type 0
Judges (Err fault) result = result ≡ Err fault
Judges (Ok found) result = Refuses 2 (replaces_any found) result

abbrev pub ChecksInputs : List Job → History → History → Result (Unit {0}) Fault → Type 0
ChecksInputs jobs old new result = (found : Result (List Nodes) Fault) × Looks old new [] jobs found × Judges found result

-- ---- names

abbrev pub bytes_of : List Target → List (List ℕ)
bytes_of targets = map (λ (t : Target). t.source.bytes) targets
