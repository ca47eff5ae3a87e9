-- What v7-from-gnu does with its arguments: what it opens, reads and stores, what it writes, and its status.
--
-- Paths, and the files that they lead to, are checked before a file is opened. All files are read before one is converted, and all are
-- converted before one is stored. So nothing is stored if one is refused. If memory runs out, that is the answer; it does so after a file
-- was stored only if one was not.
use Rattle.std.specs.Prelude.{◌≡◌, ◌⊎◌, ℕ, List, [], ◌∷◌, Option, Err}
use Rattle.aout_core.specs.Refusals.{refused}
use Rattle.host.specs.{Answers.{EndsOr, FindsOr, IsPerformed, Refuses}, Events.{Extends, History, Surroundings, stored}}
use Rattle.host.specs.{Programs.{AnswersGiven, Quietly, Step, Then, either}, Answer.Answer, Sources.is_kept}
use Rattle.host.specs.{declared.file_system.Stored.Stored, declared.answer.Fault.TheVariants.Memory}
use Rattle.v7_from_gnu.specs.{Calls.conversion_asked, Checks.ChecksInputs, Checks.has_path_twice, Converting.outcome, Jobs.Conversion}
use Rattle.v7_from_gnu.specs.{Jobs.Target, Readings.IsReading}

-- each object is stored at its path, in order, up to the first that can't be
abbrev pub IsStoring : List Target → Step Answer
IsStoring [] old new result = (new ≡ old) × EndsOr 0 result
IsStoring (t ∷ ts) old new result =
    (what : Stored) × (between : History) × Extends old between (stored t.source.to t.object what ∷ [])
    × either (is_kept what) (IsStoring ts between new result) ((new ≡ between) × EndsOr 2 result)

-- once there is memory for the answer
abbrev pub StoresAll : List Target → Step Answer
StoresAll targets old new result = ((new ≡ old) × (result ≡ Err (Memory refused))) ⊎ IsStoring targets old new result

-- the files are read, and then converted and stored
abbrev pub IsConverting : Conversion → Step Answer
IsConverting c =
    Then (λ old new read. IsReading old new [] c.jobs read) (λ sources. Then (Quietly (FindsOr (outcome c.options sources))) StoresAll)

-- an object is refused that would replace a file, or whose path another one has; or else that is done
abbrev pub IsConversion : Conversion → Step Answer
IsConversion c = Then (ChecksInputs c.jobs) (λ _. Then (Quietly (Refuses 2 (has_path_twice c.jobs))) (λ _. IsConverting c))

-- what the arguments ask for is done, and its answer is written
abbrev pub PerformsFromGnu : {W E : Type 0} → (W → Option (List ℕ)) → (E → Option (List ℕ)) → List (List ℕ) →
    Surroundings W E → Surroundings W E → ℕ → Type 0
PerformsFromGnu contents error_contents words before after status =
    IsPerformed contents error_contents (AnswersGiven IsConversion conversion_asked words) before after status
