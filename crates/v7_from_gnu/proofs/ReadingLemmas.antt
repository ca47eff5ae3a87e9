-- Files that are read one after another, from what comes of those that are left.
use Rattle.std.proofs.Common.{◌≡◌, ℕ, List, [], ◌∷◌, ◌++◌, Some, false, refl, sym, subst, inl, inr}
use Rattle.std.specs.Prelude.{Result, Err}
use Rattle.aout_core.specs.Refusals.{refused}
use Rattle.host.specs.Sources.{EndsReading, ReadsAt}
use Rattle.host.specs.{Events.History, declared.answer.Fault.Fault, declared.answer.Fault.TheVariants.Memory}
use Rattle.v7_from_gnu.specs.{Jobs.Job, Jobs.Source, Readings.IsReading, Readings.most_bytes, Readings.source_of}

-- what comes of the files that are left comes of all
abbrev pub GoesOn : History → History → List Source → List Job → List Job → Type 0
GoesOn old mid read left all =
    (new : History) → (result : Result (List Source) Fault) → IsReading mid new read left result →
    IsReading old new [] all result

-- one is not read
pub reading_ends : (old mid new : History) (read : List Source) (all left later : List Job) (job : Job) (fault : Fault) →
    GoesOn old mid read left all → left ≡ job ∷ later →
    EndsReading most_bytes mid new job.from fault → IsReading old new [] all (Err fault)
reading_ends old mid new read all left later job fault inv e h =
    inv new (Err fault) (subst (λ jobs. IsReading mid new read jobs (Err fault)) (sym e) (inr (fault, h, refl)))

-- one is read, and there is no memory for it
pub reading_stops : (old mid new : History) (read : List Source) (all left later : List Job) (job : Job) (bytes : List ℕ) →
    GoesOn old mid read left all → left ≡ job ∷ later → ReadsAt mid new job.from bytes → IsReading old new [] all (Err (Memory refused))
reading_stops old mid new read all left later job bytes inv e h =
    reading_ends old mid new read all left later job (Memory refused) inv e (inl (Some h.0, false, h.1, tt))

-- one more is read
pub reading_more : (old mid next : History) (read more : List Source) (all left later : List Job) (job : Job)
    (bytes : List ℕ) → GoesOn old mid read left all → left ≡ job ∷ later →
    ReadsAt mid next job.from bytes → more ≡ read ++ source_of job bytes ∷ [] → GoesOn old next more later all
reading_more old mid next read more all left later job bytes inv e h p new result k =
    inv new result (subst (λ jobs. IsReading mid new read jobs result) (sym e)
    (inl (bytes, next, h, subst (λ s. IsReading next new s later result) p k)))
