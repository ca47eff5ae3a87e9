-- The files that are converted are read whole, each before the next one is opened, up to the first that can't be.
use Rattle.std.specs.Prelude.{◌≡◌, ◌⊎◌, ℕ, List, [], ◌∷◌, ◌++◌, Result, Ok, Err}
use Rattle.host.specs.{Events.History, Sources.EndsReading, Sources.ReadsAt, declared.answer.Fault.Fault}
use Rattle.v7_from_gnu.specs.{Jobs.Job, Jobs.Source}

abbrev pub source_of : Job → List ℕ → Source
source_of job bytes = record { from = job.from; to = job.to; bytes = bytes }

-- the most bytes of an object that is read
abbrev pub most_bytes : ℕ
most_bytes = 16777216

-- the files of these jobs are read after those that were read before, and the result has them all, or why one was not read
abbrev pub IsReading : History → History → List Source → List Job → Result (List Source) Fault → Type 0
IsReading old new read [] result = (new ≡ old) × (result ≡ Ok read)
IsReading old new read (job ∷ jobs) result =
    ((bytes : List ℕ) × (between : History) × ReadsAt old between job.from bytes
    × IsReading between new (read ++ source_of job bytes ∷ []) jobs result)
    ⊎ ((fault : Fault) × EndsReading most_bytes old new job.from fault × (result ≡ Err fault))
