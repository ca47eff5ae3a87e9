-- For which inputs a call may answer that memory ran out, and with which place.
--
-- A call works in stages, and each lacks memory only if nothing is refused up to there. The answer does not reveal which request
-- failed. So once an object is accepted, memory may have run out there, whatever is refused later.
use Rattle.std.specs.Prelude.{◌≡◌, ◌≢◌, ◌⊎◌, ℕ, ◌+◌, ◌<◌, List, [], get_or, length, take, Result, IsOk}
use Rattle.aout_core.specs.{Contents.Contents, Decoding.header_in, Encoding.file_length}
use Rattle.tool_options.specs.Choices.{Choices}
use Rattle.libv7.specs.{declared.cause.Refusal.Refusal, FileAnswers.file_in, LinkAnswers.parts_linked, LinkAnswers.taken_each}

-- the bytes begin with a whole file, and it has more than its header: it is read before its words are checked
pub record HasBody (bytes : List ℕ) : Type 0 where
  pub whole : IsOk (file_in bytes)
  pub more : 16 < file_length (header_in bytes)

-- ---- objects that are linked

-- memory may run out for the part of this number, by what takes parts: it takes those before, and this one has a body, or it takes
-- this one too
abbrev pub MayRunOutAt : (List (List ℕ) → Result (List Contents) Refusal) → List (List ℕ) → ℕ → Type 0
MayRunOutAt taken parts place =
    (place < length parts)
    × IsOk (taken (take place parts))
    × (HasBody (get_or parts place []) ⊎ IsOk (taken (take (place + 1) parts)))

-- memory may run out for forced names, or for a part
abbrev pub MayRunOutInParts : (List (List ℕ) → Result (List Contents) Refusal) → List (List ℕ) → List (List ℕ) → ℕ → Type 0
MayRunOutInParts taken forced parts place = ((place ≡ 0) × (forced ≢ [])) ⊎ MayRunOutAt taken parts place

-- or for the link, if there is one
abbrev pub MayRunOutInLink : List (List ℕ) → Choices → List (List ℕ) → ℕ → Type 0
MayRunOutInLink forced o parts place =
    ((place ≡ 0) × IsOk (parts_linked forced o parts)) ⊎ MayRunOutInParts (taken_each forced) forced parts place
