-- What a call answers for listings: the listing of a file, and the file of a listing.
use Rattle.std.specs.Prelude.{◌≡◌, ◌⊎◌, ℕ, List, Result, Ok, IsOk}
use Rattle.aout_core.specs.{Contents.Contents, Encoding.encoding}
use Rattle.link_out.specs.Steps.{and_then, refused_as}
use Rattle.listings.specs.{declared.draft.Addresses.TheVariants.Compared, MemoryWanted.ListingMayRunOut, Reading.read}
use Rattle.libv7.specs.{declared.cause.Refusal.Refusal, Causes.first_mistake}

-- a listing of a file: reading it gives that file
abbrev pub IsListingOf : Contents → List ℕ → Type 0
IsListingOf c text = read Compared text ≡ Ok c

-- the bytes of the file that a listing describes, or its first mistake
abbrev pub described_in : List ℕ → Result (List ℕ) Refusal
described_in text = and_then (refused_as first_mistake (read Compared text)) (λ c. Ok (encoding c))

-- memory may run out for a word or a symbol of the listing, or for the bytes of the file; that has no place
abbrev pub DescribedMayRunOut : List ℕ → ℕ → Type 0
DescribedMayRunOut text place = (place ≡ 0) × (ListingMayRunOut Compared text ⊎ IsOk (described_in text))
