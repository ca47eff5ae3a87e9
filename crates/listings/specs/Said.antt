-- What `read_listing` returns: the file that a listing describes, unless memory runs out.
use Rattle.std.specs.Prelude.{◌≡◌, Result, Ok, Err}
use Rattle.aout_core.specs.{Contents.Contents, Refusals.refused}
use Rattle.listings.specs.{declared.fault.ListingFault.ListingFault, declared.fault.ListingFault.TheVariants.{Memory, Wrong}}
use Rattle.listings.specs.{declared.fault.Mistakes.Mistakes as Kept, Reading.Mistakes}

abbrev pub mistakes_in : Kept → Mistakes
mistakes_in m = record { first = m.first; others = m.others.items }

-- the file of a listing or its mistakes; or memory ran out, which does not follow from the text
abbrev pub Says : Result Contents ListingFault → Result Contents Mistakes → Type 0
Says (Ok file) found = found ≡ Ok file
Says (Err (Memory _)) found = Unit {0}
Says (Err (Wrong mistakes)) found = found ≡ Err (mistakes_in mistakes)

-- this file, unless memory ran out
abbrev pub Gives : Result Contents ListingFault → Contents → Type 0
Gives (Ok file) c = file ≡ c
Gives (Err e) c = e ≡ Memory refused
