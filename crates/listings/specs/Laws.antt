-- The law of listings: reading a listing of a file gives that file.
use Rattle.std.specs.{Prelude.◌≡◌, Prelude.ℕ, Prelude.List, Prelude.Ok}
use Rattle.aout_core.specs.Contents.{Contents, IsSound}
use Rattle.texts.specs.Lines.{text_of}
use Rattle.listings.specs.{Listing.IsListing, Reading.read, declared.draft.Addresses.Addresses}

-- whatever is said in it beside the file; also if addresses are computed
abbrev pub ListingLaw : Type 0
ListingLaw = (a : Addresses) (c : Contents) (ls : List (List ℕ)) → IsListing c ls → IsSound c → read a (text_of ls) ≡ Ok c
