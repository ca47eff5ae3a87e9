-- A statement near the law of listings that does not hold: names are written as they are.
use Rattle.std.proofs.Common.{◌≡◌, ℕ, ◌+◌, List, [], ◌∷◌, refl, ap, ◌∙◌}
use Rattle.std.specs.{Prelude.codes, Prelude.Result, Prelude.Ok, Prelude.Err, Fmt.digits}
use Rattle.aout_core.specs.{declared.symbol.Symbol.Symbol, Contents.Contents, Contents.IsSound}
use Rattle.listings.specs.{declared.fault.Reason.TheVariants.NotOctal, Listing.{gap, IsListed}, Laws.ListingLaw}
use Rattle.listings.specs.{Reading.{Mistakes, read}, declared.draft.Addresses.TheVariants.Compared}
use Rattle.texts.specs.{Numbers.six_digits, Numbers.octal, Lines.text_of}
use Rattle.laws.proofs.{examples.Samples.{sym as entry_of, object}, examples.LdRuns.sound_file}

-- a name with a blank
abbrev spaced : Contents
spaced = object [] [] [] [] 0 (entry_of (codes "a b") 0o40 2 ∷ [])

-- the law, of one way to write a file
abbrev ReadsBack : (Contents → List ℕ → Type 0) → Type 0
ReadsBack IsWritten = (c : Contents) (text : List ℕ) → IsWritten c text → IsSound c → read Compared text ≡ Ok c

law_of_listings : ListingLaw → ReadsBack IsListed
law_of_listings law = λ c text is sound. ap (read Compared) is.2 ∙ law Compared c is.0 is.1 sound

abbrev entries : ℕ → List Symbol → List (List ℕ)
entries n [] = []
entries n (s ∷ ss) = gap 1 (octal n) (gap 1 s.name (gap 1 (octal s.type_bits) (six_digits s.value))) ∷ entries (n + 1) ss

refuses : (m : Mistakes) (c : Contents) (found : Result Contents Mistakes) → found ≡ Err m → found ≡ Ok c → ⊥
refuses m c found e h = absurd (cc)

abbrev as_it_is : Contents → List ℕ
as_it_is c = text_of (codes "symbols" ∷ entries 0 c.symbols)

name_as_it_is : ReadsBack (λ (c : Contents) (text : List ℕ). text ≡ as_it_is c) → ⊥
unfolding digits six_digits
name_as_it_is law =
    refuses (record { first = record { line = 2; column = 6; reason = NotOctal }; others = [] }) spaced
    (read Compared (as_it_is spaced)) refl (law spaced (as_it_is spaced) refl (sound_file spaced refl refl))
