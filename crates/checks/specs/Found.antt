-- What is found in a file: at which byte, and what it is. What a finding says in words is in no definition.
use Rattle.std.specs.Prelude.{◌≡◌, ℕ, Bool, true, false, if◌then◌else◌, List, [], ◌∷◌, ◌++◌, map, Option, Some, None}
use Rattle.checks.specs.{declared.finding.Finding.Finding, declared.finding.FindingKind.FindingKind}
use Rattle.checks.specs.declared.finding.FindingKind.TheVariants as kinds

-- what is wrong has 1 to 7, what is odd 8 to 20, 30, 31 and 35, and what is suspicious the others
abbrev pub kind_number : FindingKind → ℕ
kind_number kinds.ShortHeader = 1
kind_number kinds.BadMagic = 2
kind_number kinds.OddSize = 3
kind_number kinds.Truncated = 4
kind_number kinds.BadRelocation = 5
kind_number kinds.BadSymbolNumber = 6
kind_number kinds.MoreBadWords = 7
kind_number kinds.IgnoredEntry = 8
kind_number kinds.IgnoredWord = 9
kind_number kinds.BytesAfterTable = 10
kind_number kinds.IgnoredRelocationBits = 11
kind_number kinds.OutsideReference = 12
kind_number kinds.EmptyName = 13
kind_number kinds.UnprintableName = 14
kind_number kinds.BytesAfterName = 15
kind_number kinds.RepeatedName = 16
kind_number kinds.IgnoredTypeBits = 17
kind_number kinds.UnknownType = 18
kind_number kinds.OddCommon = 19
kind_number kinds.OutsideValue = 20
kind_number kinds.RelocatedFirstWord = 21
kind_number kinds.UnsuitablePcBit = 22
kind_number kinds.CutInstruction = 23
kind_number kinds.NoInstruction = 24
kind_number kinds.BranchOutside = 25
kind_number kinds.BranchWithin = 26
kind_number kinds.UnsuitableReference = 27
kind_number kinds.UnsuitableAddress = 28
kind_number kinds.AbsoluteText = 29
kind_number kinds.NoRoom = 30
kind_number kinds.UnusedName = 31
kind_number kinds.UnsuitableJump = 32
kind_number kinds.OddOperand = 33
kind_number kinds.NoEnd = 34
kind_number kinds.SimilarName = 35
kind_number kinds.UnsuitableLink = 36

pub record Found : Type 0 where
  pub place : ℕ
  pub kind : FindingKind
  -- it is not in doubt
  pub is_sure : Bool

abbrev pub found_of : Finding → Found
found_of f = record { place = f.place; kind = f.kind; is_sure = f.is_sure }

abbrev pub each_found : List Finding → List Found
each_found findings = map found_of findings

-- one finding at a byte, if the test holds, which is sure or in doubt
abbrev pub found_as : Bool → Bool → ℕ → FindingKind → List Found
found_as is_sure test place kind = if test then record { place = place; kind = kind; is_sure = is_sure } ∷ [] else []

abbrev pub found_if : Bool → ℕ → FindingKind → List Found
found_if test place kind = found_as true test place kind

-- what is found of a thing, if it is there
abbrev pub found_by : {A : Type 0} → Option A → (A → List Found) → List Found
found_by None found = []
found_by (Some x) found = found x

-- what is found so far; once memory ran out it is cut, and nothing is known of it
pub record Collected : Type 0 where
  pub found : List Found
  pub is_cut : Bool

-- these were added, unless memory has run out by now
abbrev pub Finds : Collected → Collected → List Found → Type 0
Finds old new more = new.is_cut ≡ false → (old.is_cut ≡ false) × (new.found ≡ old.found ++ more)
