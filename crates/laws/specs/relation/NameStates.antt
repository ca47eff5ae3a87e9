-- What the mentions make of a name, by the mentions alone. (ld(1))
--
-- Either one mention is the first that defines the name, and the name has that definition; or no mention defines it, and it is
-- wanted at the largest size that a mention asks for.
use Rattle.std.specs.{Prelude.{◌≡◌, ◌≢◌, ℕ, ◌≤◌, ◌⊎◌, List, [], ◌∷◌}, List.AllByRecursion}
use Rattle.aout_core.specs.declared.symbol.Segment.{Segment}
use Rattle.link_session.specs.{declared.state.State.State, declared.state.State.TheVariants.{Defined, Wanted}, Mentions.Mention}

-- a mention that does not define this name
abbrev pub LeavesOpen : List ℕ → Mention → Type 0
LeavesOpen name m = name ≡ m.name → (segment : Segment) (offset : ℕ) → m.says ≢ Defined segment offset

-- the first mention that defines the name has this segment and offset
abbrev pub IsFirst : List Mention → List ℕ → Segment → ℕ → Type 0
IsFirst [] name segment offset = ⊥
IsFirst (m ∷ ms) name segment offset =
    ((name ≡ m.name) × (m.says ≡ Defined segment offset)) ⊎ (LeavesOpen name m × IsFirst ms name segment offset)

abbrev pub WantsAtMost : List ℕ → ℕ → Mention → Type 0
WantsAtMost name most m = name ≡ m.name → (size : ℕ) → m.says ≡ Wanted size → size ≤ most

-- no mention defines it, and this is the largest size that one wants, 0 without any
pub record IsWanted (ms : List Mention) (name : List ℕ) (size : ℕ) : Type 0 where
  pub undefined : AllByRecursion (LeavesOpen name) ms
  pub most : AllByRecursion (WantsAtMost name size) ms
  pub least : (n : ℕ) → AllByRecursion (WantsAtMost name n) ms → size ≤ n

-- what the mentions make of a name
abbrev pub HasState : List Mention → List ℕ → State → Type 0
HasState ms name (Defined segment offset) = IsFirst ms name segment offset
HasState ms name (Wanted size) = IsWanted ms name size
