-- What is reported of a link, by the mentions. (ld(1); what is a multiple: own choice)
--
-- Each definition that differs from the first of its name, each reserved name that the objects define or make a common, and
-- each other name that is undefined. With relocation undefined names are not reported, as a later link may define them. The
-- entry point is in `IsEntry` of Relocated.
use Rattle.std.specs.Prelude.{◌≡◌, ◌≢◌, ℕ, ◌⊎◌, true, false, List, [], ◌∷◌, map}
use Rattle.aout_core.specs.{declared.symbol.Segment.Segment, Contents.Contents}
use Rattle.link_session.specs.{declared.state.State.TheVariants.Defined, Mentions.Mention, Mentions.mentions, Mentions.externals}
use Rattle.tool_options.specs.{NameLists.is_among, Choices.Choices}
use Rattle.laws.specs.relation.NameStates.{IsFirst, IsWanted}
use Rattle.link_out.specs.{ReservedNames.reserved_names, Results.Outcome}

-- these are the elements for which it holds, in order
abbrev pub ArePicked : {A : Type 0} → (A → Type 0) → List A → List A → Type 0
ArePicked P [] picked = picked ≡ []
ArePicked {A = A} P (x ∷ xs) picked =
    (P x × ((rest : List A) × (picked ≡ x ∷ rest) × ArePicked P xs rest)) ⊎ ((P x → ⊥) × ArePicked P xs picked)

-- a mention that defines its name, and differently from the first one that does
pub record IsOther (ms : List Mention) (m : Mention) : Type 0 where
  pub segment : Segment
  pub offset : ℕ
  pub first : Segment
  pub at : ℕ
  pub says : m.says ≡ Defined segment offset
  pub is : IsFirst ms m.name first at
  pub differ : Defined first at ≢ Defined segment offset

-- what is reported, by the mentions
pub record IsReported (forced : List (List ℕ)) (os : List Contents) (o : Choices) (x : Outcome) : Type 0 where
  pub others : List Mention
  pub picked : ArePicked (IsOther (mentions forced os)) (mentions forced os) others
  pub multiples : x.report.multiples ≡ map (λ m. m.name) others
  pub reserved : ArePicked (λ name. IsWanted (mentions forced os) name 0 → ⊥) reserved_names x.report.reserved
  pub undefined : o.relocatable ≡ false → ArePicked (λ name. IsWanted (mentions forced os) name 0
      × (is_among reserved_names name ≡ false)) (externals forced os) x.report.undefined
  pub none : o.relocatable ≡ true → x.report.undefined ≡ []
