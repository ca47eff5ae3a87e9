-- Laws of partial links: when the file of one may take the place of its objects. (ld(1), the option `-r`)
--
-- A partial link keeps relocation, so its file is an object and can be linked again. What a later link may keep of locals, it must
-- have kept.
use Rattle.std.specs.{Prelude.{◌≡◌, ℕ, true, false, List, [], ◌∷◌, ◌++◌, None, Result, Ok, Err}, List.AllByRecursion}
use Rattle.aout_core.specs.declared.symbol.Segment.TheVariants.{TextSeg, DataSeg, BssSeg}
use Rattle.aout_core.specs.{declared.symbol.Segment.Segment, Contents.Contents, Words.plus, WellFormed.IsWellFormed}
use Rattle.link_session.specs.States.{first_definition, multiple_names, state}
use Rattle.link_session.specs.{declared.state.State.TheVariants.Defined, Starts.total, Mentions.mentions}
use Rattle.tool_options.specs.{NameLists.is_among, declared.options.Keep.Keep, Choices.Choices, Choices.option_fault}
use Rattle.link_out.specs.{declared.linked.LinkFault.LinkFault, KeptSymbols.keeps, function.Link.Outcome, function.Link.link}

-- a link keeps no local that the other one drops
abbrev pub KeepsNoMore : Keep → Keep → Type 0
KeepsNoMore less more = (name : List ℕ) → keeps less name ≡ true → keeps more name ≡ true

-- the link of these objects with relocation, in which commons are not laid out, by options that are allowed
pub record IsPartialLink (forced : List (List ℕ)) (os : List Contents) (o : Choices) (x : Outcome) : Type 0 where
  pub allowed : option_fault o.layout o.relocatable o.keep ≡ None
  pub relocatable : o.relocatable ≡ true
  pub no_commons : o.force_commons ≡ false
  pub linked : link forced os o ≡ Ok x

-- a link but for the multiples in its report
abbrev pub without_multiples : Result Outcome LinkFault → Result Outcome LinkFault
without_multiples (Err fault) = Err fault
without_multiples (Ok x) = Ok (record x { report = record x.report { multiples = [] } })

-- these names are among those
abbrev pub IsPart : List (List ℕ) → List (List ℕ) → Type 0
IsPart own forced = (name : List ℕ) → is_among own name ≡ true → is_among forced name ≡ true

-- an offset after the same segment of these objects
abbrev pub offset_after : List Contents → Segment → ℕ → ℕ
offset_after before TextSeg offset = plus (total TextSeg before) offset
offset_after before DataSeg offset = plus (total DataSeg before) offset
offset_after before BssSeg offset = plus (total BssSeg before) offset
offset_after before _ offset = plus 0 offset

-- each definition of these objects is that of its name among all objects too, moved after those before them
abbrev pub DefinitionsAreKept : List (List ℕ) → List Contents → List Contents → List Contents → Type 0
DefinitionsAreKept forced before os after =
    (name : List ℕ) (segment : Segment) (offset : ℕ) → state (mentions [] os) name ≡ Defined segment offset →
    state (mentions forced (before ++ (os ++ after))) name ≡ Defined segment (offset_after before segment offset)

-- the objects define no name that is multiply defined among all
abbrev pub DefinesNoMultiple : List (List ℕ) → List Contents → List Contents → List Contents → Type 0
DefinesNoMultiple forced before os after =
    (name : List ℕ) → is_among (multiple_names (mentions forced (before ++ (os ++ after)))) name ≡ true →
    first_definition (mentions [] os) name ≡ None

-- the file of a link with relocation is an object
abbrev pub PartialIsObject : Type 0
PartialIsObject = (forced : List (List ℕ)) (os : List Contents) (o : Choices) (x : Outcome) → AllByRecursion IsWellFormed os →
    option_fault o.layout o.relocatable o.keep ≡ None → o.relocatable ≡ true → link forced os o ≡ Ok x → IsWellFormed x.file

-- a partial link alone gives what its objects give: the same file or the same refusal, and reports that differ at most in the multiples
abbrev pub PartialReplacesAlone : Type 0
PartialReplacesAlone = (forced : List (List ℕ)) (os : List Contents) (by o : Choices) (x : Outcome) → AllByRecursion IsWellFormed os →
    IsPartialLink forced os by x → KeepsNoMore o.keep by.keep →
    without_multiples (link forced (x.file ∷ []) o) ≡ without_multiples (link forced os o)

-- a partial link among others gives what its objects give among them, if no name of all of them is multiply defined
abbrev pub PartialReplacesAmong : Type 0
PartialReplacesAmong = (forced : List (List ℕ)) (before os after : List Contents) (by o : Choices) (x : Outcome) →
    AllByRecursion IsWellFormed before → AllByRecursion IsWellFormed os → AllByRecursion IsWellFormed after →
    IsPartialLink forced os by x → KeepsNoMore o.keep by.keep → multiple_names (mentions forced (before ++ (os ++ after))) ≡ [] →
    link forced (before ++ x.file ∷ after) o ≡ link forced (before ++ (os ++ after)) o
