-- When all of a program is found. (ld(1), strip(1))
use Rattle.std.specs.Prelude.{◌≡◌, ℕ, false, List, [], ◌∷◌, None, Some, Ok, slice_get}
use Rattle.aout_core.specs.{Contents.Contents, Decoding.decode, Strip.stripped}
use Rattle.link_session.specs.Labelled.{Labelled, objects}
use Rattle.link_out.specs.{Inputs.object_in, Results.Outcome, function.Link.link}
use Rattle.tool_options.specs.{Choices.options_of, declared.options.Layout.Layout, declared.options.Keep.TheVariants.Nothing}

-- a file that was read
pub record Source : Type 0 where
  pub path : List ℕ
  pub bytes : List ℕ

-- the object of a file, with its path
abbrev pub IsOf : Source → Labelled → Type 0
IsOf source x = (x.label ≡ source.path) × (object_in (decode source.bytes) ≡ Ok x.object)

-- these are the objects of the files with these numbers, in this order
abbrev pub AreChosen : List Source → List ℕ → List Labelled → Type 0
AreChosen sources [] [] = Unit {0}
AreChosen sources (n ∷ ns) (x ∷ xs) = ((source : Source) × (slice_get sources n ≡ Some source) × IsOf source x) × AreChosen sources ns xs
AreChosen sources _ _ = ⊥

-- the link of these objects in a layout is the program, once both are stripped
abbrev pub IsLinkOfAll : List Labelled → Layout → Contents → Type 0
IsLinkOfAll xs layout program =
    (x : Outcome) × (link [] (objects xs) (options_of layout false Nothing None) ≡ Ok x) × (stripped x.file ≡ stripped program)

-- so it is for some of the files, in some order
abbrev pub IsWhole : Contents → List Source → Type 0
IsWhole program sources =
    (order : List ℕ) × (xs : List Labelled) × (layout : Layout) × AreChosen sources order xs × IsLinkOfAll xs layout program
