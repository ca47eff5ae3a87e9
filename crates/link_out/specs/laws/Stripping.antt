-- The law of stripping: a program that is stripped is the program linked without symbols. (ld(1), strip(1))
use Rattle.std.specs.Prelude.{◌≡◌, ℕ, false, List, Ok}
use Rattle.aout_core.specs.{Contents.Contents, Strip.stripped}
use Rattle.tool_options.specs.{declared.options.Keep.TheVariants.Nothing, Choices.Choices}
use Rattle.link_out.specs.function.Link.{Outcome, link}

-- a link without relocation, stripped, is the link that keeps no symbols, with the same report
abbrev pub StripLaw : Type 0
StripLaw = (forced : List (List ℕ)) (os : List Contents) (o : Choices) (x : Outcome) → o.relocatable ≡ false →
    link forced os o ≡ Ok x → link forced os (record o { keep = Nothing }) ≡ Ok (record x { file = stripped x.file })

-- stripping again changes nothing
abbrev pub StripsOnce : Type 0
StripsOnce = (c : Contents) → stripped (stripped c) ≡ stripped c
