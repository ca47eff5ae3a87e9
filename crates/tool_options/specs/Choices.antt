-- What a link is asked for. (ld(1); which options exclude each other: own choice)
--
-- The options of ld, by what they mean for a link: the layout of the segments, whether relocation is kept, which local symbols are
-- kept, the name of the entry point, and whether commons get addresses even if relocation is kept.
use Rattle.std.specs.Prelude.{ℕ, Bool, true, false, not, ◌||◌, List, Option, Some, None}
use Rattle.tool_options.specs.declared.options.OptionFault.TheVariants.{RelocStrip, RelocLayout}
use Rattle.tool_options.specs.{declared.options.Layout.Layout, declared.options.Layout.TheVariants.Plain, declared.options.Keep.Keep}
use Rattle.tool_options.specs.{declared.options.Keep.TheVariants.Nothing, declared.options.OptionFault.OptionFault}

pub record Choices : Type 0 where
  pub layout : Layout
  pub relocatable : Bool
  pub keep : Keep
  pub entry : Option (List ℕ)
  pub force_commons : Bool

-- relocation excludes a file without symbols, and every layout but the plain one
abbrev pub option_fault : Layout → Bool → Keep → Option OptionFault
option_fault layout false keep = None
option_fault layout true Nothing = Some RelocStrip
option_fault Plain true keep = None
option_fault _ true keep = Some RelocLayout

-- these, without `-d`
abbrev pub options_of : Layout → Bool → Keep → Option (List ℕ) → Choices
options_of layout relocatable keep entry =
    record { layout = layout; relocatable = relocatable; keep = keep; entry = entry; force_commons = false }

-- whether commons get an address
abbrev pub lays_commons : Choices → Bool
lays_commons o = not o.relocatable || o.force_commons
