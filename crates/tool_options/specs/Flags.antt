-- Which options the flags of ld ask for. (ld(1); which flags exclude each other: own choice)
use Rattle.std.specs.Prelude.{ℕ, Bool, true, false, if◌then◌else◌, List, Option, Some, None, option_and_then}
use Rattle.tool_options.specs.{declared.options.Keep.TheVariants.{All, NotL, Externals, Nothing}, Choices.{Choices, option_fault}}
use Rattle.tool_options.specs.{declared.flags.Flags.Flags, declared.options.Layout.Layout}
use Rattle.tool_options.specs.{declared.options.Layout.TheVariants.{Plain, Pure, Split}, declared.options.Keep.Keep}
use Rattle.tool_options.specs.declared.options.OptionFault.{OptionFault}

-- -n and -i exclude each other
abbrev pub layout_by : Bool → Bool → Option Layout
layout_by false false = Some Plain
layout_by true false = Some Pure
layout_by false true = Some Split
layout_by true true = None

abbrev pub layout_of : Flags → Option Layout
layout_of f = layout_by f.pure f.split

-- -s wins over -x, and that over -X
abbrev pub keep_of : Flags → Keep
keep_of f = if f.strip then Nothing else (if f.externals then Externals else (if f.not_l then NotL else All))

abbrev pub choices_with : Flags → Option (List ℕ) → Layout → Choices
choices_with f entry layout =
    record { layout = layout; relocatable = f.relocatable; keep = keep_of f; entry = entry; force_commons = f.commons }

abbrev pub unless : Option OptionFault → Choices → Option Choices
unless None options = Some options
unless (Some fault) options = None

-- with the name of the entry point; none if two flags exclude each other
abbrev pub choices_of : Flags → Option (List ℕ) → Option Choices
choices_of f entry =
    option_and_then (λ layout. unless (option_fault layout f.relocatable (keep_of f)) (choices_with f entry layout)) (layout_of f)
