-- What the options that ld and session share ask for, by the rows that `clap` read from the arguments. (ld(1))
--
-- A row is an option with its values. If options exclude each other, the arguments ask for nothing.
use Rattle.std.specs.Prelude.{◌≡◌, ◌≤◌, ℕ, Bool, cond, nat_lt, List, [], ◌∷◌, take, length, None, ok_or, option_map, unwrap_or, Result, Ok}
use Rattle.std.specs.Prelude.{Err}
use Rattle.clap.specs.Walk.{Row, all_of, count_of, first_of}
use Rattle.aout_core.specs.Names.{before_nul}
use Rattle.tool_options.specs.{ForcedNames.AreDifferent, ForcedNames.takes, ForcedNames.with_name, declared.flags.Flags.Flags}
use Rattle.tool_options.specs.{Choices.Choices, Choices.option_fault, Flags.choices_of}
use Rattle.command_words.specs.declared.link_words.TheConstants.{RELOCATABLE, STRIP, EXTERNALS, NOT_L, PURE, SPLIT, COMMONS, FORCED, ENTRY}
use Rattle.command_words.specs.{declared.fault.WordsFault.WordsFault, declared.fault.WordsFault.TheVariants.Usage}

-- whether a flag was given, once or more
abbrev pub is_given : List Row → List ℕ → Bool
is_given rows id = nat_lt 0 (count_of id rows)

-- the values of an option, in order
abbrev pub values_of : List Row → List ℕ → List (List ℕ)
values_of rows id = unwrap_or (all_of id rows) []

-- the name that a text is cut to
abbrev pub name_in : List ℕ → List ℕ
name_in text = take 8 (before_nul text)

abbrev pub flags_asked : List Row → Flags
flags_asked rows = record {
  relocatable = is_given rows RELOCATABLE.now;
  strip = is_given rows STRIP.now;
  externals = is_given rows EXTERNALS.now;
  not_l = is_given rows NOT_L.now;
  pure = is_given rows PURE.now;
  split = is_given rows SPLIT.now;
  commons = is_given rows COMMONS.now;
}

-- what the flags ask for, with the name of the entry point
abbrev pub options_asked : List Row → Result Choices WordsFault
options_asked rows = ok_or (choices_of (flags_asked rows) (option_map name_in (first_of ENTRY.now rows))) Usage

-- each name appended to the names before it, if it is not there already and there are fewer than 64
abbrev pub with_names : List (List ℕ) → List (List ℕ) → Result (List (List ℕ)) WordsFault
with_names names [] = Ok names
with_names names (text ∷ texts) = cond (takes names (name_in text)) (with_names (with_name names (name_in text)) texts) (Err Usage)

abbrev pub forced_asked : List Row → Result (List (List ℕ)) WordsFault
forced_asked rows = with_names [] (values_of rows FORCED.now)

-- no option excludes another
abbrev pub AreAllowed : Choices → Type 0
AreAllowed options = option_fault options.layout options.relocatable options.keep ≡ None

-- at most 64 different names
abbrev pub AreForced : List (List ℕ) → Type 0
AreForced names = (length names ≤ 64) × AreDifferent names
