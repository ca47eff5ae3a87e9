-- The rule of a flag, as tables of flags have it.
use Rattle.std.specs.{Prelude.ℕ, Prelude.List, Borrow.Bor}
use Rattle.clap.specs.{Walk.Rule, declared.builder.action.ArgAction.TheVariants.Count}
use Rattle.command_words.specs.Tools.{letter_rule}

-- an id and a letter
abbrev pub flag_rule : Bor (List ℕ) × ℕ → Rule
flag_rule flag = letter_rule flag.0.now flag.1 Count
