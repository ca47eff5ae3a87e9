-- The tools: which options each takes, and which take files. (ld(1), nm(1), size(1), strip(1))
--
-- The definitions of the kit's `clap` define how arguments are read, by a rule for each option: its letter, and whether it is a flag
-- (`Count`), has a value (`Set`), or may have several (`Append`). Here are the rules of each tool.
use Rattle.std.specs.Prelude.{ℕ, true, List, [], ◌∷◌, Some, codes, fold}
use Rattle.clap.specs.{Simple.{App, new_app, new_rule, on_top, with_rule, with_subcommand}, Lexer.usize_max, Walk.Rule}
use Rattle.clap.specs.{declared.builder.action.ArgAction.ArgAction, declared.builder.action.ArgAction.TheVariants.{Append, Count, Set}}
use Rattle.aout_core.specs.Words.{letter_of}
use Rattle.command_words.specs.declared.link_words.TheConstants.{RELOCATABLE, STRIP, EXTERNALS, NOT_L, PURE, SPLIT, COMMONS, FORCED, ENTRY}
use Rattle.command_words.specs.declared.words.TheConstants.{OUT, FILE, EXTERNAL, BY_VALUE, EACH_LINE, TABLE_ORDER, REVERSE, UNDEFINED}

-- an option that is a letter
abbrev pub letter_rule : List ℕ → ℕ → ArgAction → Rule
letter_rule id short action = record (new_rule id) { short = Some short; action = Some action }

-- any number of files
abbrev pub files_rule : Rule
files_rule = record (new_rule FILE.now) { action = Some Append; range = Some (record { start_inclusive = 0; end_inclusive = usize_max }) }

-- a command that takes nothing, neither help nor version
abbrev pub bare : List ℕ → App
bare name = on_top (λ s. record s { disable_help_flag = true; disable_version_flag = true; disable_help_subcommand = true }) (new_app name)

abbrev pub with_rules : App → List Rule → App
with_rules app rules = fold with_rule app rules

-- -r, -s, -x, -X, -n, -i, -d, -u and -e
abbrev pub link_rules : List Rule
link_rules =
    letter_rule RELOCATABLE.now (letter_of (codes "r")) Count ∷ letter_rule STRIP.now (letter_of (codes "s")) Count ∷
    letter_rule EXTERNALS.now (letter_of (codes "x")) Count ∷ letter_rule NOT_L.now (letter_of (codes "X")) Count ∷
    letter_rule PURE.now (letter_of (codes "n")) Count
    ∷ letter_rule SPLIT.now (letter_of (codes "i")) Count ∷ letter_rule COMMONS.now (letter_of (codes "d")) Count ∷
    letter_rule FORCED.now (letter_of (codes "u")) Append ∷ letter_rule ENTRY.now (letter_of (codes "e")) Set ∷ []

-- -g, -n, -o, -p, -r and -u
abbrev pub list_rules : List Rule
list_rules =
    letter_rule EXTERNAL.now (letter_of (codes "g")) Count ∷ letter_rule BY_VALUE.now (letter_of (codes "n")) Count ∷
    letter_rule EACH_LINE.now (letter_of (codes "o")) Count ∷
    letter_rule TABLE_ORDER.now (letter_of (codes "p")) Count ∷ letter_rule REVERSE.now (letter_of (codes "r")) Count
    ∷ letter_rule UNDEFINED.now (letter_of (codes "u")) Count ∷ []

-- the link's options, -o, and files
abbrev pub ld_app : App
ld_app = with_rule (with_rule (with_rules (bare (codes "ld")) link_rules) (letter_rule OUT.now (letter_of (codes "o")) Set)) files_rule

abbrev pub nm_app : App
nm_app = with_rule (with_rules (bare (codes "nm")) list_rules) files_rule

abbrev pub size_app : App
size_app = with_rule (bare (codes "size")) files_rule

abbrev pub strip_app : App
strip_app = with_rule (bare (codes "strip")) files_rule

abbrev pub session_app : App
session_app = with_rules (bare (codes "session")) link_rules

-- the arguments begin with the tool's name
abbrev pub v7_alone : App
v7_alone = on_top (λ s. record s { no_binary_name = true; subcommand_required = true }) (bare (codes "v7"))

abbrev pub v7_app : App
v7_app =
    with_subcommand (with_subcommand (with_subcommand (with_subcommand (with_subcommand v7_alone ld_app.top) nm_app.top)
    size_app.top) strip_app.top) session_app.top
