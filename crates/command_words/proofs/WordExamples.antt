-- What the words of a command ask for, computed from the definitions of `clap`.
use Rattle.std.specs.Prelude.{◌≡◌, ℕ, Bool, true, false, List, [], ◌∷◌, Option, Some, codes, option_map, refl}
use Rattle.clap.specs.declared.error.kind.ErrorKind.TheVariants.{ArgumentConflict, InvalidSubcommand, InvalidValue, MissingSubcommand}
use Rattle.clap.specs.{declared.error.kind.ErrorKind.TheVariants.UnknownArgument, Faults.fault_of, Simple.subcommand_of, Walk.Row}
use Rattle.clap.proofs.OnLiterals.{clap_on_literals}
use Rattle.command_words.specs.declared.words.TheConstants.{FILE, OUT, REVERSE, BY_VALUE}
use Rattle.command_words.specs.{declared.link_words.TheConstants.{ENTRY, FORCED, STRIP}, LinkWords.{is_given, values_of}, Tools.v7_app}

-- the tool, whether these flags are given, and the values of these options
abbrev Seen : Type 0
Seen = Option (List ℕ × List Bool × List (List (List ℕ)))

abbrev each_given : List Row → List (List ℕ) → List Bool
each_given rows [] = []
each_given rows (id ∷ ids) = is_given rows id ∷ each_given rows ids

abbrev each_value : List Row → List (List ℕ) → List (List (List ℕ))
each_value rows [] = []
each_value rows (id ∷ ids) = values_of rows id ∷ each_value rows ids

abbrev seen : List (List ℕ) → List (List ℕ) → List (List ℕ) → Seen
seen flags options words = option_map (λ p. (p.0, each_given p.1 flags, each_value p.1 options)) (subcommand_of v7_app words)

flags_in_one_word : seen (REVERSE.now ∷ BY_VALUE.now ∷ []) (FILE.now ∷ []) (codes "nm" ∷ codes "-rg" ∷ codes "a.o" ∷ codes "b.o" ∷ [])
    ≡ Some (codes "nm", true ∷ false ∷ [], (codes "a.o" ∷ codes "b.o" ∷ []) ∷ [])
unfolding clap_on_literals
flags_in_one_word = refl

values_in_both_places : seen (STRIP.now ∷ []) (OUT.now ∷ ENTRY.now ∷ FORCED.now ∷ FILE.now ∷ [])
    (codes "ld" ∷ codes "-oout" ∷ codes "-e" ∷ codes "_go" ∷ codes "-u" ∷ codes "_a" ∷ codes "-u_b" ∷ codes "a.o" ∷ [])
    ≡ Some (codes "ld", false ∷ [], (codes "out" ∷ []) ∷ (codes "_go" ∷ []) ∷ (codes "_a" ∷ codes "_b" ∷ []) ∷ (codes "a.o" ∷ []) ∷ [])
unfolding clap_on_literals
values_in_both_places = refl

options_after_files : seen (STRIP.now ∷ []) (FILE.now ∷ []) (codes "ld" ∷ codes "a.o" ∷ codes "-s" ∷ codes "b.o" ∷ [])
    ≡ Some (codes "ld", true ∷ [], (codes "a.o" ∷ codes "b.o" ∷ []) ∷ [])
unfolding clap_on_literals
options_after_files = refl

options_ended : seen (STRIP.now ∷ []) (FILE.now ∷ []) (codes "ld" ∷ codes "--" ∷ codes "-s" ∷ [])
    ≡ Some (codes "ld", false ∷ [], (codes "-s" ∷ []) ∷ [])
unfolding clap_on_literals
options_ended = refl

flag_repeated : fault_of v7_app (codes "ld" ∷ codes "-s" ∷ codes "-s" ∷ codes "a.o" ∷ []) ≡ []
unfolding clap_on_literals
flag_repeated = refl

output_repeated : fault_of v7_app (codes "ld" ∷ codes "-o" ∷ codes "x" ∷ codes "-o" ∷ codes "y" ∷ codes "a.o" ∷ []) ≡ ArgumentConflict ∷ []
unfolding clap_on_literals
output_repeated = refl

unknown_letter : fault_of v7_app (codes "size" ∷ codes "-h" ∷ []) ≡ UnknownArgument ∷ []
unfolding clap_on_literals
unknown_letter = refl

no_words : fault_of v7_app [] ≡ MissingSubcommand ∷ []
unfolding clap_on_literals
no_words = refl

file_of_a_session : fault_of v7_app (codes "session" ∷ codes "a.o" ∷ []) ≡ UnknownArgument ∷ []
unfolding clap_on_literals
file_of_a_session = refl

output_after_sign : seen [] (OUT.now ∷ FILE.now ∷ []) (codes "ld" ∷ codes "-o=out" ∷ codes "a.o" ∷ [])
    ≡ Some (codes "ld", [], (codes "out" ∷ []) ∷ (codes "a.o" ∷ []) ∷ [])
unfolding clap_on_literals
output_after_sign = refl

dash_alone : seen [] (FILE.now ∷ []) (codes "strip" ∷ codes "-" ∷ []) ≡ Some (codes "strip", [], (codes "-" ∷ []) ∷ [])
unfolding clap_on_literals
dash_alone = refl

no_file : seen (BY_VALUE.now ∷ []) (FILE.now ∷ []) (codes "nm" ∷ codes "-n" ∷ []) ≡ Some (codes "nm", true ∷ [], [] ∷ [])
unfolding clap_on_literals
no_file = refl

value_that_is_an_option : fault_of v7_app (codes "ld" ∷ codes "-e" ∷ codes "-s" ∷ codes "a.o" ∷ []) ≡ InvalidValue ∷ []
unfolding clap_on_literals
value_that_is_an_option = refl

help_asked_for : fault_of v7_app (codes "help" ∷ []) ≡ UnknownArgument ∷ InvalidSubcommand ∷ []
unfolding clap_on_literals
help_asked_for = refl
