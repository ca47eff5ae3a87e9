-- Which fault the program has for arguments that ask for no call.
use Rattle.aout_core.specs.Refusals.{refused}
use Rattle.std.specs.Prelude.{◌≡◌, ℕ, List}
use Rattle.command_words.specs.{Calls.AsksForNone, declared.fault.WordsFault.WordsFault}
use Rattle.command_words.specs.declared.fault.WordsFault.TheVariants as words
use Rattle.v7tools.specs.declared.fault.CliFault.{CliFault}
use Rattle.v7tools.specs.declared.fault.CliFault.TheVariants as faults

abbrev pub fault_of_words : WordsFault → CliFault
fault_of_words words.Usage = faults.Usage
fault_of_words (words.Memory _) = faults.Memory refused

-- the fault of arguments that ask for no call, or for which memory ran out
abbrev pub IsOfWords : List (List ℕ) → CliFault → Type 0
IsOfWords given fault = (cause : WordsFault) × (fault ≡ fault_of_words cause) × AsksForNone given cause
