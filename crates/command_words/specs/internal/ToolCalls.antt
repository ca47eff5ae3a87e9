-- When the words of one tool ask for no call.
use Rattle.std.specs.Prelude.{◌≡◌, ℕ, List}
use Rattle.aout_core.specs.Refusals.{refused}
use Rattle.clap.specs.Walk.{Row}
use Rattle.command_words.specs.{declared.fault.WordsFault.WordsFault, declared.words.Call.Call, Calls.IsWhole, Calls.Asks, Calls.name_of}
use Rattle.command_words.specs.declared.fault.WordsFault.TheVariants as faults

-- a call of this name, with these options and files, fails only if there is no memory
abbrev pub HasNoCall : List ℕ → List Row → List (List ℕ) → WordsFault → Type 0
HasNoCall name rows paths fault = (call : Call) → IsWhole call → name_of call ≡ name → Asks rows paths call → fault ≡ faults.Memory refused
