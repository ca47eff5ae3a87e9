use Rattle.std.proofs.Common.{◌≡◌, drop}
use Rattle.gnu_objects.specs.GnuRefusals.{first_refusal, symbol_refusal}
use Rattle.gnu_objects.proofs.checks.first_bad_symbol.Given as goal

-- the symbols so far are good
abbrev pub invariant-loop-n : goal.invariant-loop-n
invariant-loop-n l =
    first_refusal (symbol_refusal l.strings l.drops) 0 l.symbols ≡ first_refusal (symbol_refusal l.strings l.drops) l.n (drop l.n l.symbols)
