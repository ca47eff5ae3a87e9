use Rattle.std.proofs.Common.{◌≡◌, ◌+◌, drop}
use Rattle.aout_core.specs.WellFormed.{first_bad_word}
use Rattle.aout_core.proofs.object.first_bad_word.Given as goal

-- the words so far are good
abbrev pub invariant-loop-n : goal.invariant-loop-n
invariant-loop-n l = first_bad_word l.symbols l.start l.relocs ≡ first_bad_word l.symbols (l.start + l.n) (drop l.n l.relocs)
