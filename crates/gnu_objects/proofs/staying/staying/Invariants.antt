use Rattle.std.proofs.Common.{◌≡◌, ◌++◌, length, drop}
use Rattle.gnu_objects.specs.Staying.{staying, staying_from}
use Rattle.gnu_objects.proofs.staying.staying.Given as goal

-- the flags so far, and those of the symbols that are left
abbrev pub invariant-loop-n : goal.invariant-loop-n
invariant-loop-n l = record {
  whole : l.flags.items ++ staying_from l.fn.locals l.strings l.symbols l.words l.n (drop l.n l.symbols)
      ≡ staying l.fn.locals l.strings l.symbols l.words;
  many : length l.flags.items ≡ l.n;
}
