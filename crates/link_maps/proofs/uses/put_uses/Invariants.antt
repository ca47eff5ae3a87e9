use Rattle.std.proofs.Common.{◌≡◌, ◌++◌, drop}
use Rattle.disassemblies.specs.Starts.{starts}
use Rattle.instructions.specs.declared.unix.Decoder.TheVariants.{Unix}
use Rattle.link_maps.specs.Uses.{uses_by, uses_in}
use Rattle.link_maps.proofs.uses.put_uses.Given as goal

-- the uses so far, and those by the symbols that are left
abbrev pub invariant-loop-number : goal.invariant-loop-number
invariant-loop-number l =
    l.uses.items ++ uses_by l.object (starts Unix l.file) l.file l.number (drop l.number l.symbol-items)
    ≡ l.initial.uses.items ++ uses_in l.object l.file
