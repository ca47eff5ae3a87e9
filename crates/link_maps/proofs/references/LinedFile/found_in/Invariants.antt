use Rattle.std.proofs.Common.{◌≡◌, ◌++◌, drop}
use Rattle.std.specs.List.{flat_map}
use Rattle.disassemblies.specs.Starts.{starts}
use Rattle.instructions.specs.declared.unix.Decoder.TheVariants.{Unix}
use Rattle.link_maps.specs.Leads.{reference_if}
use Rattle.link_maps.proofs.references.LinedFile.found_in.Given as goal

-- the words so far, and those that are left
abbrev pub invariant-loop-lead : goal.invariant-loop-lead
invariant-loop-lead l =
    l.found.items ++ flat_map (reference_if (starts Unix l.self) l.self l.number l.symbol) (drop l.lead-index l.lead-items)
    ≡ flat_map (reference_if (starts Unix l.self) l.self l.number l.symbol) l.lead-items
