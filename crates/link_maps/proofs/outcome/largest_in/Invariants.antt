use Rattle.std.proofs.Common.{◌≡◌, max, drop}
use Rattle.link_maps.specs.Rows.{largest_in}
use Rattle.link_maps.proofs.outcome.largest_in.Given as goal

abbrev pub invariant-loop-reloc : goal.invariant-loop-reloc
invariant-loop-reloc l = max l.largest (largest_in (drop l.reloc-index l.relocs)) ≡ largest_in l.relocs
