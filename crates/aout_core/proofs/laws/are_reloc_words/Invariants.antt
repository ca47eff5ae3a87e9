use Rattle.std.proofs.Common.{drop}
use Rattle.std.specs.List.{AllByRecursion}
use Rattle.aout_core.specs.{declared.reloc.Reloc.Reloc, Contents.IsWord}
use Rattle.aout_core.proofs.laws.are_reloc_words.Given as goal

abbrev pub invariant-loop-reloc : goal.invariant-loop-reloc
invariant-loop-reloc l =
    AllByRecursion (λ (r : Reloc). IsWord r.0) (drop l.reloc-index l.relocs) →
    AllByRecursion (λ (r : Reloc). IsWord r.0) l.relocs
