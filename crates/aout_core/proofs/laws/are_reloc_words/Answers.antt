use Rattle.std.proofs.{Common.subst, Common.sym, Common.List, lemmas.List.drop_more}
use Rattle.std.specs.List.{AllByRecursion}
use Rattle.aout_core.specs.{declared.reloc.Reloc.Reloc, Contents.IsWord}
use Rattle.aout_core.proofs.laws.are_reloc_words.Goals as goal

pub loop-reloc-preserved : goal.loop-reloc-preserved
loop-reloc-preserved c = λ rest.
    let P : List Reloc → Type 0 = λ rs. AllByRecursion (λ (r : Reloc). IsWord r.0) rs in
    c.loop-reloc.invariant (subst P (sym (drop_more c.args.relocs.now c.loop-reloc.reloc-index (record { 0 = 0 }) c.loop-reloc-test.true))
    (c.is_word.ensures, rest))
