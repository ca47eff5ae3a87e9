use Rattle.std.proofs.Common.{◌∙◌}
use Rattle.aout_core.specs.declared.symbol.Segment.TheVariants.{TextSeg, DataSeg}
use Rattle.link_out.proofs.FinishLemmas.{text_numbered, data_numbered, relocs_planned}
use Rattle.link_out.proofs.relocs.relocs_of.Goals as goal

pub kept_relocs-requires : goal.kept_relocs-requires
kept_relocs-requires c =
    text_numbered c.args.plan.now c.args.finals.now c.args.locals c.text_cells-text.result.now
    c.requires.passed c.requires.finals c.text_cells-text.ensures.value

pub kept_relocs-requires-2 : goal.kept_relocs-requires-2
kept_relocs-requires-2 c =
    data_numbered c.args.plan.now c.args.finals.now c.args.locals c.data_cells-data.result.now
    c.requires.passed c.requires.finals c.data_cells-data.ensures.value

pub returns : goal.returns
returns c =
    let p = c.args.plan.now in
    let names = c.args.finals.now in
    record {
      text = c.in_ok-kept_relocs.ensures
          ∙ relocs_planned p TextSeg names c.args.locals c.text_cells-text.result.now c.requires.passed
          c.requires.finals c.text_cells-text.ensures.value;
      «data» = c.in_ok-kept_relocs-2.ensures
          ∙ relocs_planned p DataSeg names c.args.locals c.data_cells-data.result.now c.requires.passed
          c.requires.finals c.data_cells-data.ensures.value;
    }
