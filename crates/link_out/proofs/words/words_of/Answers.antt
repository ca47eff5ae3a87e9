use Rattle.std.proofs.Common.{◌∙◌}
use Rattle.aout_core.specs.declared.symbol.Segment.TheVariants.{TextSeg, DataSeg}
use Rattle.link_out.proofs.FinishLemmas.{words_planned}
use Rattle.link_out.proofs.words.words_of.Goals as goal

pub returns : goal.returns
returns c =
    let p = c.args.plan.now in
    let names = c.args.finals.now in
    record {
      text =
          c.in_ok-words_of_cells.ensures
          ∙ words_planned p TextSeg names c.text_cells-text.result.now c.requires c.text_cells-text.ensures.value;
      «data» =
          c.in_ok-words_of_cells-2.ensures
          ∙ words_planned p DataSeg names c.data_cells-data.result.now c.requires c.data_cells-data.ensures.value;
    }
