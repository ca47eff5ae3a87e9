use Rattle.std.proofs.{Common.arith, Common.rules, lemmas.Grind.common_steps}
use Rattle.link_out.proofs.RowLemmas.{rows_all}
use Rattle.link_out.proofs.table.kept_locals.Goals as goal

pub put_locals_of-requires : goal.put_locals_of-requires
put_locals_of-requires c = grind (arith, common_steps)

pub returns-clause-rows : goal.returns-clause-rows
returns-clause-rows c =
    rows_all c.args.bases.now c.args.keep c.loop-entry.starts c.loop-entry.rows.items c.args.entries.now
    c.loop-entry.entry-index c.loop-entry-test.false c.loop-entry.invariant.rows

pub returns-clause-len : goal.returns-clause-len
returns-clause-len c = grind (arith, common_steps)

pub loop-entry-preserved : goal.loop-entry-preserved
loop-entry-preserved c = grind (arith, common_steps)
