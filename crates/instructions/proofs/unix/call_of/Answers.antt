use Rattle.std.proofs.Common.{◌≤◌, Option, sym, subst}
use Rattle.std.specs.Prelude.{IfSome}
use Rattle.instructions.specs.declared.call_table.CallRow.{CallRow}
use Rattle.instructions.proofs.CallLemmas.{calls_found, call_small, no_call}
use Rattle.instructions.proofs.unix.call_of.Goals as goal

pub returns-then-word-clause-value : goal.returns-then-word-clause-value
returns-then-word-clause-value c = sym (no_call c.args.word c.if-word.true)

pub returns-clause-value : goal.returns-clause-value
returns-clause-value c = calls_found c.args.word c.call_in.result c.call_in.ensures

pub returns-clause-small : goal.returns-clause-small
returns-clause-small c =
    subst (λ (o : Option CallRow). IfSome o (λ r. r.words ≤ 4))
    (sym (calls_found c.args.word c.call_in.result c.call_in.ensures)) (call_small c.args.word)
