use Rattle.libv7.proofs.FurtherLemmas.{all_but_last, same_forced}
use Rattle.libv7.proofs.redefinitions.withdraw_counting.Goals as goal

pub returns-clause-forced : goal.returns-clause-forced
returns-clause-forced c =
    same_forced c.withdraw.result c.args.session.now c.withdraw.new.self c.withdraw.ensures.none c.withdraw.ensures.last

pub returns-clause-entries : goal.returns-clause-entries
returns-clause-entries c =
    all_but_last c.withdraw.result c.args.session.now c.withdraw.new.self c.withdraw.ensures.none c.withdraw.ensures.last
