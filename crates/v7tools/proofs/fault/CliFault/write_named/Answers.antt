use Rattle.aout_core.proofs.PutsLemmas.{writes_both, writes_no_more}
use Rattle.v7tools.specs.FaultTexts.{cli_text}
use Rattle.v7tools.proofs.fault.CliFault.write_named.Goals as goal

pub returns-in_err-put : goal.returns-in_err-put
returns-in_err-put g c = writes_no_more (cli_text c.args.self.now) c.from_residual.ensures.0 c.in_err-put.ensures.writes

pub returns : goal.returns
returns g c = writes_both c.in_ok-put.ensures.writes c.write_text.ensures
