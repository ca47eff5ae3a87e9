use Rattle.std.proofs.Common.{rules, ◌≡◌, ◌∷◌, [], ◌++◌}
use Rattle.std.specs.Prelude.{Err}
use Rattle.aout_core.specs.Refusals.{refused}
use Rattle.host.specs.declared.answer.Fault.TheVariants.{Memory}
use Rattle.v7_from_gnu.proofs.LookLemmas.{looking_ends, looking_more}
use Rattle.v7_from_gnu.specs.internal.Lists.{listed}
use Rattle.v7_from_gnu.proofs.checks.look.Goals as goal

pub loop-job-preserved : goal.loop-job-preserved
loop-job-preserved g c =
    let from : c.as_str-from.result.now ≡ c.job-item.result.from = search rules in
    let to : c.as_str-to.result.now ≡ c.job-item.result.to = search rules in
    let pushed : c.push.new.self.items ≡ c.loop-job.found.items ++ c.nodes_at-nodes.result ∷ [] = search rules in
    looking_more (g.O.FileSystem.history c.args.file_system.now) (g.O.FileSystem.history c.loop-job.file_system)
    (g.O.FileSystem.history c.nodes_at-nodes.new.file_system) c.loop-job.found.items c.push.new.self.items c.args.jobs.now c.loop-job.job-index
    c.job-item.result c.as_str-from.result.now c.as_str-to.result.now c.nodes_at-nodes.result
    c.loop-job.invariant c.loop-job-test.true c.job-item.is c.nodes_at-nodes.ensures from to pushed

pub returns-in_err-push : goal.returns-in_err-push
returns-in_err-push g c =
    let from : c.as_str-from.result.now ≡ c.job-item.result.from = search rules in
    let to : c.as_str-to.result.now ≡ c.job-item.result.to = search rules in
    let ends : listed c.from_residual.result ≡ Err (Memory refused) = search rules in
    looking_ends (g.O.FileSystem.history c.args.file_system.now) (g.O.FileSystem.history c.loop-job.file_system)
    (g.O.FileSystem.history c.nodes_at-nodes.new.file_system) c.loop-job.found.items c.args.jobs.now c.loop-job.job-index c.job-item.result
    c.as_str-from.result.now c.as_str-to.result.now c.nodes_at-nodes.result (listed c.from_residual.result) c.loop-job.invariant
    c.loop-job-test.true c.job-item.is c.nodes_at-nodes.ensures from to ends
