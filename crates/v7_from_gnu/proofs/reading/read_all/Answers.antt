use Rattle.std.proofs.Common.{rules, ◌≡◌, [], ◌∷◌, ◌++◌, subst, sym}
use Rattle.std.specs.Prelude.{Err}
use Rattle.aout_core.specs.Refusals.{refused}
use Rattle.host.specs.{Sources.EndsReading, Sources.ReadsAt, declared.answer.Fault.TheVariants.Memory}
use Rattle.v7_from_gnu.specs.{Readings.IsReading, Readings.most_bytes, Readings.source_of, internal.Lists.listed}
use Rattle.v7_from_gnu.proofs.ReadingLemmas.{reading_ends, reading_more, reading_stops}
use Rattle.v7_from_gnu.proofs.reading.read_all.Goals as goal

pub returns-in-Err : goal.returns-in-Err
returns-in-Err g c =
    let old = g.O.FileSystem.history c.args.file_system.now in
    let mid = g.O.FileSystem.history c.loop-job.file_system in
    let new = g.O.FileSystem.history c.read_whole.new.file_system in
    let same : c.as_str.result.now ≡ c.in-Some.job.from = search rules in
    reading_ends old mid new c.loop-job.sources.items c.args.jobs.items c.loop-job.job-iterator.rest.items
    c.next.new.self.rest.items c.in-Some.job c.in-Err.fault
    c.loop-job.invariant c.in-Some.ensures.steps.0
    (subst (λ path. EndsReading most_bytes mid new path c.in-Err.fault) same c.in-Err.ensures.err)

pub returns-in_err-push : goal.returns-in_err-push
returns-in_err-push g c =
    let memory : c.from_residual.result ≡ Err (Memory refused) = search rules in
    let old = g.O.FileSystem.history c.args.file_system.now in
    let mid = g.O.FileSystem.history c.loop-job.file_system in
    let new = g.O.FileSystem.history c.read_whole.new.file_system in
    let same : c.as_str.result.now ≡ c.in-Some.job.from = search rules in
    subst (λ r. IsReading old new [] c.args.jobs.items (listed r)) (sym memory)
    (reading_stops old mid new c.loop-job.sources.items c.args.jobs.items c.loop-job.job-iterator.rest.items
    c.next.new.self.rest.items c.in-Some.job c.in-Ok.bytes.items
    c.loop-job.invariant c.in-Some.ensures.steps.0 (subst (λ path. ReadsAt mid new path c.in-Ok.bytes.items) same c.in-Ok.ensures.ok))

pub loop-job-preserved : goal.loop-job-preserved
loop-job-preserved g c =
    let old = g.O.FileSystem.history c.args.file_system.now in
    let mid = g.O.FileSystem.history c.loop-job.file_system in
    let next = g.O.FileSystem.history c.read_whole.new.file_system in
    let same : c.as_str.result.now ≡ c.in-Some.job.from = search rules in
    let pushed : c.push.new.self.items ≡ c.loop-job.sources.items ++ source_of c.in-Some.job c.in-Ok.bytes.items ∷ [] = search rules in
    reading_more old mid next c.loop-job.sources.items c.push.new.self.items c.args.jobs.items
    c.loop-job.job-iterator.rest.items c.next.new.self.rest.items c.in-Some.job c.in-Ok.bytes.items
    c.loop-job.invariant c.in-Some.ensures.steps.0
    (subst (λ path. ReadsAt mid next path c.in-Ok.bytes.items) same c.in-Ok.ensures.ok) pushed
