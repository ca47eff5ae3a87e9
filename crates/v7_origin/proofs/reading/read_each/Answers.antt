use Rattle.std.proofs.Common.{rules, ◌≡◌, ap, map, subst, sym}
use Rattle.std.specs.Prelude.{Err, Ok, string_bytes}
use Rattle.v7_origin.specs.{Runs.Each, Runs.Takes, internal.Lists.after}
use Rattle.v7_origin.proofs.ReadingLemmas.{each_ends, each_more, one_left}
use Rattle.v7_origin.proofs.reading.read_each.Goals as goal

pub returns-in_err-take : goal.returns-in_err-take
returns-in_err-take g c =
    let does = Takes c.args.«from» in
    let all = map string_bytes c.args.paths.now in
    let start = c.args.sources.now.items in
    let so = c.loop-path.sources.items in
    let old = g.O.FileSystem.history c.args.file_system.now in
    let mid = g.O.FileSystem.history c.loop-path.file_system in
    let new = g.O.FileSystem.history c.take.new.file_system in
    let path = string_bytes c.path-item.result in
    let fault = c.in_err-take.field-0.0 in
    let left = one_left c.args.paths.now c.loop-path.path-index c.path-item.result c.loop-path-test.true c.path-item.is in
    let same : c.as_str.result.now ≡ path = search rules in
    let is : c.from_residual.result ≡ Err fault = search rules in
    subst (λ r. Each does all start old new (after c.take.new.sources.items r)) (sym is)
    (each_ends does all start old mid new so _ _ path fault c.loop-path.invariant (ap (map string_bytes) left)
    (subst (λ p. does p so mid new (Err fault)) same c.in_err-take.ensures))

pub loop-path-preserved : goal.loop-path-preserved
loop-path-preserved g c =
    let does = Takes c.args.«from» in
    let so = c.loop-path.sources.items in
    let more = c.take.new.sources.items in
    let mid = g.O.FileSystem.history c.loop-path.file_system in
    let next = g.O.FileSystem.history c.take.new.file_system in
    let path = string_bytes c.path-item.result in
    let left = one_left c.args.paths.now c.loop-path.path-index c.path-item.result c.loop-path-test.true c.path-item.is in
    let same : c.as_str.result.now ≡ path = search rules in
    each_more does (map string_bytes c.args.paths.now) c.args.sources.now.items (g.O.FileSystem.history c.args.file_system.now) mid next so more _ _ path
    c.loop-path.invariant (ap (map string_bytes) left) (subst (λ p. does p so mid next (Ok more)) same c.in_ok-take.ensures)
