use Rattle.std.proofs.Common.{rules, ◌≡◌, ap, map, subst, sym}
use Rattle.std.proofs.lemmas.List.{at_drop_all}
use Rattle.std.specs.Prelude.{Err, Ok}
use Rattle.host.specs.Nodes.{ChecksOutput}
use Rattle.v7_origin.specs.{Runs.Each, Whole.Source}
use Rattle.v7_origin.proofs.ReadingLemmas.{each_all, each_ends, each_more, one_left}
use Rattle.v7_origin.proofs.origin.check_each.Goals as goal

pub returns-in_err-check_output : goal.returns-in_err-check_output
returns-in_err-check_output g c =
    let out = c.args.out.now in
    let all = map (λ (s : Source). s.path) c.args.sources.now in
    let old = g.O.FileSystem.history c.args.file_system.now in
    let mid = g.O.FileSystem.history c.loop-source.file_system in
    let new = g.O.FileSystem.history c.check_output.new.file_system in
    let fault = c.in_err-check_output.field-0.0 in
    let left = one_left c.args.sources.now c.loop-source.source-index c.source-item.result c.loop-source-test.true c.source-item.is in
    let same : c.as_str.result.now ≡ c.source-item.result.path = search rules in
    let is : c.from_residual.result ≡ Err fault = search rules in
    subst (λ r. Each (λ path _. ChecksOutput path out) all tt old new r) (sym is)
    (each_ends (λ path _. ChecksOutput path out) all tt old mid new tt _ _ c.source-item.result.path fault c.loop-source.invariant
    (ap (map (λ (s : Source). s.path)) left) (subst (λ path. ChecksOutput path out mid new (Err fault)) same c.in_err-check_output.ensures))

pub loop-source-preserved : goal.loop-source-preserved
loop-source-preserved g c =
    let out = c.args.out.now in
    let mid = g.O.FileSystem.history c.loop-source.file_system in
    let next = g.O.FileSystem.history c.check_output.new.file_system in
    let left = one_left c.args.sources.now c.loop-source.source-index c.source-item.result c.loop-source-test.true c.source-item.is in
    let same : c.as_str.result.now ≡ c.source-item.result.path = search rules in
    each_more (λ path _. ChecksOutput path out) (map (λ (s : Source). s.path) c.args.sources.now) tt (g.O.FileSystem.history c.args.file_system.now) mid next tt tt
    _ _ c.source-item.result.path c.loop-source.invariant (ap (map (λ (s : Source). s.path)) left)
    (subst (λ path. ChecksOutput path out mid next (Ok tt)) same c.in_ok-check_output.ensures)

pub returns : goal.returns
returns g c =
    let all = c.args.sources.now in
    each_all (λ path _. ChecksOutput path c.args.out.now) (map (λ (s : Source). s.path) all) tt (g.O.FileSystem.history c.args.file_system.now)
    (g.O.FileSystem.history c.loop-source.file_system) tt _ c.loop-source.invariant
    (at_drop_all (map (λ (s : Source). s.path)) all c.loop-source.source-index c.loop-source-test.false)
