use Rattle.std.proofs.Common.{rules, ◌≡◌, [], map, subst, inl, inr}
use Rattle.std.specs.Prelude.{List, Ok, Err, Result, string_bytes}
use Rattle.host.specs.declared.answer.Fault.{Fault}
use Rattle.v7_origin.specs.{Runs.{ChecksOut, Each, Judges, Takes}, Whole.Source}
use Rattle.v7_origin.specs.declared.reading.PathFrom.TheVariants.{Arguments}
use Rattle.v7_origin.proofs.origin.find_among.Goals as goal

-- the files of the arguments are read
pub returns-in_err-read_each : goal.returns-in_err-read_each
returns-in_err-read_each g c =
    let old = g.O.FileSystem.history c.args.file_system.now in
    let new = g.O.FileSystem.history c.read_each.new.file_system in
    let fault = c.in_err-read_each.field-0.0 in
    let empty : c.new-sources.result.items ≡ [] = search rules in
    let reads = subst (λ start. Each (Takes Arguments) (map string_bytes c.paths.result.now) start old new (Err fault)) empty c.in_err-read_each.ensures in
    inl (fault, subst (λ paths. Each (Takes Arguments) paths [] old new (Err fault)) c.paths.ensures reads, search rules)

pub returns-in_err-read_each-2 : goal.returns-in_err-read_each-2
returns-in_err-read_each-2 g c =
    let old = g.O.FileSystem.history c.args.file_system.now in
    let mid = g.O.FileSystem.history c.read_each.new.file_system in
    let named = c.read_each.new.sources.items in
    let empty : c.new-sources.result.items ≡ [] = search rules in
    let reads = subst (λ start. Each (Takes Arguments) (map string_bytes c.paths.result.now) start old mid (Ok named)) empty c.in_ok-read_each.ensures in
    inr (
      named,
      mid,
      subst (λ paths. Each (Takes Arguments) paths [] old mid (Ok named)) c.paths.ensures reads,
      inl (c.in_err-read_each-2.field-0.0, c.in_err-read_each-2.ensures, search rules),
    )

pub returns-in_err-check_out : goal.returns-in_err-check_out
returns-in_err-check_out g c =
    let old = g.O.FileSystem.history c.args.file_system.now in
    let mid = g.O.FileSystem.history c.read_each.new.file_system in
    let read = g.O.FileSystem.history c.read_each-2.new.file_system in
    let new = g.O.FileSystem.history c.check_out.new.file_system in
    let named = c.read_each.new.sources.items in
    let empty : c.new-sources.result.items ≡ [] = search rules in
    let reads = subst (λ start. Each (Takes Arguments) (map string_bytes c.paths.result.now) start old mid (Ok named)) empty c.in_ok-read_each.ensures in
    let sources = c.read_each-2.new.sources.items in
    let fault = c.in_err-check_out.field-0.0 in
    let checks : ChecksOut _ (map (λ (s : Source). s.path) sources) read new (Err fault) = search rules in
    inr (
      named,
      mid,
      subst (λ paths. Each (Takes Arguments) paths [] old mid (Ok named)) c.paths.ensures reads,
      inr (
        sources,
        read,
        c.in_ok-read_each-2.ensures,
        inl (fault, subst (λ out. ChecksOut out (map (λ (s : Source). s.path) sources) read new (Err fault)) c.value_of.ensures checks, search rules),
      ),
    )

pub returns : goal.returns
returns g c =
    let old = g.O.FileSystem.history c.args.file_system.now in
    let mid = g.O.FileSystem.history c.read_each.new.file_system in
    let read = g.O.FileSystem.history c.read_each-2.new.file_system in
    let checked = g.O.FileSystem.history c.check_out.new.file_system in
    let new = g.O.FileSystem.history c.judge.new.file_system in
    let named = c.read_each.new.sources.items in
    let empty : c.new-sources.result.items ≡ [] = search rules in
    let reads = subst (λ start. Each (Takes Arguments) (map string_bytes c.paths.result.now) start old mid (Ok named)) empty c.in_ok-read_each.ensures in
    let sources = c.read_each-2.new.sources.items in
    let checks : ChecksOut _ (map (λ (s : Source). s.path) sources) read checked (Ok tt) = search rules in
    let judged : Judges c.args.given.now sources checked new c.judge.result = search rules in
    inr (
      named,
      mid,
      subst (λ paths. Each (Takes Arguments) paths [] old mid (Ok named)) c.paths.ensures reads,
      inr (
        sources,
        read,
        c.in_ok-read_each-2.ensures,
        inr (tt, checked, subst (λ out. ChecksOut out (map (λ (s : Source). s.path) sources) read checked (Ok tt)) c.value_of.ensures checks, judged),
      ),
    )
