use Rattle.std.proofs.Common.{rules, ◌≡◌, [], ◌∷◌, ◌++◌, map, sym, subst}
use Rattle.v7tools.specs.{FileRuns.Reads}
use Rattle.v7tools.proofs.{EventLemmas.passed_on, FileRunLemmas.paths_more, FileRunLemmas.reads_more, FileRunLemmas.stops_reading}
use Rattle.v7tools.proofs.files.commands.load_all.Goals as goal

pub returns-in_err-file : goal.returns-in_err-file
returns-in_err-file g c =
    rw (passed_on _ _ c.from_residual-in_err-file.ensures.1) (stops_reading _ _ _ _ _ _ _ _ _
    c.loop-path.invariant.read c.loop-path.invariant.order c.in-Some.ensures.steps.0 c.in_err-file.ensures)

pub loop-path-preserved : goal.loop-path-preserved
loop-path-preserved g c =
    let old = g.O.FileSystem.history c.args.file_system.now in
    let new = g.O.FileSystem.history c.load_at.new.file_system in
    let before = c.loop-path.loaded.items in
    let pushed : c.push.new.self.items ≡ before ++ c.in_ok-file.file ∷ [] = search rules in
    record {
      room = search rules;
      read =
          subst (Reads old new) (sym pushed) (reads_more _ _ _ _ _ _ c.loop-path.invariant.read c.in_ok-file.ensures);
      order = subst (λ xs. c.args.files.items ≡ map (λ f. f.0) xs ++ c.next.new.self.rest.items) (sym pushed) (paths_more _ _ _ _
          _ _ c.loop-path.invariant.order c.in-Some.ensures.steps.0 c.in_ok-file.ensures.0);
    }
