use Rattle.std.proofs.{Common.{◌<◌, ◌+◌, ◌∙◌, length, sym, subst, arith, rules}, lemmas.Result.err_from_is_err_and}
use Rattle.listings.specs.{Reading.State, internal.Whole.IsDraft, internal.Lines.state_of}
use Rattle.listings.proofs.{DraftLemmas.line_keeps, ReadLemmas.{lines_on, runs_out_here, runs_out_on}}
use Rattle.listings.proofs.read.read_lines.Goals as goal

pub returns-in_err-read_line-clause-memory : goal.returns-in_err-read_line-clause-memory
returns-in_err-read_line-clause-memory c =
    let p = err_from_is_err_and c.from_residual.result c.from_residual.ensures.1 in
    let before = state_of c.loop-rest.number c.loop-rest.draft c.loop-rest.noting in
    rw p.1
    (c.loop-rest.invariant.3
    (runs_out_here before c.loop-rest.rest.now c.cut_line.result.0.now (search rules) c.cut_line.ensures.line c.in_err-read_line.ensures.memory))

pub loop-rest-preserved : goal.loop-rest-preserved
loop-rest-preserved c =
    let more : 0 < length c.loop-rest.rest.now = search rules in
    let shorter = c.cut_line.ensures.shorter in
    let count = c.loop-rest.invariant.0 in
    let line = c.cut_line.result.0.now in
    let before = state_of c.loop-rest.number c.loop-rest.draft c.loop-rest.noting in
    let after = state_of (c.loop-rest.number + 1) c.read_line.new.draft c.read_line.new.noting in
    let goes = c.in_ok-read_line.ensures.goes in (
      omega arith,
      subst (λ (s : State). IsDraft s.draft) (sym goes) (line_keeps before line c.loop-rest.invariant.1),
      lines_on before after c.loop-rest.rest.now line c.cut_line.result.1.now more c.cut_line.ensures.line c.cut_line.ensures.rest goes
          ∙ c.loop-rest.invariant.2,
      λ later. c.loop-rest.invariant.3
          (runs_out_on before after c.loop-rest.rest.now line c.cut_line.result.1.now more c.cut_line.ensures.line c.cut_line.ensures.rest goes later),
    )
