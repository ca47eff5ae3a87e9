use Rattle.std.proofs.Common.{◌++◌, ◌∷◌, [], ◌∙◌, append_assoc, subst, sym, if◌then◌else◌}
use Rattle.aout_core.specs.Wires.{Writes}
use Rattle.symtools.specs.SizeLines.{size_line}
use Rattle.aout_core.proofs.PutsLemmas.{writes_both, writes_no_more}
use Rattle.symtools.proofs.sizes.put_size.Goals as goal

pub returns-in_err-put_heading : goal.returns-in_err-put_heading
returns-in_err-put_heading g c =
    let front = if c.args.is_named then c.args.path.now ++ 58 ∷ 32 ∷ [] else [] in
    let line = size_line c.args.header.now in
    subst (Writes g.W.Write.contents c.from_residual.result c.args.out.now c.put_heading.new.out) (sym (append_assoc front line (10 ∷ [])))
    (writes_no_more (line ++ 10 ∷ []) c.from_residual.ensures.0 c.in_err-put_heading.ensures)

pub returns : goal.returns
returns g c =
    let front = if c.args.is_named then c.args.path.now ++ 58 ∷ 32 ∷ [] else [] in
    let line = size_line c.args.header.now in
    let text = subst (Writes g.W.Write.contents c.put.result c.put_heading.new.out c.put.new.self)
    (c.as_bytes.ensures ∙ c.size_line-text.ensures) c.put.ensures.writes in
    subst (Writes g.W.Write.contents c.put.result c.args.out.now c.put.new.self)
    (sym (append_assoc front line (10 ∷ []))) (writes_both c.in_ok-put_heading.ensures text)
