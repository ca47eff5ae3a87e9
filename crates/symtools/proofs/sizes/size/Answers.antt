use Rattle.std.proofs.Common.{rules, ◌++◌, ◌∷◌, [], if◌then◌else◌, nat_lt, length, subst, take_all}
use Rattle.aout_core.specs.Wires.{AppendsPrefix}
use Rattle.symtools.specs.SizeLines.{size_line}
use Rattle.aout_core.proofs.PutsLemmas.{front_of_row, writes_in_part}
use Rattle.symtools.proofs.{PutsLemmas.row_more, TextLemmas.sized, TextLemmas.size_text-sized}
use Rattle.symtools.proofs.sizes.size.Goals as goal

pub returns-in_err-put_size-clause-written : goal.returns-in_err-put_size-clause-written
returns-in_err-put_size-clause-written g c =
    let files = c.args.files.now in
    let path = c.deref.ensures in
    let header = c.header.ensures.value in
    let entry = subst (AppendsPrefix _ _) (λ i. (if nat_lt 1 (length files) then path i ++ 58 ∷ 32 ∷ [] else [])
    ++ size_line (header i) ++ 10 ∷ []) c.in_err-put_size.ensures.bytes in
    writes_in_part c.from_residual-in_err-put_size.ensures.0 (search rules) (search rules)
    (subst (AppendsPrefix _ _) (size_text-sized files)
    (front_of_row (sized (length files)) files c.loop-path.path-index c.loop-path-item.result _ _ _
    c.loop-path-test.true c.loop-path-item.is c.loop-path.invariant.1 entry))

pub loop-path-preserved : goal.loop-path-preserved
loop-path-preserved g c = search (rules, row_more, sized)

pub returns-clause-written : goal.returns-clause-written
returns-clause-written g c =
    let files = c.args.files.now in
    let all = take_all c.loop-path.path-index files c.loop-path-test.false in
    search (rules, sized, size_text-sized)
