use Rattle.std.proofs.Common.{rules, ◌++◌, ◌∷◌, [], if◌then◌else◌, length, subst, take_all, filter, string_bytes, ap, ◌∙◌}
use Rattle.std.proofs.lemmas.Result.{err_from_is_err_and}
use Rattle.std.specs.{List.flat_map, Io.KnownBytes.Appends}
use Rattle.aout_core.specs.Wires.{AppendsPrefix}
use Rattle.symtools.specs.{SymbolLines.symbol_line, NmLists.is_shown, NmLists.arranged}
use Rattle.aout_core.proofs.PutsLemmas.{front_of_row, put_broke_off}
use Rattle.symtools.proofs.{PutsLemmas.{not_failed, row_more}, TextLemmas.{listed, lists_up_to, nm_text-listed}}
use Rattle.symtools.proofs.listing.nm.Goals as goal

pub returns-in_err-list_file-clause-bytes : goal.returns-in_err-list_file-clause-bytes
returns-in_err-list_file-clause-bytes g c =
    let files = c.args.files.now in
    let o = c.args.options in
    let file = c.file-item.result in
    let headed = c.loop-file.invariant.1 in
    let entry = subst (AppendsPrefix _ _)
    (λ i. (if headed i then string_bytes file.0 ++ 58 ∷ 10 ∷ [] else [])
    ++ flat_map (λ s. (if o.each_line then string_bytes file.0 ++ 58 ∷ [] else []) ++ symbol_line s)
    (arranged o (filter (is_shown o) file.1.symbols)))
    c.in_err-list_file.ensures.bytes in
    put_broke_off c.from_residual-in_err-list_file.result _ _ _ c.from_residual-in_err-list_file.ensures.0
    (subst (AppendsPrefix _ _) (nm_text-listed o files)
    (front_of_row (listed o (length files)) files c.loop-file.file-index c.file-item.result _ _ _ c.loop-file-test.true
    c.file-item.is c.loop-file.invariant.2 entry))

pub returns-in_err-list_file-clause-memory : goal.returns-in_err-list_file-clause-memory
returns-in_err-list_file-clause-memory g c = search (rules, err_from_is_err_and, lists_up_to, listed)

pub loop-file-preserved : goal.loop-file-preserved
loop-file-preserved g c = search (rules, not_failed, row_more, listed)

pub returns-clause-bytes : goal.returns-clause-bytes
returns-clause-bytes g c =
    let files = c.args.files.now in
    let o = c.args.options in
    let all = take_all c.loop-file.file-index files c.loop-file-test.false in
    subst (Appends _ _) (ap (flat_map (listed o (length files))) all ∙ nm_text-listed o files) c.loop-file.invariant.2
