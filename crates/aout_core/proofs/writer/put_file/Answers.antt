use Rattle.std.proofs.Common.{◌++◌, sym, ◌∙◌, ap}
use Rattle.std.specs.List.{flat_map}
use Rattle.aout_core.specs.{Encoding.{symbol_encoding, encoding}, internal.Fronts.to_table}
use Rattle.aout_core.proofs.{FilePutLemmas.at_table, OutgoingLemmas.broke_then, OutgoingLemmas.puts_then}
use Rattle.aout_core.proofs.writer.put_file.Goals as goal

pub returns-in_err-put_relocated-clause-bytes : goal.returns-in_err-put_relocated-clause-bytes
returns-in_err-put_relocated-clause-bytes g c =
    let f = c.args.file.now in
    broke_then c.from_residual.result _ _ c.args.outgoing.now _ (to_table f) (flat_map symbol_encoding f.symbols) (encoding f) (at_table f)
    c.from_residual.ensures.0 c.in_err-put_relocated.ensures.bytes

pub returns-clause-bytes : goal.returns-clause-bytes
returns-clause-bytes g c =
    let f = c.args.file.now in
    puts_then c.put_items.result _ _ _ c.args.outgoing.now c.put_relocated.new.outgoing c.put_items.new.outgoing (to_table f)
    (flat_map symbol_encoding c.symbols.result.now) (encoding f)
    (at_table f ∙ ap (λ ss. to_table f ++ flat_map symbol_encoding ss) (sym c.symbols.ensures.value))
    c.in_ok-put_relocated.ensures.bytes c.put_items.ensures.bytes
