use Rattle.std.proofs.Common.{◌≡◌, Some, None, sym, rules}
use Rattle.aout_core.specs.WellFormed.{first_bad_word}
use Rattle.aout_core.proofs.WordFaultLemmas.{fault_in_text, fault_in_data}
use Rattle.aout_core.proofs.object.object_fault.Goals as goal

pub returns-in-Some : goal.returns-in-Some
returns-in-Some c =
    let found : first_bad_word c.args.file.now.symbols 0 c.args.file.now.text_reloc ≡ Some c.in-Some.fault = search rules in
    sym (fault_in_text c.args.file.now c.in-Some.fault (search rules) (search rules) found)

pub returns-in-None : goal.returns-in-None
returns-in-None c =
    let none : first_bad_word c.args.file.now.symbols 0 c.args.file.now.text_reloc ≡ None = search rules in
    let text_is_good = fault_in_data c.args.file.now (search rules) (search rules) none in
    search rules
