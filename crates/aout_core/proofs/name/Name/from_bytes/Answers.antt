use Rattle.std.proofs.Common.{◌++◌, ◌∙◌, drop, replicate, rules}
use Rattle.aout_core.proofs.NameLemmas.{name_filled}
use Rattle.aout_core.proofs.name.Name.from_bytes.Goals as goal

pub returns : goal.returns
returns c =
    c.from_padded.ensures
    ∙ name_filled c.args.text.now (c.copy_from_slice.new.self ++ drop c.min-len.result (replicate 8 0)) c.min-len.result
    (search rules) (search rules)
