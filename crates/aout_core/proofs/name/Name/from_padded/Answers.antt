use Rattle.std.proofs.Common.{◌≡◌, length, arith, rules}
use Rattle.aout_core.proofs.NameLemmas.{length-before_nul-le, cut_padded}
use Rattle.aout_core.proofs.name.Name.from_padded.Goals as goal

pub cut_at-requires : goal.cut_at-requires
cut_at-requires c =
    let long : length c.args.bytes ≡ 8 = search rules in omega (arith, c.end_of.ensures, length-before_nul-le c.args.bytes)

pub invariant_of-result : goal.invariant_of-result
invariant_of-result c = (cut_padded c.args.bytes c.cut_at.result (search rules) (search rules)).1

pub returns : goal.returns
returns c = (cut_padded c.args.bytes c.cut_at.result (search rules) (search rules)).0
