use Rattle.std.proofs.Common.{rules, ◌≡◌}
use Rattle.v7_from_gnu.proofs.ConvertingLemmas.{refused_stops}
use Rattle.v7_from_gnu.proofs.converting.convert_one.Goals as goal

pub returns-in-Err : goal.returns-in-Err
returns-in-Err c =
    let same : c.deref.result.now ≡ c.args.source.bytes = search rules in
    refused_stops c.args.options c.args.source c.deref.result.now c.in-Err.refusal c.refused.result same c.in-Err.ensures.value c.refused.ensures
