use Rattle.std.proofs.Common.{◌≡◌, ◌∙◌, not, ap, true, false, rules}
use Rattle.std.specs.Map.{keys_of}
use Rattle.aout_core.specs.WellFormed.{is_external}
use Rattle.tool_options.specs.NameLists.{is_among}
use Rattle.link_session.proofs.{LimitLemmas.{known_counts, unknown_counts}, limits.is_new.Goals.{then-contains, else-contains}}
use Rattle.link_session.proofs.limits.is_new.Goals as goal

pub returns-after-contains : goal.returns-after-contains
returns-after-contains c =
    let external : is_external c.args.symbol.now ≡ true = search rules in
    elim c.if-contains.branch [
      | then-contains w ↦
          let known : is_among (keys_of c.args.externals.now.entries) c.args.symbol.now.name ≡ true = search rules in
          let yes : c.contains.result ≡ true = search rules in
          ap not (w.result-is ∙ yes) ∙ known_counts (keys_of c.args.externals.now.entries) c.args.before.now c.args.symbol.now known
      | else-contains w ↦
          let unknown : is_among (keys_of c.args.externals.now.entries) c.args.symbol.now.name ≡ false = search rules in
          ap not (w.result-is ∙ w.mentions.ensures)
          ∙ unknown_counts (keys_of c.args.externals.now.entries) c.args.before.now c.args.symbol.now external unknown
    ]
