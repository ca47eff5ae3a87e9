use Rattle.std.proofs.{Common.{◌≡◌, ℕ, ◌++◌, List, length, drop, ap, sym, ◌∙◌, arith}, lemmas.Grind.common_steps}
use Rattle.link_session.specs.{Image.Named, internal.Additions.with_mentions, internal.Additions.mentions_by, internal.Additions.all_places}
use Rattle.link_session.proofs.{MentionedLemmas.length-with_mentions, PlacedLemmas.noted_places, PlacedLemmas.noted-all}
use Rattle.link_session.proofs.mention.enter_all.Goals as goal

pub enter-place-requires-clause-small : goal.enter-place-requires-clause-small
enter-place-requires-clause-small c =
    let all = mentions_by c.args.table.now.shifts c.args.table.now.symbols.now in
    omega (arith, c.loop-symbol.invariant.kept, length-with_mentions c.args.externals.now.entries all, c.requires.names)

pub enter-place-requires-clause-names_space : goal.enter-place-requires-clause-names_space
enter-place-requires-clause-names_space c = grind (arith, common_steps)

pub enter-place-requires-clause-multiples_space : goal.enter-place-requires-clause-multiples_space
enter-place-requires-clause-multiples_space c = grind (arith, common_steps)

pub enter-place-requires-clause-marks_space : goal.enter-place-requires-clause-marks_space
enter-place-requires-clause-marks_space c = grind (arith, common_steps)

pub enter-place-requires-clause-names : goal.enter-place-requires-clause-names
enter-place-requires-clause-names c =
    let shifts = c.args.table.now.shifts in
    let left = mentions_by shifts (drop c.loop-symbol.symbol-index c.args.table.now.symbols.now) in
    omega (
      arith,
      length-with_mentions c.loop-symbol.externals.entries left,
      ap (λ (es : Named). length es) c.loop-symbol.invariant.names,
      c.requires.names,
    )

pub push_reserved-requires : goal.push_reserved-requires
push_reserved-requires c = grind (arith, common_steps)

pub loop-symbol-preserved : goal.loop-symbol-preserved
loop-symbol-preserved c = grind (arith, common_steps)

pub returns-clause-names : goal.returns-clause-names
returns-clause-names c = grind (arith, common_steps)

pub returns-clause-multiples : goal.returns-clause-multiples
returns-clause-multiples c = grind (arith, common_steps)

pub returns-clause-places : goal.returns-clause-places
returns-clause-places c =
    let shifts = c.args.table.now.shifts in
    let symbols = c.args.table.now.symbols.now in
    let names : c.loop-symbol.externals.entries ≡ with_mentions c.args.externals.now.entries (mentions_by shifts symbols) =
    grind (arith, common_steps) in
    let noted : c.loop-symbol.places.items ≡ c.args.places.now.items
    ++ noted_places shifts c.args.externals.now.entries symbols = grind (arith, common_steps) in
    noted
    ∙ ap (λ (l : List ℕ). c.args.places.now.items ++ l) (noted-all shifts c.args.externals.now.entries symbols)
    ∙ ap (λ (es : Named). c.args.places.now.items ++ all_places es symbols) (sym names)

pub returns-clause-marks : goal.returns-clause-marks
returns-clause-marks c = grind (arith, common_steps)
