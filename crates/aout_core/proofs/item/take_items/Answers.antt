use Rattle.std.proofs.Common.{◌≡◌, ◌+◌, ◌-◌, ◌<◌, ◌++◌, ◌∷◌, [], arith, rules, subst, sym}
use Rattle.std.specs.{Prelude.Err, Prelude.IfErr, Io.KnownBytes.prepend_known}
use Rattle.aout_core.specs.internal.Blocks.{awaited, EndsBefore}
use Rattle.aout_core.proofs.{IncomingLemmas.{ends_later, row_taken}, ItemLemmas.{as_many, none_taken, one_missing, rows_taken}}
use Rattle.aout_core.proofs.item.take_items.Goals as goal

pub loop-left-init : goal.loop-left-init
loop-left-init g c = (
  search rules,
  none_taken g.T.Item.item_in g.T.Item.WIDTH (c.args.count - c.args.count) c.args.incoming.now
      (g.R.Read.remaining c.args.wire.now.device) c.args.items.now.items (omega arith),
  search rules,
  search rules,
)

pub take_item-requires-clause-within : goal.take_item-requires-clause-within
take_item-requires-clause-within g c =
    let row = rows_taken g.T.Item.item_in g.T.Item.WIDTH
    (c.args.count - c.loop-left.left) c.take_waiting.result _ _ _ _ _ _ _ _ _ c.loop-left.invariant.1
    (c.take_waiting.ensures.value (g.R.Read.remaining c.loop-left.wire.device)) in
    let fewer : c.args.count - c.loop-left.left + c.take_waiting.result < c.args.count = search rules in
    one_missing g.T.Item.item_in g.T.Item.WIDTH _ c.args.count _ _ _ _ _ _ row fewer c.requires.within

pub returns-in_err-take_item-clause-end : goal.returns-in_err-take_item-clause-end
returns-in_err-take_item-clause-end g c =
    let same : c.from_residual.result ≡ Err c.in_err-take_item.field-0.0 = search rules in
    let old = c.args.incoming.now in
    let before = g.R.Read.remaining c.args.wire.now.device in
    let after = g.R.Read.remaining c.take_item.new.wire.device in
    let row = rows_taken g.T.Item.item_in g.T.Item.WIDTH
    (c.args.count - c.loop-left.left) c.take_waiting.result _ _ _ _ _ _ _ _ _ c.loop-left.invariant.1
    (c.take_waiting.ensures.value (g.R.Read.remaining c.loop-left.wire.device)) in
    subst (λ r. IfErr r (λ fault. EndsBefore fault (prepend_known old.waiting before) after (awaited old))) (sym same)
    (ends_later c.in_err-take_item.field-0.0 old c.take_waiting.new.incoming before _ after row.bytes row.takes
    c.in_err-take_item.ensures.end)

pub loop-left-preserved-then-left-gt0 : goal.loop-left-preserved-then-left-gt0
loop-left-preserved-then-left-gt0 g c =
    let row = rows_taken g.T.Item.item_in g.T.Item.WIDTH
    (c.args.count - c.loop-left.left) c.take_waiting.result _ _ _ _ _ _ _ _ _ c.loop-left.invariant.1
    (c.take_waiting.ensures.value (g.R.Read.remaining c.loop-left.wire.device)) in
    let pushed : c.push.new.self.items ≡ c.take_waiting.new.items.items ++ c.in_ok-take_item.field-0 ∷ [] = search rules in
    let all = row_taken g.T.Item.item_in g.T.Item.WIDTH (c.args.count - c.loop-left.left + c.take_waiting.result) _ _ _
    _ _ _ _ _ _ c.in_ok-take_item.field-0 row c.in_ok-take_item.ensures.value pushed in
    let count : c.args.count - c.loop-left.left + c.take_waiting.result + 1
    ≡ c.args.count - (c.loop-left.left - c.take_waiting.result - 1) = search rules in (
      search rules,
      as_many g.T.Item.item_in g.T.Item.WIDTH _ _ _ _ _ _ _ _ count all,
      search rules,
      search rules,
    )

pub loop-left-preserved : goal.loop-left-preserved
loop-left-preserved g c =
    let row = rows_taken g.T.Item.item_in g.T.Item.WIDTH
    (c.args.count - c.loop-left.left) c.take_waiting.result _ _ _ _ _ _ _ _ _ c.loop-left.invariant.1
    (c.take_waiting.ensures.value (g.R.Read.remaining c.loop-left.wire.device)) in
    let count : c.args.count - c.loop-left.left + c.take_waiting.result
    ≡ c.args.count - (c.loop-left.left - c.take_waiting.result) = search rules in (
      search rules,
      as_many g.T.Item.item_in g.T.Item.WIDTH _ _ _ _ _ _ _ _ count row,
      search rules,
      search rules,
    )
