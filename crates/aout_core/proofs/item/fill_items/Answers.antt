use Rattle.std.proofs.{Common.{◌≡◌, ◌*◌, ◌<◌, ◌≤◌, ◌++◌, ◌∷◌, [], length, take, drop, sym, ap, ◌∙◌, rules}, lemmas.List.take_more_set}
use Rattle.aout_core.specs.internal.Rows.{row_in}
use Rattle.aout_core.proofs.ItemLemmas.{row_in-next}
use Rattle.aout_core.proofs.item.fill_items.Goals as goal

pub loop-n-preserved : goal.loop-n-preserved
loop-n-preserved g c =
    let item_in = g.T.Item.item_in in
    let width = g.T.Item.WIDTH in
    let n = c.loop-n.n in
    let bytes = c.args.bytes.now in
    let items = c.loop-n.items in
    let item = c.from_slice.result in
    let inside : n < length items = search rules in
    let enough : width * length items ≤ length bytes = search rules in
    let is : item ≡ item_in (take width (drop (width * n) bytes)) = search rules in
    record {
      many = search rules;
      read = take_more_set items n item inside
          ∙ ap (λ l. l ++ item ∷ []) c.loop-n.invariant.read
          ∙ ap (λ x. row_in item_in width n bytes ++ x ∷ []) is
          ∙ sym (row_in-next item_in width n (length items) bytes inside enough);
    }
