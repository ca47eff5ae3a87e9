use Rattle.std.proofs.{Common.{◌≡◌, ◌*◌, ◌/◌, ◌≤◌, ◌++◌, length, drop, sym, subst, arith, rules}, Math.Nat.{mul-div-le, mul-le-mul_left}}
use Rattle.aout_core.specs.{internal.Blocks.Awaited, internal.Rows.row_in, internal.Rows.TakesRow}
use Rattle.aout_core.proofs.ItemLemmas.{waiting_taken}
use Rattle.aout_core.proofs.item.take_waiting.Goals as goal

pub returns-clause-value : goal.returns-clause-value
returns-clause-value g c =
    let item_in = g.T.Item.item_in in
    let width = g.T.Item.WIDTH in
    let n = c.min-count.result in
    let w = c.args.incoming.now in
    let items = c.args.items.now.items in
    let more = c.read_items.new.items.items in
    let few : n ≤ length w.waiting / width = search rules in
    let within : width * n ≤ length w.waiting = omega (arith, mul-le-mul_left width few, mul-div-le (length w.waiting) width) in
    let read : more ≡ items ++ row_in item_in width n w.waiting = search rules in
    let passed : c.pass.new.self
    ≡ (let left : Awaited = record { waiting = drop (width * n) w.waiting; missing = w.missing } in left) = search rules in
    λ reader. subst (λ (u : Awaited). TakesRow item_in width n w reader u reader items more) (sym passed)
    (waiting_taken item_in width n w reader items more within read)
