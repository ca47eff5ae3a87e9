use Rattle.std.proofs.Common.{◌≡◌, ◌-◌, ◌≤◌, [], List, ℕ, ◌++◌, length, take, drop, arith, rules, ap, ◌∙◌, subst, sym, append-nil}
use Rattle.std.proofs.{Common.length-drop, lemmas.List.{drop_all, take_rest}}
use Rattle.std.specs.{Prelude.Err, Prelude.IfErr, Io.KnownBytes.prepend_known}
use borrow.Rule.Slice.PartMut.{post_of}
use Rattle.aout_core.specs.internal.Blocks.{Awaited, awaited, EndsBefore, Refills, Takes}
use Rattle.aout_core.proofs.IncomingLemmas.{taken_at_once, taken_in_two, ends_after_waiting}
use Rattle.aout_core.proofs.incoming.Incoming.take.Goals as goal

pub returns-else-n-out-clause-value : goal.returns-else-n-out-clause-value
returns-else-n-out-clause-value g c =
    let e = c.give_out-n.ensures in
    let inside = c.self.inside in
    let old : Awaited = record { waiting = inside.block; missing = inside.missing } in
    let new : Awaited = record { waiting = c.give_out-n.new.self; missing = inside.missing } in
    let reader = g.R.Read.remaining c.args.wire.now.device in
    subst (λ (w : Awaited). Takes w reader new reader c.give_out-n.new.out) c.self.view_is
    (taken_at_once reader old c.args.out.now c.give_out-n.new.out c.give_out-n.new.self c.give_out-n.result e.count
    (search rules) e.value e.left)

pub returns-in_ok-refill-clause-value : goal.returns-in_ok-refill-clause-value
returns-in_ok-refill-clause-value g c =
    let e = c.give_out-n.ensures in
    let f = c.give_out.ensures in
    let inside = c.self.inside in
    let refilled = c.self-then-n-out.inside in
    let old : Awaited = record { waiting = inside.block; missing = inside.missing } in
    let read : Awaited = record { waiting = refilled.block; missing = refilled.missing } in
    let new : Awaited = record { waiting = c.give_out.new.self; missing = refilled.missing } in
    let before = g.R.Read.remaining c.args.wire.now.device in
    let after = g.R.Read.remaining c.refill.new.wire.device in
    let out = c.give_out-n.new.out in
    let n = c.give_out-n.result in
    let m = c.give_out.result in
    let post = post_of n (length out - n) out in
    let all : List ℕ = take n out ++ (c.give_out.new.out ++ post) in
    let none : post ≡ [] = drop_all (length out - n) (drop n out) (omega (arith, length-drop n out)) in
    let joined : all ≡ take n out ++ c.give_out.new.out =
    ap (λ l. take n out ++ (c.give_out.new.out ++ l)) none ∙ ap (λ l. take n out ++ l) (append-nil c.give_out.new.out) in
    let again = f.value ∙ ap (λ l. take m refilled.block ++ drop m l) (take_rest out n) in
    let reads =
    subst (λ (w : Awaited). Refills 512 inside.missing before after w) (sym c.self-then-n-out.view_is) c.in_ok-refill.ensures.value in
    let within = subst (λ (w : Awaited). length c.args.out.now ≤ awaited w) (sym c.self.view_is) c.requires.within in
    subst (λ (w : Awaited). Takes w before new after all) c.self.view_is
    (taken_in_two before after old read c.args.out.now out c.give_out.new.out all c.give_out.new.self n m
    e.count (search rules) e.value reads (search rules) again f.left joined c.requires.short within)

pub returns-in_err-refill-clause-end : goal.returns-in_err-refill-clause-end
returns-in_err-refill-clause-end g c =
    let same : c.from_residual.result ≡ Err c.in_err-refill.field-0.0 = search rules in
    let before = g.R.Read.remaining c.args.wire.now.device in
    let after = g.R.Read.remaining c.refill.new.wire.device in
    let old : Awaited = record { waiting = c.self.inside.block; missing = c.self.inside.missing } in
    let ended =
    subst (λ (w : Awaited). EndsBefore c.in_err-refill.field-0.0 (prepend_known w.waiting before) after (awaited w)) c.self.view_is
    (ends_after_waiting c.in_err-refill.field-0.0 old before after c.in_err-refill.ensures.end) in
    subst (λ r. IfErr r (λ fault. EndsBefore fault (prepend_known c.args.self.now.waiting before) after (awaited c.args.self.now)))
    (sym same) ended
