use Rattle.std.proofs.{Common.{get_or, ℕ, ◌≡◌, ◌+◌, ◌∷◌, List, drop, ap, ◌∙◌}, lemmas.List.drop_more}
use Rattle.link_session.specs.internal.Bindings.{bindable_in, settled_all}
use Rattle.link_session.proofs.BindingLemmas.{rest_then, back_then, few_then, settled_then}
use Rattle.link_session.proofs.bind.bind_waiting.Goals as goal

pub loop-place-preserved : goal.loop-place-preserved
loop-place-preserved c =
    let old = c.args.image.now in
    let mid = c.loop-place.image in
    let b = c.bind_external in
    let inv = c.loop-place.invariant in
    let ps = c.args.places.now in
    let k = get_or ps c.loop-place.place-index 0 in
    let next = drop (c.loop-place.place-index + 1) ps in
    let split : drop c.loop-place.place-index ps ≡ k ∷ next = drop_more ps c.loop-place.place-index 0 c.loop-place-test.true in
    record {
      chained = b.ensures.chained;
      rest = rest_then old mid b.new.image inv.rest b.ensures.rest;
      bound =
          inv.bound ∙ ap (λ (l : List ℕ). settled_all old.externals.entries l (bindable_in mid)) split
          ∙ settled_then old mid b.new.image c.args.marks.now.items c.loop-place.marks.items b.new.marks.items inv.rest k next
          c.in_ok-bind_external.ensures.bound;
      few =
          few_then old mid b.new.image c.args.marks.now.items c.loop-place.marks.items b.new.marks.items inv.rest inv.few
          c.in_ok-bind_external.ensures.few;
      back =
          back_then old mid b.new.image c.args.marks.now.items c.loop-place.marks.items b.new.marks.items inv.rest
          c.requires.chained inv.chained inv.back b.ensures.back;
    }

pub returns-in_err-bind_external-clause-back : goal.returns-in_err-bind_external-clause-back
returns-in_err-bind_external-clause-back c =
    back_then c.args.image.now c.loop-place.image c.bind_external.new.image c.args.marks.now.items c.loop-place.marks.items
    c.bind_external.new.marks.items c.loop-place.invariant.rest c.requires.chained c.loop-place.invariant.chained
    c.loop-place.invariant.back c.bind_external.ensures.back
