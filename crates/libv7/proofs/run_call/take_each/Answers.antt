use Rattle.std.proofs.Common.{List, ℕ, ◌+◌, Ok, ap, inr, take, subst, sym, ◌∙◌}
use Rattle.aout_core.specs.Contents.{Contents}
use Rattle.link_session.specs.Labelled.{objects}
use Rattle.libv7.specs.{LinkAnswers.each_of, LinkAnswers.taken_each, MemoryWanted.MayRunOutAt}
use Rattle.libv7.proofs.{EachLemmas.{more_each, out_at_each, refused_each, taken_after, taken_goes_on}, SessionLemmas.objects_more}
use Rattle.libv7.proofs.run_call.take_each.Goals as goal

pub returns-in-Err-clause-err : goal.returns-in-Err-clause-err
returns-in-Err-clause-err c = λ other.
    let names = c.loop-place.session.forced in
    ap (λ (f : List (List ℕ)). taken_each f (each_of c.args.parts.now)) (sym c.loop-place.invariant.forced)
    ∙ refused_each (taken_each names) (taken_after names) (taken_goes_on names) c.args.parts.now c.loop-place.place _
    (objects c.loop-place.session.entries) c.in-Err.cause c.loop-place-test.true c.loop-place.invariant.taken (c.in-Err.ensures.err other)

pub returns-in-Err-clause-memory : goal.returns-in-Err-clause-memory
returns-in-Err-clause-memory c = λ memory.
    let names = c.loop-place.session.forced in
    inr (subst (λ (f : List (List ℕ)). MayRunOutAt (taken_each f) (each_of c.args.parts.now) c.loop-place.place) c.loop-place.invariant.forced
    (out_at_each (taken_each names) (taken_after names) (taken_goes_on names) c.args.parts.now c.loop-place.place _
    (objects c.loop-place.session.entries) c.loop-place-test.true c.loop-place.invariant.taken (c.in-Err.ensures.memory memory)))

pub loop-place-preserved : goal.loop-place-preserved
loop-place-preserved c =
    let names = c.loop-place.session.forced in
    let added = c.in-Ok.ensures.ok in record {
      forced = added.adds.forced ∙ c.loop-place.invariant.forced;
      taken = ap (λ (f : List (List ℕ)). taken_each f (each_of (take (c.loop-place.place + 1) c.args.parts.now))) added.adds.forced
          ∙ more_each (taken_each names) (taken_after names) (taken_goes_on names) c.args.parts.now c.loop-place.place _
          (objects c.loop-place.session.entries) added.object c.loop-place-test.true c.loop-place.invariant.taken added.taken
          ∙ ap (λ (os : List Contents). Ok os) (sym (objects_more _ c.loop-place.session c.add_bytes.new.session added));
    }
