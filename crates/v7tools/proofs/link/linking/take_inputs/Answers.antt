use Rattle.std.proofs.{Common.{◌≡◌, Ok, refl, sym, ap, subst, ◌∙◌, inl, inr, string_bytes}, lemmas.List.nil_from_length}
use Rattle.v7tools.specs.{LinkAnswers.{inputs_of, Input, said_by, TakesAll}, internal.InputParts.StopsWith}
use Rattle.link_session.specs.Undo.{Kept}
use Rattle.v7tools.proofs.StepLemmas.{is_device_fault, worked_before, worked_unless}
use Rattle.v7tools.proofs.{AdditionLemmas.forced_kept, AnswerLemmas.stops_at, AnswerLemmas.takes_accepted}
use Rattle.v7tools.proofs.link.linking.take_inputs.Goals as goal

pub loop-path-init : goal.loop-path-init
loop-path-init g c =
    let all_left = c.into_iter-path-iterator.ensures.into_iter_gives.0 in
    let start = c.args.session.now in
    record {
      forced = refl;
      taken = λ more h. subst (λ xs. TakesAll start.forced start.entries (inputs_of g.R.Read.remaining xs) more) all_left h;
      stops = λ said left h. subst (λ xs. StopsWith start.forced start.entries (inputs_of g.R.Read.remaining xs) said left) all_left h;
    }

pub returns-in-Err-clause-device : goal.returns-in-Err-clause-device
returns-in-Err-clause-device g c =
    is_device_fault (g.R.Read.remaining c.in-Some.wire.device) c.loop-path.session c.add_file.new.session c.in-Some.path
    c.in-Err.fault c.add_file.new.wire.has_failed c.in-Err.ensures.value c.in-Err.ensures.device

pub returns-in-Err-clause-value : goal.returns-in-Err-clause-value
returns-in-Err-clause-value g c =
    let fault = c.in-Err.fault in
    let before = c.loop-path.session in
    let after = c.add_file.new.session in
    let refused = c.in-Err.ensures in
    let i : Input = record {
      path = string_bytes c.in-Some.path;
      known = g.R.Read.remaining c.in-Some.wire.device;
      has_failed = c.in-Some.wire.has_failed;
    } in
    let worked = worked_unless c.in-Some.wire c.add_file.new.wire c.in-Some.path fault refused.latched refused.device in
    c.loop-path.invariant.stops (said_by fault) after.entries
    (subst (λ xs. StopsWith before.forced before.entries (inputs_of g.R.Read.remaining xs) (said_by fault) after.entries)
    (sym c.in-Some.ensures.steps.0)
    (inl (
      ap (λ (k : Kept). k.entries) refused.value.0,
      stops_at i c.in-Some.path refl before after fault refused.faults worked refused.value,
    )))

pub loop-path-preserved : goal.loop-path-preserved
loop-path-preserved g c =
    let before = c.loop-path.session in
    let after = c.add_file.new.session in
    let added = c.in_default.ensures in
    let left = c.next.new.self.rest.items in
    let i : Input = record {
      path = string_bytes c.in-Some.path;
      known = g.R.Read.remaining c.in-Some.wire.device;
      has_failed = c.in-Some.wire.has_failed;
    } in
    let same : after.forced ≡ before.forced = forced_kept i.known before after c.in-Some.path (Ok tt) added.value in
    let (object, accepted) = added.value in
    let taken = takes_accepted i before after object
    (worked_before c.in-Some.wire c.add_file.new.wire c.in-Some.path added.latched added.device) accepted in
    record {
      forced = same ∙ c.loop-path.invariant.forced;
      taken = λ more h.
          c.loop-path.invariant.taken more
          (subst (λ xs. TakesAll before.forced before.entries (inputs_of g.R.Read.remaining xs) more) (sym c.in-Some.ensures.steps.0)
          (after.entries, taken, subst (λ forced. TakesAll forced after.entries (inputs_of g.R.Read.remaining left) more) same h));
      stops = λ said last h.
          c.loop-path.invariant.stops said last (subst (λ xs. StopsWith before.forced before.entries
          (inputs_of g.R.Read.remaining xs) said last) (sym c.in-Some.ensures.steps.0)
          (inr (
            after.entries,
            taken,
            subst (λ forced. StopsWith forced after.entries (inputs_of g.R.Read.remaining left) said last) same h,
          )));
    }

pub returns-clause-value : goal.returns-clause-value
returns-clause-value g c =
    let left = c.loop-path.path-iterator.rest in
    let end = c.loop-path.session in
    c.loop-path.invariant.taken end.entries
    (subst (λ xs. TakesAll end.forced end.entries (inputs_of g.R.Read.remaining xs) end.entries)
    (sym (nil_from_length left.items (sym left.ok.0 ∙ c.in-None.ensures.steps.0))) refl)
