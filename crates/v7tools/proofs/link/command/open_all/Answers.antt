use Rattle.std.proofs.Common.{rules, ◌≡◌, [], ◌∷◌, ◌++◌, map, length, Some, refl, sym, ap, ◌∙◌, subst, string_bytes}
use Rattle.std.proofs.lemmas.List.{map-append, nil_from_length}
use Rattle.link_session.proofs.ListLemmas.{all_append}
use Rattle.std.specs.List.{AllByRecursion}
use Rattle.host.specs.Events.{Extends, opens}
use Rattle.v7tools.specs.internal.Openings.{sources, IsWorking}
use Rattle.host.proofs.EventLemmas.{nothing_asked}
use Rattle.v7tools.proofs.EventLemmas.{no_more, one_more, opened_at, opens_more, stops_at}
use Rattle.v7tools.proofs.link.command.open_all.Goals as goal

pub loop-path-init : goal.loop-path-init
loop-path-init g c =
    let history = g.O.FileSystem.history c.args.file_system.now in
    let empty : c.in_ok-inputs.inputs.items ≡ [] = search rules in
    let all_left = c.into_iter-path-iterator.ensures.into_iter_gives.0 in
    let left = ap (λ xs. length xs) all_left in
    record {
      room = search rules;
      asked = subst (λ xs. Extends history history (opens (sources g.O.Source.Read.remaining xs))) (sym empty) (nothing_asked _);
      order = sym all_left ∙ ap (λ xs. map (λ i. i.0) xs ++ c.into_iter-path-iterator.result.rest.items) (sym empty);
      working = subst (AllByRecursion IsWorking) (sym empty) tt;
    }

pub returns-in_default : goal.returns-in_default
returns-in_default g c =
    let at : c.as_str.result.now ≡ string_bytes c.in-Some.path = search rules in
    stops_at _ _ _ _ _ _ c.next.new.self.rest.items c.in-Some.path c.loop-path.inputs.items
    c.loop-path.invariant.asked c.loop-path.invariant.order c.in-Some.ensures.steps.0 (opened_at _ _ _ _ _ _ c.in_default.ensures at refl)

pub loop-path-preserved : goal.loop-path-preserved
loop-path-preserved g c =
    let at : c.as_str.result.now ≡ string_bytes c.in-Some.path = search rules in
    let pushed : c.push.new.self.items ≡ c.loop-path.inputs.items ++ (c.in-Some.path, c.new.result) ∷ [] = search rules in
    let e = c.in-Some.ensures.steps.0 in
    let asked = opened_at _ _ _ _ _ _ c.in-Ok.ensures at
    (ap (λ d. Some (g.O.Source.Read.remaining d)) (sym c.new.ensures.device)) in
    let old = g.O.FileSystem.history c.args.file_system.now in
    let new = g.O.FileSystem.history c.open.new.self in
    record {
      room = search rules;
      asked =
          subst (λ xs. Extends old new (opens (sources g.O.Source.Read.remaining xs))) (sym pushed) (opens_more _ _ _ _ _
          _ c.loop-path.invariant.asked asked);
      order =
          subst (λ xs. c.args.files.items ≡ xs ++ c.next.new.self.rest.items)
          (sym (ap (map (λ i. i.0)) pushed ∙ map-append (λ i. i.0) c.loop-path.inputs.items _))
          (one_more _ _ _ _ _ c.loop-path.invariant.order e);
      working =
          subst (AllByRecursion IsWorking) (sym pushed) (all_append _ _ _ c.loop-path.invariant.working (c.new.ensures.latch, tt));
    }

pub returns : goal.returns
returns g c =
    let left = c.loop-path.path-iterator.rest in (
      c.loop-path.invariant.asked,
      no_more _ _ _ c.loop-path.invariant.order (nil_from_length left.items (sym left.ok.0 ∙ c.in-None.ensures.steps.0)),
      c.loop-path.invariant.working,
    )
