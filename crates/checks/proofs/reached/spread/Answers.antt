use Rattle.std.proofs.{Common.{◌≡◌, ℕ, ◌-◌, ◌<◌, ◌≤◌, length, get_or, sym, ap, ◌∙◌, arith, rules}, lemmas.List.get_or_read}
use Rattle.std.specs.Prelude.{slice_index}
use Rattle.checks.specs.Reached.{leads_to, visited_all, spread}
use Rattle.checks.proofs.SpreadLemmas.{found_inside, spread_more, spread_all}
use Rattle.checks.proofs.reached.spread.Goals as goal

pub returns-then-next-len-clause-found : goal.returns-then-next-len-clause-found
returns-then-next-len-clause-found c =
    let file = c.args.sweep.now in
    let found = c.loop-next.found.items in
    let none_left : length found ≤ c.loop-next.next = search rules in
    sym (spread_all c.args.evidence file (length file.text_words - c.loop-next.next) c.loop-next.next found none_left)
    ∙ c.loop-next.invariant.0

pub visit_leads-requires-clause-inside : goal.visit_leads-requires-clause-inside
visit_leads-requires-clause-inside c =
    let found = c.loop-next.found.items in
    let place = c.index-place.result.now in
    let inside : c.loop-next.next < length found = search rules in
    let below : get_or found c.loop-next.next place < length c.loop-next.marks =
    found_inside c.loop-next.marks found c.loop-next.next place c.loop-next.invariant.1 inside in
    omega (arith, below, c.index-place.ensures, c.loop-next.invariant.2)

pub loop-next-preserved : goal.loop-next-preserved
loop-next-preserved c =
    let file = c.args.sweep.now in
    let n : ℕ = length file.text_words in
    let found = c.loop-next.found.items in
    let place = c.index-place.result.now in
    let next = c.loop-next.next in
    let inside : c.loop-next.next < length found = search rules in
    let below : c.loop-next.next < length file.text_words = search rules in
    let is : place ≡ slice_index found next = get_or_read found next place inside c.index-place.ensures 0 in
    let led : c.visit_leads.new.found.items ≡ visited_all n found (leads_to c.args.evidence file (slice_index found next)) =
    c.in_ok-visit_leads.ensures.found
    ∙ ap (λ (k : ℕ). visited_all k found (leads_to c.args.evidence file place)) c.loop-next.invariant.2
    ∙ ap (λ (k : ℕ). visited_all n found (leads_to c.args.evidence file k)) is in (
      spread_more c.args.evidence file n next found c.visit_leads.new.found.items (spread c.args.evidence file n 0 c.args.found.now.items)
          below inside led c.loop-next.invariant.0,
      c.in_ok-visit_leads.ensures.marks,
      c.visit_leads.ensures.same ∙ c.loop-next.invariant.2,
    )
