use Rattle.std.proofs.Common.{rules, ◌≡◌, sym, ◌∙◌}
use Rattle.std.proofs.lemmas.Bool.{false≢true}
use Rattle.v7_origin.specs.Whole.{AreChosen, IsLinkOfAll}
use Rattle.v7_origin.proofs.finding.judged.Goals as goal
use Rattle.v7_origin.proofs.finding.judged.Goals.{in-Equal, in-Differs+in_ok-so_far-in-Differs}

pub returns : goal.returns
returns c is =
    elim c.match-branch-5.branch [
      | in-Equal w ↦
          let entries = c.in-Some.session.entries in
          let layout = c.layout_of-layout.result in
          let chosen : AreChosen c.args.sources.now c.args.order.now entries = search rules in
          let equal : IsLinkOfAll entries layout c.args.program.now = search rules in
          (c.args.order.now, entries, layout, chosen, equal)
      | in-Differs+in_ok-so_far-in-Differs w ↦ absurd (false≢true (sym w.is_whole-is ∙ is))
    ]
