use Rattle.std.proofs.Common.{◌∙◌, sym}
use Rattle.link_session.specs.{Labelled.objects, Mentions.mentions}
use Rattle.link_out.proofs.ReportNameLemmas.{found_known, missing_known}
use Rattle.link_out.proofs.reserved_names.state_of.Goals as goal

pub returns-in-Some : goal.returns-in-Some
returns-in-Some c =
    c.known_at.ensures ∙ found_known (mentions c.args.session.now.forced (objects c.args.session.now.entries))
    c.args.name.now c.in-Some.index (sym c.in-Some.is ∙ c.find.ensures)

pub returns-in-None : goal.returns-in-None
returns-in-None c =
    missing_known (mentions c.args.session.now.forced (objects c.args.session.now.entries)) c.args.name.now
    (sym c.in-None.is ∙ c.find.ensures)
