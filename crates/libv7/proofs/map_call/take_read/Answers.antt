use Rattle.link_session.specs.Sessions.{labelled}
use Rattle.libv7.proofs.MapLemmas.{objects_more, taken_more}
use Rattle.libv7.proofs.map_call.take_read.Goals as goal

pub returns-clause-read : goal.returns-clause-read
returns-clause-read c = (
  c.in_ok-object.object,
  c.in_ok-object.ensures.object,
  objects_more c.args.all.now c.take.new.self (labelled c.new.result c.in_ok-object.object) c.in_ok-take.ensures.taken,
)

pub returns-clause-taken : goal.returns-clause-taken
returns-clause-taken c =
    taken_more c.args.all.now c.take.new.self (labelled c.new.result c.in_ok-object.object)
    c.in_ok-take.ensures.taken c.in_ok-take.ensures.forced
