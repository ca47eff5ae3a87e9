use Rattle.std.proofs.Common.{List, Ok, ap, inr, sym, ◌∙◌}
use Rattle.aout_core.specs.Contents.{Contents}
use Rattle.link_session.specs.Labelled.{objects}
use Rattle.link_maps.specs.Members.{all_of}
use Rattle.libv7.specs.MapAnswers.{objects_each}
use Rattle.libv7.proofs.EachLemmas.{more_each, out_at_each, read_after, read_goes_on, refused_each}
use Rattle.libv7.proofs.map_call.objects_of.Goals as goal

pub returns-in-Err-clause-err : goal.returns-in-Err-clause-err
returns-in-Err-clause-err c = λ other.
    refused_each objects_each read_after read_goes_on c.args.parts.now c.loop-place.place _ (objects (all_of c.loop-place.all))
    c.in-Err.cause c.loop-place-test.true c.loop-place.invariant.read (c.in-Err.ensures.err other)

pub returns-in-Err-clause-memory : goal.returns-in-Err-clause-memory
returns-in-Err-clause-memory c = λ memory.
    inr (out_at_each objects_each read_after read_goes_on c.args.parts.now c.loop-place.place _ (objects (all_of c.loop-place.all))
    c.loop-place-test.true c.loop-place.invariant.read (c.in-Err.ensures.memory memory))

pub loop-place-preserved : goal.loop-place-preserved
loop-place-preserved c =
    let read = c.in-Ok.ensures.read in record {
      read = more_each objects_each read_after read_goes_on c.args.parts.now c.loop-place.place _ (objects (all_of c.loop-place.all))
          read.0 c.loop-place-test.true c.loop-place.invariant.read read.1 ∙ ap (λ (os : List Contents). Ok os) (sym read.2);
      taken = c.in-Ok.ensures.taken c.args.forced.now c.loop-place.invariant.taken;
    }
