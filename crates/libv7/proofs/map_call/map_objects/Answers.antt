use Rattle.std.proofs.Common.{ap}
use Rattle.libv7.specs.{LinkAnswers.numbered, RunAnswers.{RunOutput, map_given}}
use Rattle.link_maps.proofs.LinkLemmas.{shows_link}
use Rattle.libv7.proofs.map_call.map_objects.Goals as goal

pub returns : goal.returns
returns c = λ parts read taken.
    let m = c.in_ok-map.ensures in record {
      all = c.args.all;
      map = c.in_ok-map.map;
      taken = taken;
      is_map = m;
      shows = shows_link c.args.forced.now c.args.options.now (numbered 0 parts) c.args.all c.in_ok-map.map.outcome read taken.names taken.taken
          m.placed.made m.placed.outcome;
      records = c.in_ok-records.ensures;
      head = c.head_of-head.ensures;
      run = ap (λ (r : RunOutput). record r { map = map_given c.head_of-head.result c.in_ok-records.records }) c.in_ok-given.ensures;
    }
