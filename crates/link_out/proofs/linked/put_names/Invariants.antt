use Rattle.std.proofs.Common.{◌≡◌, ◌++◌, false, take}
use Rattle.std.specs.{List.flat_map, Io.KnownBytes.Appends}
use Rattle.link_out.proofs.linked.put_names.Given as goal

abbrev pub invariant-loop-name : goal.invariant-loop-name
invariant-loop-name g l = record {
  unlatched : l.out.has_failed ≡ false;
  gone : Appends (g.W.Write.contents l.initial.out.device) (g.W.Write.contents l.out.device)
      (flat_map (λ n. n ++ l.text) (take l.name-index l.names));
}
