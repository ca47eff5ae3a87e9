use Rattle.std.proofs.Common.{◌≡◌, false, take}
use Rattle.std.specs.{List.flat_map, Io.KnownBytes.Appends}
use Rattle.link_session.specs.Undo.{image_of}
use Rattle.v7tools.specs.internal.StepParts.{missing_line}
use Rattle.v7tools.proofs.session.externals.put_undefined.Given as goal

-- the lines so far went out
abbrev pub invariant-loop-index : goal.invariant-loop-index
invariant-loop-index g l = record {
  unlatched : l.answers.has_failed ≡ false;
  gone : Appends (g.W.Write.contents l.initial.answers.device) (g.W.Write.contents l.answers.device)
      (flat_map missing_line (take l.index (image_of l.session).externals));
}
