use Rattle.std.proofs.Common.{◌≡◌, ◌≤◌}
use Rattle.aout_core.specs.Wires.{IsPassedOn}
use Rattle.v7tools.proofs.SessionRunLemmas.{Running}
use Rattle.v7tools.proofs.session.command.answer_lines.Given as goal

-- the lines so far were run, and the script counts them
abbrev pub invariant-loop : goal.invariant-loop
invariant-loop g l = record {
  count : l.script.line_count ≡ l.counter;
  bound : l.script.line_count ≤ 1000000;
  passed : IsPassedOn g.W.BufferedWrite.waiting l.initial.answers → IsPassedOn g.W.BufferedWrite.waiting l.answers;
  running : Running g.R.Read.remaining g.W.Write.contents l.setting.options.now l.initial.session l.session l.initial.script
      l.script (g.O.FileSystem.history l.initial.file_system) (g.O.FileSystem.history l.file_system) l.initial.answers l.answers l.status;
}
