use Rattle.std.proofs.Common.{◌≡◌, drop, map, string_bytes}
use Rattle.host.specs.Answers.{shown_in}
use Rattle.host.proofs.shown.shown_in.Given as goal

-- no argument so far asks for something to be shown, nor is `--`
abbrev pub invariant-loop-word : goal.invariant-loop-word
invariant-loop-word l = shown_in (map string_bytes l.words) ≡ shown_in (map string_bytes (drop l.word-index l.words))
