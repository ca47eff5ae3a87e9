use Rattle.std.proofs.Common.{◌≡◌, ◌∙◌, true, Ok, Err, Some, subst, ap, rules}
use Rattle.std.specs.{Prelude.IsSome, Io.KnownBytes.prepend_known}
use Rattle.aout_core.specs.Refusals.{refused}
use Rattle.command_words.specs.ScriptAnswers.{asked_by, WhereKnown, IsNextOf, NamesPath}
use Rattle.command_words.specs.{Scripts.asked, declared.line_reader.Stop.TheVariants.Memory, internal.LineParts.IsTakenOf}
use Rattle.command_words.proofs.ScriptLemmas.{known_map, failed_as, line_answered, lost_known, stop_known}
use Rattle.command_words.proofs.line_reader.LineReader.next_line.Goals as goal

pub returns-clause-next : goal.returns-clause-next
returns-clause-next g c =
    let same : c.take_line.new.reader.wire ≡ c.if-is_last.self.wire = search rules in
    let held : c.take_line.new.reader.held ≡ c.if-is_last.self.held = search rules in
    let settled : IsSome c.if-is_last.self.settled → c.in-Ok.is_last ≡ true = search rules in
    let last : c.in-Ok.is_last ≡ true → IsSome c.if-is_last.self.settled = search rules in
    let text : c.deref.result.now ≡ c.take_line.new.line.items = search rules in
    let meant : asked_by c.in-Ok-from_bytes.line ≡ asked c.take_line.new.line.items = c.in-Ok-from_bytes.ensures.value ∙ ap asked text in
    record {
      stays = search rules;
      next = λ _. subst (λ (P : Type 0). P)
          (λ i. WhereKnown (prepend_known (c.self.view_is i).held (g.R.Read.remaining (c.self.view_is i).wire.device))
          (prepend_known (held i) (g.R.Read.remaining (same i).device))
          (λ bytes left. IsNextOf (c.self.view_is i).line_count bytes left c.if-is_last.self.settled (Ok c.in-Ok-from_bytes.line)))
          (known_map (prepend_known c.self.inside.reader.held (g.R.Read.remaining c.self.inside.reader.wire.device))
          (prepend_known c.take_line.new.reader.held (g.R.Read.remaining c.take_line.new.reader.wire.device))
          (λ bytes left. IsTakenOf c.self.inside.line_count bytes left c.take_line.new.line.items (Ok c.in-Ok.is_last))
          (λ bytes left. IsNextOf c.self.inside.line_count bytes left c.if-is_last.self.settled (Ok c.in-Ok-from_bytes.line))
          (λ bytes left h. line_answered c.self.inside.line_count c.if-is_last.self.settled c.take_line.new.line.items
          c.in-Ok.is_last c.in-Ok-from_bytes.line bytes left meant (settled, last) h)
          c.in-Ok.ensures.value);
      settles = search rules;
      failed = search rules;
      latched = search rules;
      count = search rules;
      bound = search rules;
      untouched = search rules;
    }

pub returns-in-Err-from_bytes-clause-next : goal.returns-in-Err-from_bytes-clause-next
returns-in-Err-from_bytes-clause-next g c =
    let taken = subst (λ (P : Type 0). P)
    (λ i. WhereKnown (prepend_known (c.self.view_is i).held (g.R.Read.remaining (c.self.view_is i).wire.device))
    (prepend_known c.take_line.new.reader.held (g.R.Read.remaining c.take_line.new.reader.wire.device))
    (λ bytes left. IsTakenOf (c.self.view_is i).line_count bytes left c.take_line.new.line.items (Ok c.in-Ok.is_last)))
    c.in-Ok.ensures.value in
    let text : c.deref.result.now ≡ c.take_line.new.line.items = search rules in
    let named : NamesPath (asked c.take_line.new.line.items) =
    subst (λ line. NamesPath (asked line)) text c.in-Err-from_bytes.ensures.memory in
    record {
      stays = search rules;
      next =
          λ _. lost_known c.args.self.now.line_count
          (prepend_known c.args.self.now.held (g.R.Read.remaining c.args.self.now.wire.device))
          (prepend_known c.take_line.new.reader.held (g.R.Read.remaining c.take_line.new.reader.wire.device))
          (Some (Memory refused)) c.take_line.new.line.items c.in-Ok.is_last named taken;
      settles = search rules;
      failed = search rules;
      latched = search rules;
      count = search rules;
      bound = search rules;
      untouched = search rules;
    }

pub returns-in-Err-clause-next : goal.returns-in-Err-clause-next
returns-in-Err-clause-next g c =
    let stopped = subst (λ (P : Type 0). P)
    (λ i. WhereKnown (prepend_known (c.self.view_is i).held (g.R.Read.remaining (c.self.view_is i).wire.device))
    (prepend_known c.take_line.new.reader.held (g.R.Read.remaining c.take_line.new.reader.wire.device))
    (λ bytes left. IsTakenOf (c.self.view_is i).line_count bytes left c.take_line.new.line.items (Err c.in-Err.stop)))
    c.in-Err.ensures.value in
    record {
      stays = search rules;
      next =
          λ _. stop_known c.args.self.now.line_count
          (prepend_known c.args.self.now.held (g.R.Read.remaining c.args.self.now.wire.device))
          (prepend_known c.take_line.new.reader.held (g.R.Read.remaining c.take_line.new.reader.wire.device))
          (Some c.in-Err.stop) c.in-Err.stop stopped;
      settles = search rules;
      failed = failed_as c.in-Err.stop c.in-Err.ensures.failed;
      latched = search rules;
      count = search rules;
      bound = search rules;
      untouched = search rules;
    }
