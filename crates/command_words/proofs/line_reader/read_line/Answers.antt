use Rattle.std.proofs.{Common.{◌≡◌, ◌++◌, ◌∷◌, ◌∙◌, [], ap, sym, append_assoc, refl, rules}, KnownBytes.Consumes-trans}
use Rattle.command_words.proofs.ScriptLemmas.{goes_on, has_none_push, not_asked}
use Rattle.command_words.proofs.line_reader.read_line.Goals as goal

pub loop-preserved : goal.loop-preserved
loop-preserved g c =
    let (unlatched, count, space, none, taken, held) = c.loop.invariant in
    let pushed : c.push.new.self.items ≡ c.loop.line.items ++ c.in-Ok-Some.byte ∷ [] = search rules in
    let one = rw c.in-Ok-Some.field-0-is at c.in-Ok-Some.ensures.byte in
    let next = rw c.in-Ok-Some.field-0-is at c.in-Ok-Some.ensures.held in (
      search rules,
      search rules,
      search rules,
      rw pushed (has_none_push c.loop.line.items c.in-Ok-Some.byte none c.in-Ok-Some.byte-test.1),
      rw pushed (Consumes-trans _ _ _ _ _ taken one),
      λ whole.
          let (split, same) = held whole in
          let more = goes_on c.args.reader.now.held c.loop.line.items c.loop.reader.held none split whole in (
            split ∙ ap (λ l. c.loop.line.items ++ l) (next more)
                ∙ sym (append_assoc c.loop.line.items (c.in-Ok-Some.byte ∷ []) c.next_byte.new.self.held)
                ∙ ap (λ l. l ++ c.next_byte.new.self.held) (sym pushed),
            c.in-Ok-Some.ensures.untouched more ∙ same,
          ),
    )

pub returns-in-Ok-Some-eq10-clause-ends : goal.returns-in-Ok-Some-eq10-clause-ends
returns-in-Ok-Some-eq10-clause-ends g c = search (rules, Consumes-trans)

pub returns-in-Ok-Some-eq10-clause-untouched : goal.returns-in-Ok-Some-eq10-clause-untouched
returns-in-Ok-Some-eq10-clause-untouched g c =
    let (unlatched, count, space, none, taken, held) = c.loop.invariant in
    not_asked c.args.reader.now.held c.loop.line.items c.loop.reader.held none held c.in-Ok-Some-eq10.ensures.untouched

pub returns-in-Ok-None-clause-ends : goal.returns-in-Ok-None-clause-ends
returns-in-Ok-None-clause-ends g c = search rules

pub returns-in-Ok-None-clause-untouched : goal.returns-in-Ok-None-clause-untouched
returns-in-Ok-None-clause-untouched g c =
    let (unlatched, count, space, none, taken, held) = c.loop.invariant in
    not_asked c.args.reader.now.held c.loop.line.items c.loop.reader.held none held c.in-Ok-None.ensures.untouched

pub returns-in-Err-clause-failed : goal.returns-in-Err-clause-failed
returns-in-Err-clause-failed g c = (λ _. c.in-Err.ensures.fault.0 refl, λ _. refl)

pub returns-in-Err-clause-ends : goal.returns-in-Err-clause-ends
returns-in-Err-clause-ends g c = search rules

pub returns-in-Err-clause-untouched : goal.returns-in-Err-clause-untouched
returns-in-Err-clause-untouched g c =
    let (unlatched, count, space, none, taken, held) = c.loop.invariant in
    not_asked c.args.reader.now.held c.loop.line.items c.loop.reader.held none held c.in-Err.ensures.untouched

pub returns-in-Ok-Some-next_byte-clause-ends : goal.returns-in-Ok-Some-next_byte-clause-ends
returns-in-Ok-Some-next_byte-clause-ends g c = search (rules, has_none_push, Consumes-trans)

pub returns-in-Ok-Some-next_byte-clause-untouched : goal.returns-in-Ok-Some-next_byte-clause-untouched
returns-in-Ok-Some-next_byte-clause-untouched g c =
    let (unlatched, count, space, none, taken, held) = c.loop.invariant in
    not_asked c.args.reader.now.held c.loop.line.items c.loop.reader.held none held c.in-Ok-Some-next_byte.ensures.untouched

pub returns-in-Ok-None-next_byte-clause-ends : goal.returns-in-Ok-None-next_byte-clause-ends
returns-in-Ok-None-next_byte-clause-ends g c = search rules

pub returns-in-Ok-None-next_byte-clause-untouched : goal.returns-in-Ok-None-next_byte-clause-untouched
returns-in-Ok-None-next_byte-clause-untouched g c =
    let (unlatched, count, space, none, taken, held) = c.loop.invariant in
    not_asked c.args.reader.now.held c.loop.line.items c.loop.reader.held none held c.in-Ok-None-next_byte.ensures.untouched

pub returns-in-Err-next_byte-clause-failed : goal.returns-in-Err-next_byte-clause-failed
returns-in-Err-next_byte-clause-failed g c = (λ _. c.in-Err-next_byte.ensures.fault.0 refl, λ _. refl)

pub returns-in-Err-next_byte-clause-ends : goal.returns-in-Err-next_byte-clause-ends
returns-in-Err-next_byte-clause-ends g c = search rules

pub returns-in-Err-next_byte-clause-untouched : goal.returns-in-Err-next_byte-clause-untouched
returns-in-Err-next_byte-clause-untouched g c =
    let (unlatched, count, space, none, taken, held) = c.loop.invariant in
    not_asked c.args.reader.now.held c.loop.line.items c.loop.reader.held none held c.in-Err-next_byte.ensures.untouched
