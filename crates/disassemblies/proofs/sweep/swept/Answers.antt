use Rattle.std.proofs.{Common.{◌≡◌, [], ◌+◌, ◌<◌, ◌≤◌, ◌++◌, length, sym, ◌∙◌, ap, arith, rules}, lemmas.List.append-nil}
use Rattle.instructions.specs.{declared.unix.Decoder.TheVariants.Unix, declared.unix.UnixLine.UnixLine, UnixLines.unix_length}
use Rattle.disassemblies.specs.{Listed.listed_line, internal.Swept.line_words, Starts.length_at, internal.Swept.swept}
use Rattle.disassemblies.proofs.{StartLemmas.line_more, StartLemmas.end_more, ListedLemmas.listed_short}
use Rattle.disassemblies.proofs.sweep.swept.Goals as goal

pub loop-place-preserved : goal.loop-place-preserved
loop-place-preserved c =
    let file = c.args.listed.now in
    let count : c.length-count.result ≡ unix_length (listed_line Unix file c.loop-place.place) =
    c.length-count.ensures ∙ ap unix_length c.at-line.ensures.line in
    let inside : c.loop-place.place < length file.text_words = search rules in
    let fits : c.loop-place.place + c.length-count.result ≤ length file.text_words = search rules in (
      line_more (length_at Unix file) (length file.text_words) (λ p. (listed_short Unix file p).0) (λ place n. line_words (listed_line Unix file place) n)
          [] (swept Unix file) c.loop-place.lines.items c.put_line.new.lines.items
          c.loop-place.place c.length-count.result
          inside count
          (c.in_ok-put_line.ensures ∙ ap (λ (l : UnixLine). c.loop-place.lines.items ++ line_words l c.length-count.result)
          c.at-line.ensures.line)
          c.loop-place.invariant.0,
      fits,
      c.loop-place.invariant.2,
    )

pub returns : goal.returns
returns c =
    let file = c.args.listed.now in
    let end : c.loop-place.place ≡ length file.text_words = omega (arith, c.loop-place.invariant.1, c.loop-place.invariant.2) in
    end_more (length_at Unix file) (length file.text_words) (λ place n. line_words (listed_line Unix file place) n) [] (swept Unix file)
    c.loop-place.lines.items c.loop-place.lines.items c.loop-place.place end (sym (append-nil c.loop-place.lines.items)) c.loop-place.invariant.0
