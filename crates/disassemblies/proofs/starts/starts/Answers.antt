use Rattle.std.proofs.{Common.{◌≡◌, [], ◌+◌, ◌<◌, ◌≤◌, length, sym, ◌∙◌, ap, arith, rules}, lemmas.List.append-nil}
use Rattle.instructions.specs.UnixLines.{unix_length}
use Rattle.disassemblies.specs.{Listed.listed_line, Starts.start, Starts.length_at, Starts.starts}
use Rattle.disassemblies.proofs.{StartLemmas.line_more, StartLemmas.end_more, ListedLemmas.listed_short}
use Rattle.disassemblies.proofs.starts.starts.Goals as goal

pub loop-place-preserved : goal.loop-place-preserved
loop-place-preserved c =
    let file = c.args.lines.now in
    let d = c.args.decoder in
    let count : c.length-count.result ≡ unix_length (listed_line d file c.loop-place.place) =
    c.length-count.ensures ∙ ap unix_length c.at.ensures.line in
    let inside : c.loop-place.place < length file.text_words = search rules in
    let fits : c.loop-place.place + c.length-count.result ≤ length file.text_words = search rules in (
      line_more (length_at d file) (length file.text_words) (λ p. (listed_short d file p).0) (λ place n. start n) []
          (starts d file) c.loop-place.starts.items c.put_start.new.starts.items c.loop-place.place c.length-count.result
          inside count c.in_ok-put_start.ensures c.loop-place.invariant.0,
      fits,
      c.loop-place.invariant.2,
    )

pub returns : goal.returns
returns c =
    let file = c.args.lines.now in
    let end : c.loop-place.place ≡ length file.text_words = omega (arith, c.loop-place.invariant.1, c.loop-place.invariant.2) in
    end_more (length_at c.args.decoder file) (length file.text_words) (λ place n. start n) [] (starts c.args.decoder file) c.loop-place.starts.items
    c.loop-place.starts.items c.loop-place.place end (sym (append-nil c.loop-place.starts.items)) c.loop-place.invariant.0
