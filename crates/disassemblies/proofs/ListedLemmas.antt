-- The line that a listing shows is the one that the words begin, or their first word alone.
use Rattle.std.proofs.Common.{◌≡◌, ℕ, zero, suc, ◌+◌, ◌-◌, ◌<◌, ◌≤◌, Bool, true, false, if◌then◌else◌, List, length, refl, ◌∙◌, ap, arith}
use Rattle.std.specs.Prelude.{get_or, slice_index}
use Rattle.aout_core.specs.{declared.symbol.Symbol.Symbol, Contents.Contents}
use Rattle.instructions.specs.{declared.unix.Decoder.Decoder, declared.unix.UnixLine.UnixLine, declared.line.Line.TheVariants.Plain}
use Rattle.instructions.specs.{declared.unix.UnixLine.TheVariants.Machine, UnixLines.unix_length}
use Rattle.disassemblies.specs.{Lines.unix_line_in, Listed.{has_label, have_label, listed_line}}
use Rattle.disassemblies.specs.internal.Labelled.{AreLabelled, any_marked}
use Rattle.disassemblies.proofs.LineLemmas.{length_in, line_fits}

-- the words of the text are marked as the symbols name them
pub any_labels : (symbols : List Symbol) (count : ℕ) (labelled : List Bool) → AreLabelled symbols count labelled → (place n : ℕ) →
    place + n ≤ count → any_marked labelled place n ≡ have_label symbols place n
any_labels symbols count labelled are place zero h = refl
any_labels symbols count labelled are place (suc n) h =
    let here : get_or labelled place false ≡ has_label symbols place = are.each place (omega arith) in
    let later = any_labels symbols count labelled are (place + 1) n (omega arith) in
    cc

cut_short : (w : ℕ) (line : UnixLine) (t : Bool) → (1 ≤ unix_length line) × (unix_length line ≤ 5) →
    (1 ≤ unix_length (if t then Machine (Plain w) else line)) × (unix_length (if t then Machine (Plain w) else line) ≤ 5)
cut_short w line true h = (omega arith, omega arith)
cut_short w line false h = h

-- a line that is shown has one to five words
pub listed_short : (d : Decoder) (c : Contents) (place : ℕ) →
    (1 ≤ unix_length (listed_line d c place)) × (unix_length (listed_line d c place) ≤ 5)
listed_short d c place =
    cut_short (slice_index c.text_words place) (unix_line_in d c place)
    (have_label c.symbols (place + 1) (unix_length (unix_line_in d c place) - 1)) (length_in d c place)

cut_fits : (w end place : ℕ) (line : UnixLine) (t : Bool) → place < end → place + unix_length line ≤ end →
    place + unix_length (if t then Machine (Plain w) else line) ≤ end
cut_fits w end place line true h fits = omega arith
cut_fits w end place line false h fits = fits

-- it does not go beyond the text
pub listed_fits : (d : Decoder) (c : Contents) (place : ℕ) → place < length c.text_words →
    place + unix_length (listed_line d c place) ≤ length c.text_words
listed_fits d c place h =
    cut_fits (slice_index c.text_words place) (length c.text_words) place (unix_line_in d c place)
    (have_label c.symbols (place + 1) (unix_length (unix_line_in d c place) - 1)) h (line_fits d c place h)

-- a word that is not marked is left out
pub unmarked : (marks : List Bool) (place n rest : ℕ) → get_or marks place false ≡ false → n ≡ suc rest →
    any_marked marks place n ≡ any_marked marks (place + 1) rest
unmarked marks place n rest none e = cc

-- the line by the marks of the words that follow its first one
pub listed_by : (d : Decoder) (c : Contents) (labelled : List Bool) (place : ℕ) (t : Bool) →
    AreLabelled c.symbols (length c.text_words) labelled → place < length c.text_words →
    t ≡ any_marked labelled (place + 1) (unix_length (unix_line_in d c place) - 1) →
    (if t then Machine (Plain (slice_index c.text_words place)) else unix_line_in d c place) ≡ listed_line d c place
listed_by d c labelled place t are h marked =
    let n : ℕ = unix_length (unix_line_in d c place) in
    let some : 1 ≤ n = (length_in d c place).0 in
    let fits : place + n ≤ length c.text_words = line_fits d c place h in
    let same : t ≡ have_label c.symbols (place + 1) (n - 1) =
    marked ∙ any_labels c.symbols (length c.text_words) labelled are (place + 1) (n - 1) (omega arith) in
    ap (λ (b : Bool). if b then Machine (Plain (slice_index c.text_words place)) else unix_line_in d c place) same
