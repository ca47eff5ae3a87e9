use Rattle.std.proofs.Common.{◌≡◌, ℕ, ◌<◌, ◌||◌, false, drop, length}
use Rattle.std.specs.Prelude.{get_or}
use Rattle.disassemblies.specs.Listed.{has_label}
use Rattle.disassemblies.proofs.listed.labelled.Given as goal

-- what is marked, and what the symbols name that are left, is what all symbols name
abbrev pub invariant-loop-symbol : goal.invariant-loop-symbol
invariant-loop-symbol l =
    (length l.labelled.items ≡ length l.file.text_words)
    × ((i : ℕ) → i < length l.file.text_words →
    (get_or l.labelled.items i false || has_label (drop l.symbol-index l.symbols) i) ≡ has_label l.file.symbols i)
