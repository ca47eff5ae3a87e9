use Rattle.std.proofs.Common.{◌≡◌, ◌++◌, drop, false}
use Rattle.texts.specs.Names.{printable_bytes}
use Rattle.texts.proofs.text.Text.put_printable_bytes.Given as goal

abbrev pub invariant-loop-byte : goal.invariant-loop-byte
invariant-loop-byte l =
    l.self.is_cut ≡ false → (l.initial.self.is_cut ≡ false)
    × (l.self.bytes ++ printable_bytes (drop l.byte-index l.bytes) ≡ l.initial.self.bytes ++ printable_bytes l.bytes)
