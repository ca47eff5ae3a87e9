use Rattle.std.proofs.Common.{◌≡◌, ℕ, true, [], ◌∷◌, rules}
use Rattle.std.specs.{Prelude.{◌&&◌, not, nat_le}, List.list_all}
use Rattle.listings.specs.{Columns.row_of, Reading.{begins_with_digit, is_label}}
use Rattle.listings.proofs.SaidLemmas.{label_skipped, line_bytes}
use Rattle.listings.proofs.said.put_label.Goals as goal

pub returns-then-is_skipped : goal.returns-then-is_skipped
returns-then-is_skipped c = λ uncut.
    let l = c.args.label.now in
    let plain : list_all (λ (b : ℕ). nat_le 32 b) l ≡ true = search rules in
    let label : (not (begins_with_digit (row_of l).first) && is_label (row_of l)) ≡ true = search rules in
    let e2 = c.put_byte.ensures uncut in
    let e1 = c.put_bytes.ensures e2.0 in
    (e1.0, (l ∷ [], (label_skipped l plain label, tt), line_bytes _ _ _ l e1.1 e2.1))
