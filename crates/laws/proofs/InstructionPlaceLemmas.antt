-- An instruction stands in a linked file wherever it begins in an object.
use Rattle.std.proofs.Common.{rules, ◌≡◌, ℕ, ◌+◌, ◌/◌, ◌≤◌, Bool, false, List, [], ◌∷◌, ◌++◌, length, drop, drop-drop, refl, sym, ◌∙◌, ap}
use Rattle.std.proofs.{Common.{subst, arith}, lemmas.List.length-drop}
use Rattle.std.specs.Prelude.{slice_get}
use Rattle.aout_core.specs.{declared.symbol.Segment.TheVariants.TextSeg, Contents.Contents}
use Rattle.link_session.specs.{Starts.total, Sessions.IsObject}
use Rattle.link_session.proofs.ListLemmas.{all_split}
use Rattle.instructions.specs.{Instructions.instruction_of, Lines.line_of, Relocated.is_relocated, Alike.AlikeLine, Alike.is_cut}
use Rattle.instructions.proofs.AlikeLemmas.{Pairs, Same, pairs_from, line_alike}
use Rattle.laws.specs.Instructions.{IsLinkedWord, InstructionsAreThere}
use Rattle.laws.proofs.InstructionLemmas.{linked_pairs, linked_same, text_within}

-- what stands at a place of another text
record IsLineIn (P : ℕ → ℕ → ℕ → Type 0) (i w : ℕ) (f gs : List ℕ) : Type 0 where
  pub more : List ℕ
  pub there : gs ≡ w ∷ more
  pub alike : AlikeLine P i (line_of (instruction_of w) w f) (line_of (instruction_of w) w more)

line_in_by : (P : ℕ → ℕ → ℕ → Type 0) (moves : ℕ → Bool) (i w : ℕ) (f gs : List ℕ) → length (w ∷ f) ≤ length gs →
    Pairs P i (w ∷ f) gs → Pairs (Same moves) i (w ∷ f) gs → moves i ≡ false → is_cut (instruction_of w) f ≡ false → IsLineIn P i w f gs
line_in_by P moves i w f [] more pairs same still whole = absurd (omega arith)
line_in_by P moves i w f (v ∷ g) more pairs same still whole =
    let e : v ≡ w = same 0 i w v (omega arith) refl refl still in
    search (rules, line_alike, Pairs)

-- for `instruction_law`: wherever that is, even within a line of a sweep
pub instructions_there : InstructionsAreThere
instructions_there forced before k after o x all small l i w f here still whole =
    let os : List Contents = before ++ k ∷ after in
    let is : IsObject k = (all_split IsObject before (k ∷ after) all).1.0 in
    let n : ℕ = total TextSeg before / 2 in
    let vs : List ℕ = drop n x.file.text_words in
    let P : ℕ → ℕ → ℕ → Type 0 = IsLinkedWord x.file l.rows os before k in
    let moves : ℕ → Bool = λ place. is_relocated (slice_get k.text_reloc place) in
    let none : 0 + i ≡ i = omega arith in
    let pairs : Pairs (IsLinkedWord x.file l.rows os before k) i (w ∷ f) (drop i vs) =
    subst (λ m. Pairs (IsLinkedWord x.file l.rows os before k) m (w ∷ f) (drop i vs)) none
    (subst (λ ws. Pairs (IsLinkedWord x.file l.rows os before k) (0 + i) ws (drop i vs)) here
    (pairs_from P 0 i k.text_words vs (linked_pairs forced os o x all l before k after refl is))) in
    let same : Pairs (Same moves) i (w ∷ f) (drop i vs) =
    subst (λ m. Pairs (Same moves) m (w ∷ f) (drop i vs)) none (subst (λ ws. Pairs (Same moves) (0 + i) ws (drop i vs)) here
    (pairs_from (Same moves) 0 i k.text_words vs (linked_same forced os o x all l before k after refl is small))) in
    let here_long : length (drop i k.text_words) ≡ length (w ∷ f) = ap (λ (ws : List ℕ). length ws) here in
    let space = text_within forced os o x all l before k after refl is in
    let long : length (w ∷ f) ≤ length (drop i vs) =
    omega (arith, here_long, space, length-drop i k.text_words, length-drop i vs, length-drop n x.file.text_words) in
    let s = line_in_by P moves i w f (drop i vs) long pairs same still whole in
    record { more = s.more; there = sym (drop-drop i n x.file.text_words) ∙ s.there; alike = s.alike }
