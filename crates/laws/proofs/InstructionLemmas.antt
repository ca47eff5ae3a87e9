-- Linking preserves instructions.
use Rattle.std.proofs.Common.{rules, ◌≡◌, ℕ, zero, suc, ◌+◌, ◌*◌, ◌/◌, ◌%◌, ◌<◌, ◌≤◌, Bool, true, false, eqb, if◌then◌else◌, List, [], ◌∷◌}
use Rattle.std.proofs.{lemmas.List.Sums.sum_by-append, lemmas.Bool.eqb-true}
use Rattle.std.proofs.{Common.{◌++◌, length, drop, Some, refl, sym, ◌∙◌, ap, subst, arith}, lemmas.Option.slice_get_within}
use Rattle.std.specs.{Prelude.slice_get, Prelude.not, List.AllByRecursion}
use Rattle.aout_core.specs.{declared.symbol.Symbol.Symbol, declared.symbol.Segment.TheVariants.TextSeg, declared.reloc.Reloc.Reloc}
use Rattle.aout_core.specs.{Contents.Contents, Contents.IsWord}
use Rattle.link_session.specs.{Starts.size_of, Starts.total, Sessions.IsObject}
use Rattle.tool_options.specs.Choices.{Choices}
use Rattle.link_out.specs.Results.{Outcome}
use Rattle.laws.specs.{relation.Relocated.IsRelocated, relation.LinkedFrom.IsLinkedFrom, Instructions.IsLinkedWord}
use Rattle.instructions.specs.{Relocated.is_relocated}
use Rattle.instructions.proofs.AlikeLemmas.{Pairs, Same, get_from}

-- an object has a relocation word for each word of its text
pub relocs_by : (b : Bool) (words relocs size : ℕ) → b ≡ true → 2 * words ≡ size → 2 * relocs ≡ (if b then size else 0) → relocs ≡ words
relocs_by true words relocs size e long same = omega arith
relocs_by false words relocs size e long same = absurd cc

-- an object has a relocation word for each word of text
pub relocs_long : (k : Contents) → IsObject k → length k.text_reloc ≡ length k.text_words
relocs_long k is = search rules

-- so there is one at each place of the text
pub reloc_inside : (rs : List Reloc) (i : ℕ) → i < length rs → (r : Reloc) × (slice_get rs i ≡ Some r)
reloc_inside [] i h = absurd (omega arith)
reloc_inside (r ∷ rs) zero h = (r, refl)
reloc_inside (r ∷ rs) (suc i) h = reloc_inside rs i (omega arith)

pub word_small : (ws : List ℕ) (i w : ℕ) → AllByRecursion IsWord ws → slice_get ws i ≡ Some w → w < 65536
word_small [] i w all e = absurd cc
word_small (x ∷ ws) zero w all e = let same : x ≡ w = cc in subst (λ (n : ℕ). n < 65536) same all.0
word_small (x ∷ ws) (suc i) w all e = word_small ws i w all.1 e

-- a word that is not relocated stays as it is
low_bits : (b : Bool) (n : ℕ) → eqb (n % 16) 0 ≡ b → not b ≡ false → n % 16 ≡ 0
low_bits true n e h = eqb-true (n % 16) 0 e
low_bits false n e h = absurd cc

unmoved : (file : Contents) (rows : List Symbol) (os before : List Contents) (k : Contents) (i w v : ℕ) (r : Reloc) →
    w < 65536 → r.0 % 16 ≡ 0 →
    IsRelocated file rows os before k TextSeg i w r → slice_get file.text_words (total TextSeg before / 2 + i) ≡ Some v → v ≡ w
unmoved file rows os before k i w v r small low is there = search rules

-- a word that is not relocated has a relocation word whose low four bits are 0
pub moves_low : (rs : List Reloc) (i : ℕ) (r : Reloc) → slice_get rs i ≡ Some r → is_relocated (slice_get rs i) ≡ false → r.0 % 16 ≡ 0
moves_low rs i r at e = low_bits (eqb (r.0 % 16) 0) r.0 refl (sym (ap is_relocated at) ∙ e)

module _ (forced : List (List ℕ)) (os : List Contents) (o : Choices) (x : Outcome) (all : AllByRecursion IsObject os)
    (l : IsLinkedFrom forced os o x) where
  -- each word of the text of k, and what is in its place
  pub linked_pairs : (before : List Contents) (k : Contents) (after : List Contents) → os ≡ before ++ k ∷ after → IsObject k →
      Pairs (IsLinkedWord x.file l.rows os before k) 0 k.text_words (drop (total TextSeg before / 2) x.file.text_words)
  linked_pairs before k after e is i q w v at word there =
      let same : q ≡ i = omega arith in
      let r = reloc_inside k.text_reloc i (omega (arith, relocs_long k is, slice_get_within k.text_words i w word)) in
      search (rules, get_from)

  -- the text of an object is in the file with the same words, but for those that are relocated
  pub linked_same : (before : List Contents) (k : Contents) (after : List Contents) → os ≡ before ++ k ∷ after →
      IsObject k → AllByRecursion IsWord k.text_words →
      Pairs (Same (λ place. is_relocated (slice_get k.text_reloc place))) 0 k.text_words (drop (total TextSeg before / 2) x.file.text_words)
  linked_same before k after e is small i q w v at word there still =
      let p = linked_pairs before k after e is i q w v at word there in
      unmoved x.file l.rows os before k q w v p.reloc (word_small k.text_words i w small word)
      (moves_low k.text_reloc q p.reloc p.at still) p.is p.there

  -- where the text of k begins and ends in that of the file
  pub text_within : (before : List Contents) (k : Contents) (after : List Contents) → os ≡ before ++ k ∷ after →
      IsObject k → total TextSeg before / 2 + length k.text_words ≤ length x.file.text_words
  text_within before k after e is =
      let sum : total TextSeg os ≡ total TextSeg before + (0 + k.header.text_size + total TextSeg after) =
      ap (λ (ys : List Contents). total TextSeg ys) e ∙ sum_by-append (size_of TextSeg) before (k ∷ after)
      ∙ ap (λ (m : ℕ). total TextSeg before + m) (sum_by-append (size_of TextSeg) (k ∷ []) after) in
      omega (arith, l.holds.text_words, is.fits.text)
