-- What was read in blocks, and what was taken of it.
use Rattle.std.proofs.Common.{◌≡◌, ℕ, zero, suc, ◌+◌, ◌-◌, ◌*◌, ◌∷◌, ◌<◌, ◌≤◌, min, List, [], ◌++◌, length, take, drop, Option, Some, None}
use Rattle.std.proofs.Common.{sym, ◌∙◌, ap, subst, arith, append_assoc, append-nil, length-append, length-drop, take_at, drop_at, take_all}
use Rattle.std.proofs.Common.{take-append-drop, suc-add, zero-add, mul-suc}
use Rattle.std.proofs.{lemmas.List.drop_all, lemmas.List.take-append-le, lemmas.List.drop-append-le, KnownBytes.Consumes-trans}
use Rattle.std.specs.{Io.KnownBytes.Consumes, Io.KnownBytes.prepend_known, Prelude.Err}
use Rattle.aout_core.specs.declared.file.ReadFault.TheVariants.{ShortHeader, BadMagic, OddSize, Memory, Truncated, Device}
use Rattle.aout_core.specs.{internal.ReadParts.{EndsEarly, IsBodyRead}, internal.Blocks.{Awaited, awaited, EndsBefore, Refills, Takes}}
use Rattle.aout_core.specs.{internal.Rows.{row_in, TakesItem, TakesRow}, declared.file.ReadFault.ReadFault, declared.header.Header.Header}
use Rattle.aout_core.specs.Encoding.{file_length}

-- bytes taken from those that waited
pub taken_waiting : (a : Option (List ℕ)) (waiting out rest : List ℕ) → waiting ≡ out ++ rest →
    Consumes (prepend_known waiting a) (prepend_known rest a) out
taken_waiting None waiting out rest e = tt
taken_waiting (Some x) waiting out rest e = ap (λ l. l ++ x) e ∙ append_assoc out rest x

-- all that waited was taken, and more of a block that was read
pub taken_with_block : (a b : Option (List ℕ)) (waiting block out rest : List ℕ) → Consumes a b block → block ≡ out ++ rest →
    Consumes (prepend_known waiting a) (prepend_known rest b) (waiting ++ out)
taken_with_block None b waiting block out rest read e = tt
taken_with_block (Some x) None waiting block out rest read e = absurd read
taken_with_block (Some x) (Some y) waiting block out rest read e =
    ap (λ l. waiting ++ l) (read ∙ ap (λ l. l ++ y) e ∙ append_assoc out rest y) ∙ sym (append_assoc waiting out (rest ++ y))

-- the end came before all that was announced
pub ends_after : (a b : Option (List ℕ)) (w : Awaited) → EndsEarly a b 0 w.missing → EndsEarly (prepend_known w.waiting a) b 0 (awaited w)
ends_after a b w e =
    record {
      bytes = w.waiting ++ e.bytes;
      short = let s = e.short in omega (arith, length-append w.waiting e.bytes);
      taken = by a b e.taken;
      end = e.end;
    }
  where
    by : (x y : Option (List ℕ)) → Consumes x y e.bytes → Consumes (prepend_known w.waiting x) y (w.waiting ++ e.bytes)
    by None y t = tt
    by (Some x) None t = absurd t
    by (Some x) (Some y) t = ap (λ l. w.waiting ++ l) t ∙ sym (append_assoc w.waiting e.bytes y)

-- all was taken from what waited
pub taken_at_once : (a : Option (List ℕ)) (w : Awaited) (old_out out rest : List ℕ) (n : ℕ) → n ≡ min (length w.waiting)
    (length old_out) → length old_out ≤ n → out ≡ take n w.waiting ++ drop n old_out → rest ≡ drop n w.waiting →
    Takes w a (record { waiting = rest; missing = w.missing }) a out
taken_at_once a w old_out out rest n count all taken left =
    let none : drop n old_out ≡ [] = drop_all n old_out all in
    let same : out ≡ take n w.waiting = taken ∙ ap (λ l. take n w.waiting ++ l) none ∙ append-nil (take n w.waiting) in
    let whole : w.waiting ≡ out ++ rest =
    sym (take-append-drop n w.waiting) ∙ ap (λ l. l ++ drop n w.waiting) (sym same) ∙ ap (λ l. out ++ l) (sym left) in
    let long : length w.waiting ≡ length out + length rest = ap length whole ∙ length-append out rest in
    record { taken = taken_waiting a w.waiting out rest whole; left = omega arith }

-- all that waited was taken, and the rest from a block that was read
pub taken_in_two : (a b : Option (List ℕ)) (w read : Awaited) (old_out out second all rest : List ℕ) (n m : ℕ) →
    n ≡ min (length w.waiting) (length old_out) → n < length old_out → out ≡ take n w.waiting ++ drop n old_out →
    Refills 512 w.missing a b read →
    m ≡ min (length read.waiting) (length old_out - n) → second ≡ take m read.waiting ++ drop m (drop n out) → rest ≡ drop m read.waiting →
    all ≡ take n out ++ second → length old_out ≤ 512 → length old_out ≤ awaited w →
    Takes w a (record { waiting = rest; missing = read.missing }) b all
taken_in_two a b w read old_out out second all rest n m count more taken reads again taken_again left joined short within =
    let block = reads.size in
    let counted = reads.left in
    let every : n ≡ length w.waiting = omega arith in
    let first : take n w.waiting ≡ w.waiting = take_all n w.waiting (omega arith) in
    let out_is : out ≡ w.waiting ++ drop n old_out = taken ∙ ap (λ l. l ++ drop n old_out) first in
    let front : take n out ≡ w.waiting = ap (take n) out_is ∙ take_at w.waiting (drop n old_out) n (sym every) in
    let after : drop n out ≡ drop n old_out = ap (drop n) out_is ∙ drop_at w.waiting (drop n old_out) n (sym every) in
    let last : m ≡ length old_out - n = omega arith in
    let none : drop m (drop n out) ≡ [] = drop_all m (drop n out) (omega (arith, ap length after, length-drop n old_out)) in
    let second_is : second ≡ take m read.waiting =
    taken_again ∙ ap (λ l. take m read.waiting ++ l) none ∙ append-nil (take m read.waiting) in
    let split : read.waiting ≡ second ++ rest = sym (take-append-drop m read.waiting)
    ∙ ap (λ l. l ++ drop m read.waiting) (sym second_is) ∙ ap (λ l. second ++ l) (sym left) in
    let all_is : all ≡ w.waiting ++ second = joined ∙ ap (λ l. l ++ second) front in
    let long : length read.waiting ≡ length second + length rest = ap length split ∙ length-append second rest in
    let whole : length all ≡ length w.waiting + length second = ap length all_is ∙ length-append w.waiting second in
    record {
      taken =
          subst (Consumes (prepend_known w.waiting a) (prepend_known rest b)) (sym all_is)
          (taken_with_block a b w.waiting read.waiting second rest reads.taken split);
      left = omega arith;
    }

-- the end came, or the device failed, where more was to be read
pub ends_after_waiting : (e : ReadFault) (w : Awaited) (a b : Option (List ℕ)) → EndsBefore e a b w.missing →
    EndsBefore e (prepend_known w.waiting a) b (awaited w)
ends_after_waiting Truncated w a b r = ends_after a b w r
ends_after_waiting (Device _) w a b r = tt
ends_after_waiting ShortHeader w a b r = absurd r
ends_after_waiting BadMagic w a b r = absurd r
ends_after_waiting OddSize w a b r = absurd r
ends_after_waiting (Memory _) w a b r = absurd r

-- bytes were taken, and then more
pub takes_more : (w v u : Awaited) (a b d : Option (List ℕ)) (first second : List ℕ) → Takes w a v b first →
    Takes v b u d second → Takes w a u d (first ++ second)
takes_more w v u a b d first second p q =
    record {
      taken =
          Consumes-trans (prepend_known w.waiting a) (prepend_known v.waiting b)
          (prepend_known u.waiting d) first second p.taken q.taken;
      left = let x = p.left in let y = q.left in omega (arith, length-append first second);
    }

-- bytes were taken, and then the end came
pub ends_later : (e : ReadFault) (w v : Awaited) (a b d : Option (List ℕ)) (first : List ℕ) → Takes w a v b first →
    EndsBefore e (prepend_known v.waiting b) d (awaited v) → EndsBefore e (prepend_known w.waiting a) d (awaited w)
ends_later Truncated w v a b d first p e =
    record {
      bytes = first ++ e.bytes;
      short = let x = p.left in let y = e.short in omega (arith, length-append first e.bytes);
      taken = Consumes-trans (prepend_known w.waiting a) (prepend_known v.waiting b) d first e.bytes p.taken e.taken;
      end = e.end;
    }
ends_later (Device _) w v a b d first p e = tt
ends_later ShortHeader w v a b d first p e = absurd e
ends_later BadMagic w v a b d first p e = absurd e
ends_later OddSize w v a b d first p e = absurd e
ends_later (Memory _) w v a b d first p e = absurd e

-- one more item after a row
row_in-more : {A : Type 0} (item_in : List ℕ → A) (width count : ℕ) (front back : List ℕ) →
    length front ≡ width * count → length back ≡ width →
    row_in item_in width (count + 1) (front ++ back) ≡ row_in item_in width count front ++ item_in back ∷ []
row_in-more item_in width zero [] back whole one =
    ap (λ k. row_in item_in width k back) (zero-add 1) ∙ ap (λ l. item_in l ∷ []) (take_all width back (omega arith))
row_in-more item_in width zero (a ∷ front) back whole one = absurd (omega arith)
row_in-more item_in width (suc n) front back whole one =
    let next = mul-suc width n in
    let one_more = ap (λ k. row_in item_in width k (front ++ back)) (suc-add n 1) in
    let within : width ≤ length front = omega arith in
    let later = row_in-more item_in width n (drop width front) back (omega (arith, length-drop width front)) one in
    one_more
    ∙ ap (λ l. item_in l ∷ row_in item_in width (n + 1) (drop width (front ++ back))) (take-append-le width front back within)
    ∙ ap (λ l. item_in (take width front) ∷ row_in item_in width (n + 1) l) (drop-append-le width front back within)
    ∙ ap (λ l. item_in (take width front) ∷ l) later

-- an item after those that were taken
pub row_taken : {A : Type 0} (item_in : List ℕ → A) (width count : ℕ) (w v u : Awaited) (a b d : Option (List ℕ))
    (items more all : List A) (item : A) →
    TakesRow item_in width count w a v b items more → TakesItem item_in width v b u d item → all ≡ more ++ item ∷ [] →
    TakesRow item_in width (count + 1) w a u d items all
row_taken item_in width count w v u a b d items more all item row one pushed =
    let next : width * (count + 1) ≡ width * count + width = omega arith in
    record {
      bytes = row.bytes ++ one.bytes;
      size = length-append row.bytes one.bytes ∙ ap (λ n. n + length one.bytes) row.size ∙ ap (λ n. width * count + n) one.size ∙ sym next;
      takes = takes_more w v u a b d row.bytes one.bytes row.takes one.takes;
      encoded = pushed ∙ ap (λ l. l ++ item ∷ []) row.encoded ∙ append_assoc items (row_in item_in width count row.bytes) (item ∷ [])
          ∙ ap (λ x. items ++ (row_in item_in width count row.bytes ++ x ∷ [])) one.encoded
          ∙ ap (λ l. items ++ l) (sym (row_in-more item_in width count row.bytes one.bytes row.size one.size));
    }

untaken : (a b : Option (List ℕ)) (bytes : List ℕ) → Consumes (prepend_known [] a) b bytes → Consumes a b bytes
untaken None b bytes t = tt
untaken (Some x) None bytes t = absurd t
untaken (Some x) (Some y) bytes t = t

-- nothing was read yet
abbrev pub unread : ℕ → Awaited
unread n = record { waiting = []; missing = n }

-- some bytes after the header were taken, and then the end came
pub ends_in_body : (e : ReadFault) (h : Header) (n : ℕ) (v : Awaited) (a b d : Option (List ℕ)) (taken : List ℕ) →
    16 + n ≡ file_length h → Takes (unread n) a v b taken →
    EndsBefore e (prepend_known v.waiting b) d (awaited v) → IsBodyRead h a d (Err e)
ends_in_body Truncated h n v a b d taken size takes ends =
    let early = ends_later Truncated (unread n) v a b d taken takes ends in
    let short = early.short in
    record { bytes = early.bytes; short = omega arith; taken = untaken a d early.bytes early.taken; end = early.end }
ends_in_body (Device _) h n v a b d taken size takes ends = tt
ends_in_body ShortHeader h n v a b d taken size takes ends = absurd ends
ends_in_body BadMagic h n v a b d taken size takes ends = absurd ends
ends_in_body OddSize h n v a b d taken size takes ends = absurd ends
ends_in_body (Memory _) h n v a b d taken size takes ends = absurd ends

-- all bytes after the header were taken
pub took_body : (h : Header) (n : ℕ) (u : Awaited) (a b : Option (List ℕ)) (body : List ℕ) → 16 + n ≡ file_length h →
    16 + length body ≡ file_length h → Takes (unread n) a u b body → Consumes a b body
took_body h n u a b body size long takes = by u.waiting none b (untaken a (prepend_known u.waiting b) body takes.taken)
  where
    none : length u.waiting ≡ 0
    none = let left = takes.left in omega arith

    by : (waiting : List ℕ) → length waiting ≡ 0 → (x : Option (List ℕ)) → Consumes a (prepend_known waiting x) body → Consumes a x body
    by [] e None t = t
    by [] e (Some x) t = t
    by (w ∷ ws) e x t = absurd (omega arith)
