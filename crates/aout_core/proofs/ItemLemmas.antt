-- Items in a row, several of which are taken from a block or put into one.
use Rattle.std.proofs.Common.{◌≡◌, ℕ, zero, suc, ◌+◌, ◌*◌, ◌∷◌, ◌<◌, ◌≤◌, List, [], ◌++◌, length, take, drop, Option, sym, ◌∙◌, ap, subst}
use Rattle.std.proofs.Common.{arith, append_assoc, append-nil, length-append, length-take-le, length-drop, take-append-drop, suc-add}
use Rattle.std.proofs.{Common.{zero-add, add-zero, mul-suc}, lemmas.List.{take-append-le, drop-append-le}, lemmas.Grind.flat_map-append}
use Rattle.std.proofs.{KnownBytes.Consumes-nil, Math.Nat.mul-le-mul_left}
use Rattle.std.specs.{List.flat_map, Io.KnownBytes.prepend_known}
use Rattle.aout_core.specs.{internal.Blocks.{AppendsBut, Awaited, awaited}, Wires.AppendsPrefix, internal.Rows.{row_in, TakesRow}}
use Rattle.aout_core.proofs.{IncomingLemmas.{taken_waiting, takes_more}, OutgoingLemmas.{appends_but_more, broke_before, broke_more}}

-- two rows, one after the other
row_in-append : {A : Type 0} (item_in : List ℕ → A) (width m n : ℕ) (front back : List ℕ) → length front ≡ width * m →
    row_in item_in width (m + n) (front ++ back) ≡ row_in item_in width m front ++ row_in item_in width n back
row_in-append item_in width zero n [] back whole = ap (λ k. row_in item_in width k back) (zero-add n)
row_in-append item_in width zero n (a ∷ front) back whole = absurd (omega arith)
row_in-append item_in width (suc m) n front back whole =
    let next = mul-suc width m in
    let within : width ≤ length front = omega arith in
    let later = row_in-append item_in width m n (drop width front) back (omega (arith, length-drop width front)) in
    ap (λ k. row_in item_in width k (front ++ back)) (suc-add m n)
    ∙ ap (λ l. item_in l ∷ row_in item_in width (m + n) (drop width (front ++ back))) (take-append-le width front back within)
    ∙ ap (λ l. item_in (take width front) ∷ row_in item_in width (m + n) l) (drop-append-le width front back within)
    ∙ ap (λ l. item_in (take width front) ∷ l) later

-- a row needs no more bytes than its own
pub row_in-front : {A : Type 0} (item_in : List ℕ → A) (width n : ℕ) (bytes : List ℕ) → width * n ≤ length bytes →
    row_in item_in width n bytes ≡ row_in item_in width n (take (width * n) bytes)
row_in-front item_in width n bytes within =
    let front = take (width * n) bytes in
    let back = drop (width * n) bytes in
    ap (row_in item_in width n) (sym (take-append-drop (width * n) bytes))
    ∙ ap (λ k. row_in item_in width k (front ++ back)) (sym (add-zero n))
    ∙ row_in-append item_in width n 0 front back (length-take-le (width * n) bytes within)
    ∙ append-nil (row_in item_in width n front)

-- a row with one item more, of those that the bytes encode
pub row_in-next : {A : Type 0} (item_in : List ℕ → A) (width n count : ℕ) (bytes : List ℕ) → n < count → width * count ≤ length bytes →
    row_in item_in width (n + 1) bytes ≡ row_in item_in width n bytes ++ item_in (take width (drop (width * n) bytes)) ∷ []
row_in-next item_in width n count bytes fewer enough =
    let front = take (width * n) bytes in
    let back = drop (width * n) bytes in
    let less : n ≤ count = omega arith in
    let within : width * n ≤ length bytes = omega (arith, enough, mul-le-mul_left width less) in
    ap (row_in item_in width (n + 1)) (sym (take-append-drop (width * n) bytes))
    ∙ row_in-append item_in width n 1 front back (length-take-le (width * n) bytes within)
    ∙ ap (λ l. l ++ item_in (take width back) ∷ []) (sym (row_in-front item_in width n bytes within))

-- items were taken from those that wait
pub waiting_taken : {A : Type 0} (item_in : List ℕ → A) (width n : ℕ) (w : Awaited) (reader : Option (List ℕ)) (items more : List A) →
    width * n ≤ length w.waiting → more ≡ items ++ row_in item_in width n w.waiting →
    TakesRow item_in width n w reader (record { waiting = drop (width * n) w.waiting; missing = w.missing }) reader items more
waiting_taken item_in width n w reader items more within read =
    let front = take (width * n) w.waiting in
    let back = drop (width * n) w.waiting in
    let size : length front ≡ width * n = length-take-le (width * n) w.waiting within in
    record {
      bytes = front;
      size = size;
      takes = record {
        taken = taken_waiting reader w.waiting front back (sym (take-append-drop (width * n) w.waiting));
        left = omega (arith, size, length-drop (width * n) w.waiting);
      };
      encoded = read ∙ ap (λ l. items ++ l) (row_in-front item_in width n w.waiting within);
    }

-- a row after a row
pub rows_taken : {A : Type 0} (item_in : List ℕ → A) (width m n : ℕ) (w v u : Awaited) (a b d : Option (List ℕ)) (items more all : List A) →
    TakesRow item_in width m w a v b items more → TakesRow item_in width n v b u d more all →
    TakesRow item_in width (m + n) w a u d items all
rows_taken item_in width m n w v u a b d items more all first second =
    record {
      bytes = first.bytes ++ second.bytes;
      size =
          length-append first.bytes second.bytes ∙ ap (λ k. k + length second.bytes) first.size
          ∙ ap (λ k. width * m + k) second.size ∙ mul-add width m n;
      takes = takes_more w v u a b d first.bytes second.bytes first.takes second.takes;
      encoded = second.encoded ∙ ap (λ l. l ++ row_in item_in width n second.bytes) first.encoded
          ∙ append_assoc items (row_in item_in width m first.bytes) (row_in item_in width n second.bytes)
          ∙ ap (λ l. items ++ l) (sym (row_in-append item_in width m n first.bytes second.bytes first.size));
    }
  where
    mul-add : (x m n : ℕ) → x * m + x * n ≡ x * (m + n)
    mul-add x m n = omega arith

-- no item was taken yet
pub none_taken : {A : Type 0} (item_in : List ℕ → A) (width n : ℕ) (w : Awaited) (a : Option (List ℕ)) (items : List A) →
    n ≡ 0 → TakesRow item_in width n w a w a items items
none_taken item_in width zero w a items none =
    record {
      bytes = [];
      size = omega arith;
      takes = record { taken = Consumes-nil (prepend_known w.waiting a); left = omega arith };
      encoded = sym (append-nil items);
    }
none_taken item_in width (suc n) w a items none = absurd (omega arith)

-- the same row by another count
pub as_many : {A : Type 0} (item_in : List ℕ → A) (width m n : ℕ) (w u : Awaited) (a b : Option (List ℕ)) (items more : List A) → m ≡ n →
    TakesRow item_in width m w a u b items more → TakesRow item_in width n w a u b items more
as_many item_in width m n w u a b items more e row = subst (λ k. TakesRow item_in width k w a u b items more) e row

-- where more items were announced than were taken, the bytes of one are still to come
pub one_missing : {A : Type 0} (item_in : List ℕ → A) (width m count : ℕ) (w u : Awaited) (a b : Option (List ℕ)) (items more : List A) →
    TakesRow item_in width m w a u b items more → m < count → width * count ≤ awaited w → width ≤ awaited u
one_missing item_in width m count w u a b items more row fewer within =
    let left = row.takes.left in
    let size = row.size in
    let up : width * (m + 1) ≤ width * count = mul-le-mul_left width (omega arith) in
    omega arith

-- a part of a list of texts, and what stands after it
parts_encoded : {A : Type 0} (encoding : A → List ℕ) (rest few after : List A) (done all : List ℕ) → rest ≡ few ++ after →
    all ≡ done ++ flat_map encoding rest → all ≡ (done ++ flat_map encoding few) ++ flat_map encoding after
parts_encoded encoding rest few after done all split so_far =
    so_far ∙ ap (λ l. done ++ flat_map encoding l) split ∙ ap (λ l. done ++ l) (flat_map-append encoding few after)
    ∙ sym (append_assoc done (flat_map encoding few) (flat_map encoding after))

-- what went out but for what waits, and what is still to be put
pub record IsPutBut {A : Type 0} (encoding : A → List ℕ) (old new : Option (List ℕ)) (waiting all : List ℕ) (rest : List A) : Type 0 where
  pub done : List ℕ
  pub sent : AppendsBut old new waiting done
  pub split : all ≡ done ++ flat_map encoding rest

-- a turn of the loop passes a few more items on
pub few_put : {A : Type 0} (encoding : A → List ℕ) (a b d : Option (List ℕ)) (waiting left all : List ℕ)
    (rest few after : List A) → rest ≡ few ++ after →
    IsPutBut encoding a b waiting all rest → AppendsBut b d left (waiting ++ flat_map encoding few) → IsPutBut encoding a d left all after
few_put encoding a b d waiting left all rest few after split put more =
    record {
      done = put.done ++ flat_map encoding few;
      sent = appends_but_more a b d waiting left put.done (flat_map encoding few) put.sent more;
      split = parts_encoded encoding rest few after put.done all split put.split;
    }

-- and if that fails, the device took a front of all
pub few_broke : {A : Type 0} (encoding : A → List ℕ) (a b d : Option (List ℕ)) (waiting all : List ℕ)
    (rest few after : List A) → rest ≡ few ++ after →
    IsPutBut encoding a b waiting all rest → AppendsPrefix b d (waiting ++ flat_map encoding few) → AppendsPrefix a d all
few_broke encoding a b d waiting all rest few after split put broke =
    broke_before a d all (put.done ++ flat_map encoding few) (flat_map encoding after)
    (parts_encoded encoding rest few after put.done all split put.split)
    (broke_more a b d waiting put.done (flat_map encoding few) put.sent broke)
