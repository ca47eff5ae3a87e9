-- The words of a segment of the objects, one after another, and what is made of each.
use Rattle.std.proofs.Common.{◌≡◌, ℕ, zero, suc, ◌+◌, ◌*◌, ◌/◌, List, [], ◌∷◌, ◌++◌, map, length, Option, Some, None, refl, ◌∙◌, ap}
use Rattle.std.proofs.Common.{subst, arith, append-nil, inl, inr, ◌⊎◌, rules}
use Rattle.std.proofs.{lemmas.Grind.common_steps, lemmas.List.length-map, lemmas.List.Sums.sum_by-append}
use Rattle.std.specs.{Prelude.slice_get, List.AllByRecursion}
use Rattle.aout_core.specs.{declared.symbol.Symbol.Symbol, declared.symbol.Segment.Segment, declared.reloc.Reloc.Reloc}
use Rattle.aout_core.specs.{declared.object.ObjectFault.ObjectFault, Contents.Contents}
use Rattle.aout_core.specs.{declared.symbol.Segment.TheVariants.{TextSeg, DataSeg}, WellFormed.{word_fault, first_of, first_bad_word}}
use Rattle.aout_core.proofs.AlikeLemmas.{slice_get_after}
use Rattle.link_session.specs.Cells.{referent, words_of, segment_words, segment_relocs}
use Rattle.link_session.specs.{Starts.size_of, Starts.total, Sessions.IsObject, Mentions.mentions, Mentions.names_of}
use Rattle.link_session.proofs.{AdditionLemmas.well_formed, CellLemmas.RefersAmong, CellLemmas.AllReferAmong, TotalLemmas.with_all}
use Rattle.link_session.proofs.{WellFormedLemmas.objects_refer, WellFormedLemmas.well_formed_parts, ListLemmas.all_split}
use Rattle.link_session.proofs.{ListLemmas.get_append, ListLemmas.get_mapped, NeighbourLemmas.blocks, NeighbourLemmas.blocks-append}
use Rattle.laws.proofs.IndexLemmas.{zip_get, zip_length, all_get, same_elements, get_either, get_back, zip_back}

both_as_long : (a b size : ℕ) → 2 * a ≡ size → 2 * b ≡ size → a ≡ b
both_as_long a b size e f = omega arith

-- segments that have words
abbrev pub HasWords : Segment → Type 0
HasWords TextSeg = Unit {0}
HasWords DataSeg = Unit {0}
HasWords _ = ⊥

object_words : (segment : Segment) → HasWords segment → (o : Contents) → IsObject o → 2 * length (words_of segment o) ≡ size_of segment o
object_words TextSeg has o h = search (rules, with_all, zip_length, both_as_long)
object_words DataSeg has o h = search (rules, with_all, zip_length, both_as_long)
object_words segment has o h = absurd has

half : (n t : ℕ) → 2 * n ≡ t → n ≡ t / 2
half n t e = omega arith

-- what is made of each word of each object, one after another
module _ {A : Type 0} (g : List Contents → Contents → ℕ → Reloc → A) (segment : Segment) where
  abbrev pub made : List Contents → Contents → List A
  made earlier o = map (λ wr. g earlier o wr.0 wr.1) (words_of segment o)

  -- one is made for each word of the objects
  pub made_length : HasWords segment → (earlier os : List Contents) → AllByRecursion IsObject os →
      2 * length (blocks made earlier os) ≡ total segment os
  made_length has earlier [] h = refl
  made_length has earlier (o ∷ os) h =
      let here : length (made earlier o) ≡ length (words_of segment o) = length-map (words_of segment o) (λ wr. g earlier o wr.0 wr.1) in
      let size : 2 * length (words_of segment o) ≡ size_of segment o = object_words segment has o h.0 in
      let rest : 2 * length (blocks made (earlier ++ o ∷ []) os) ≡ total segment os = made_length has (earlier ++ o ∷ []) os h.1 in
      grind (arith, common_steps, blocks, sums, sum_by-append)
    where
      sums : (n a w b s t : ℕ) → n ≡ a + b → a ≡ w → 2 * w ≡ s → 2 * b ≡ t → 2 * n ≡ (0 + s) + t
      sums n a w b s t e f g h = omega arith

  -- what is made of a word stands after what is made of those of the objects before
  pub made_found : HasWords segment → (before : List Contents) (k : Contents) (after : List Contents) →
      AllByRecursion IsObject before → (i w : ℕ) (r : Reloc) → slice_get (words_of segment k) i ≡ Some (w, r) →
      slice_get (blocks made [] (before ++ k ∷ after)) (total segment before / 2 + i) ≡ Some (g before k w r)
  made_found has before k after good i w r e =
      let n : length (blocks made [] before) ≡ total segment before / 2 =
      half (length (blocks made [] before)) (total segment before) (made_length has [] before good) in
      ap (λ (ws : List A). slice_get ws (total segment before / 2 + i)) (blocks-append made [] before (k ∷ after))
      ∙ slice_get_after (blocks made [] before) (blocks made before (k ∷ after)) (total segment before / 2) i n
      ∙ get_append (made before k) (blocks made (before ++ k ∷ []) after) i (g before k w r)
      (get_mapped (λ wr. g before k wr.0 wr.1) (words_of segment k) i (w, r) e)

  -- an element of blocks is one of some object's block
  record IsInBlock (before rest : List Contents) (i : ℕ) (y : A) : Type 0 where
    earlier : List Contents
    k : Contents
    later : List Contents
    split : rest ≡ earlier ++ k ∷ later
    j : ℕ
    place : i ≡ length (blocks made before earlier) + j
    found : slice_get (made (before ++ earlier) k) j ≡ Some y

  in_block : (before rest : List Contents) (i : ℕ) (y : A) → slice_get (blocks made before rest) i ≡ Some y → IsInBlock before rest i y
  in_block before [] i y e = absurd (cc)
  in_block before (k ∷ ks) i y e =
      by_block (get_either (made before k) (blocks made (before ++ k ∷ []) ks) i y e) (λ j f. in_block (before ++ k ∷ []) ks j y f)
    where
      sums : (i m j b n a : ℕ) → i ≡ m + j → j ≡ b + n → a ≡ m + b → i ≡ a + n
      sums i m j b n a e f g = omega arith

      by_block : (slice_get (made before k) i ≡ Some y)
          ⊎ ((j : ℕ) × (i ≡ length (made before k) + j) × (slice_get (blocks made (before ++ k ∷ []) ks) j ≡ Some y)) →
          ((j : ℕ) → slice_get (blocks made (before ++ k ∷ []) ks) j ≡ Some y → IsInBlock (before ++ k ∷ []) ks j y) →
          IsInBlock before (k ∷ ks) i y
      by_block (inl h) rest = record {
        earlier = [];
        k = k;
        later = ks;
        split = refl;
        j = i;
        place = omega arith;
        found = ap (λ (es : List Contents). slice_get (made es k) i) (append-nil before) ∙ h;
      }
      by_block (inr h) rest = grind (arith, common_steps, sums, blocks)

  -- a list of that length with each of these at its place is this one
  pub made_whole : HasWords segment → (os : List Contents) → AllByRecursion IsObject os → (xs : List A) → 2 * length xs ≡ total segment os →
      ((before : List Contents) (k : Contents) (after : List Contents) → os ≡ before ++ k ∷ after → (i w : ℕ) (r : Reloc) →
      slice_get (words_of segment k) i ≡ Some (w, r) → slice_get xs (total segment before / 2 + i) ≡ Some (g before k w r)) →
      xs ≡ blocks made [] os
  made_whole has os good xs long each =
      same_elements xs (blocks made [] os)
      (both_as_long (length xs) (length (blocks made [] os)) (total segment os) long (made_length has [] os good)) found
    where
      found : (i : ℕ) (y : A) → slice_get (blocks made [] os) i ≡ Some y → slice_get xs i ≡ Some y
      found i y e =
          let b = in_block [] os i y e in
          let front : AllByRecursion IsObject b.earlier =
          (all_split IsObject b.earlier (b.k ∷ b.later) (subst (λ (zs : List Contents). AllByRecursion IsObject zs) b.split good)).0 in
          let n : length (blocks made [] b.earlier) ≡ total segment b.earlier / 2 =
          half (length (blocks made [] b.earlier)) (total segment b.earlier) (made_length has [] b.earlier front) in
          search (rules, get_back)

-- the kind and number of a word of an object are fine
no_fault : (symbols : List Symbol) (n : ℕ) (rs : List Reloc) (i : ℕ) (r : Reloc) → first_bad_word symbols n rs ≡ None →
    slice_get rs i ≡ Some r → (m : ℕ) × (word_fault symbols m r ≡ None)
no_fault symbols n [] i r h e = absurd (cc)
no_fault symbols n (a ∷ rs) zero r h e =
    let same : a ≡ r = cc in
    (n, subst (λ (x : Reloc). word_fault symbols n x ≡ None) same (by_first (word_fault symbols n a) (first_bad_word symbols (n + 1) rs) h))
  where
    by_first : (x y : Option ObjectFault) → first_of x y ≡ None → x ≡ None
    by_first None y h = refl
    by_first (Some f) y h = absurd (cc)
no_fault symbols n (a ∷ rs) (suc i) r h e =
    no_fault symbols (n + 1) rs i r (by_first (word_fault symbols n a) (first_bad_word symbols (n + 1) rs) h) e
  where
    by_first : (x y : Option ObjectFault) → first_of x y ≡ None → y ≡ None
    by_first None y h = h
    by_first (Some f) y h = absurd (cc)

-- a word of an object with its relocation word, whose kind and number are fine, and whose name is mentioned
pub record IsWord (forced : List (List ℕ)) (os : List Contents) (k : Contents) (segment : Segment) (i w : ℕ) (r : Reloc) : Type 0 where
  pub is_there : slice_get (words_of segment k) i ≡ Some (w, r)
  pub number : ℕ
  pub fine : word_fault k.symbols number r ≡ None
  pub known : RefersAmong (names_of (mentions forced os)) (referent k r)

-- a word and its relocation word, by their place
pub words_back : (segment : Segment) (k : Contents) (i : ℕ) (z : ℕ × Reloc) → slice_get (words_of segment k) i ≡ Some z →
    (slice_get (segment_words segment k) i ≡ Some z.0) × (slice_get (segment_relocs segment k) i ≡ Some z.1)
words_back TextSeg k i z e = zip_back k.text_words k.text_reloc i z e
words_back DataSeg k i z e = zip_back k.data_words k.data_reloc i z e
words_back segment k i z e = absurd (cc)

module _ (forced : List (List ℕ)) (os before : List Contents) (k : Contents) (after : List Contents)
    (all : os ≡ before ++ k ∷ after) (good : AllByRecursion IsObject os) where
  -- the objects before this one are objects
  pub front_objects : AllByRecursion IsObject before
  front_objects = (all_split IsObject before (k ∷ after) (subst (λ (xs : List Contents). AllByRecursion IsObject xs) all good)).0

  object : IsObject k
  object = (all_split IsObject before (k ∷ after) (subst (λ (xs : List Contents). AllByRecursion IsObject xs) all good)).1.0

  refers : (segment : Segment) (i w : ℕ) (r : Reloc) → slice_get (words_of segment k) i ≡ Some (w, r) →
      RefersAmong (names_of (mentions forced os)) (referent k r)
  refers segment i w r e =
      let refer : AllByRecursion (λ c. AllReferAmong (names_of (mentions forced os)) c (words_of segment c)) (before ++ k ∷ after) =
      subst (λ (xs : List Contents). AllByRecursion (λ c. AllReferAmong (names_of (mentions forced os)) c (words_of segment c)) xs)
      all (objects_refer forced segment os (well_formed os good)) in
      let here = all_split (λ c. AllReferAmong (names_of (mentions forced os)) c (words_of segment c)) before (k ∷ after) refer in
      all_get (λ wr. RefersAmong (names_of (mentions forced os)) (referent k wr.1)) (words_of segment k) i (w, r) here.1.0 e

  -- the word of an object at a place, and what its relocation word refers to
  pub word_at : (segment : Segment) (i w : ℕ) (r : Reloc) → slice_get (segment_words segment k) i ≡ Some w →
      slice_get (segment_relocs segment k) i ≡ Some r → IsWord forced os k segment i w r
  word_at TextSeg i w r ew er =
      let is_there = zip_get k.text_words k.text_reloc i w r ew er in
      let fault = no_fault k.symbols 0 (k.text_reloc ++ k.data_reloc) i r (well_formed_parts k object.well).1
      (get_append k.text_reloc k.data_reloc i r er) in
      record { is_there = is_there; number = fault.0; fine = fault.1; known = refers TextSeg i w r is_there }
  word_at DataSeg i w r ew er =
      let is_there = zip_get k.data_words k.data_reloc i w r ew er in
      let fault = no_fault k.symbols 0 (k.text_reloc ++ k.data_reloc) (length k.text_reloc + i) r
      (well_formed_parts k object.well).1 (slice_get_after k.text_reloc k.data_reloc (length k.text_reloc) i refl ∙ er) in
      record { is_there = is_there; number = fault.0; fine = fault.1; known = refers DataSeg i w r is_there }
  word_at segment i w r ew er = absurd (cc)
