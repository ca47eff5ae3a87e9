-- What is read is what the bytes encode, and the other way round.
use Rattle.std.proofs.Common.{◌≡◌, ℕ, zero, suc, ◌+◌, ◌-◌, ◌*◌, ◌/◌, ◌%◌, ◌<◌, ◌≤◌, Bool, true, false, cond, eqb, List, [], ◌∷◌, ◌++◌, map}
use Rattle.std.proofs.Common.{take, drop, replicate, length, Some, refl, sym, ◌∙◌, ap, subst, arith, append_assoc, length-append}
use Rattle.std.proofs.Common.{length-take, length-drop, drop-drop, drop_at, eqb-true, le-ltb, ◌⊎◌, inl, inr}
use Rattle.std.proofs.lemmas.List.{take-append-drop, take_all, take-append-le, drop-append-le}
use Rattle.std.proofs.{Math.Seq.take-add, lemmas.Option.slice_get_within}
use Rattle.std.specs.{Prelude.{slice_get, slice_index, Result, Ok, nat_lt}, List.{flat_map, AllByRecursion}}
use Rattle.aout_core.specs.Encoding.{header_words, header_encoding, reloc_encoding, symbol_encoding, relocation_at, symbols_at, file_length}
use Rattle.aout_core.specs.Encoding.{encoding}
use Rattle.aout_core.specs.Decoding.{part, header_of, header_in, relocs_in, symbol_in, symbols_in, contents_in, decode_with, decode}
use Rattle.aout_core.specs.{declared.file.ReadFault.ReadFault, declared.header.Header.Header, declared.reloc.Reloc.Reloc}
use Rattle.aout_core.specs.{declared.symbol.Symbol.Symbol, Words.AreBytes, Words.word_bytes, Words.all_word_bytes, Words.words_in}
use Rattle.aout_core.specs.{Names.before_nul, Names.padded, Names.IsName, Contents.Contents, Contents.with_relocation, Contents.Fits}
use Rattle.aout_core.specs.{Contents.IsWord, Contents.IsSymbol, Contents.IsSound, Encodes.IsAfterNul, Encodes.Encodes}
use Rattle.aout_core.proofs.AlikeLemmas.{AreAlike, slice_get_front, slice_get_after, alike_front, alike_back, alike_both, alike_more}
use Rattle.aout_core.proofs.AlikeLemmas.{alike_self, alike_same}
use Rattle.aout_core.proofs.EncodingLemmas.{decode-encoding, nul_free_head, word_back, with_relocation-add, length-all_word_bytes}
use Rattle.aout_core.proofs.EncodingLemmas.{length-reloc_encoding, length-header_encoding, length-padded, length-symbol_encoding}
use Rattle.aout_core.proofs.{EncodingLemmas.length-symbols_encoding, DecodingLemmas.{Passed, decoded_passed, decoded_fits, length-words_in}}
use Rattle.aout_core.proofs.NameLemmas.{length-before_nul-le, before_nul-twice}

bytes_take : (n : ℕ) (bytes : List ℕ) → AreBytes bytes → AreBytes (take n bytes)
bytes_take zero bytes h = tt
bytes_take (suc n) [] h = tt
bytes_take (suc n) (b ∷ bs) h = (h.0, bytes_take n bs h.1)

bytes_drop : (n : ℕ) (bytes : List ℕ) → AreBytes bytes → AreBytes (drop n bytes)
bytes_drop zero bytes h = h
bytes_drop (suc n) [] h = tt
bytes_drop (suc n) (b ∷ bs) h = bytes_drop n bs h.1

low_back : (a b : ℕ) → a < 256 → (a + 256 * b) % 256 ≡ a
low_back a b h = omega arith

high_back : (a b : ℕ) → a < 256 → (a + 256 * b) / 256 ≡ b
high_back a b h = omega arith

-- the words that are read are encoded as they stood
words_encoded : (bytes : List ℕ) → length bytes % 2 ≡ 0 → AreBytes bytes → all_word_bytes (words_in bytes) ≡ bytes
words_encoded [] e h = refl
words_encoded (a ∷ []) e h = absurd (omega arith)
words_encoded (a ∷ (b ∷ rest)) e h = rw (low_back a b h.0, high_back a b h.0, words_encoded rest (omega arith) h.1.1) refl

relocs_encoded : (ws : List ℕ) → reloc_encoding (map (λ w. let r : Reloc = record { 0 = w } in r) ws) ≡ all_word_bytes ws
relocs_encoded [] = refl
relocs_encoded (w ∷ ws) = ap (λ (bs : List ℕ). word_bytes w ++ bs) (relocs_encoded ws)

eight_back : (ws : List ℕ) → length ws ≡ 8 → header_words (header_of ws) ≡ ws
eight_back (a ∷ (b ∷ (c ∷ (d ∷ (e ∷ (f ∷ (g ∷ (i ∷ [])))))))) h = refl
eight_back _ h = absurd (omega arith)

-- a name of eight bytes, and what is read of it
record HasNulBefore (bytes : List ℕ) (place : ℕ) : Type 0 where
  nul : ℕ
  is_nul : slice_get bytes nul ≡ Some 0
  before : nul < place

name_encoded : (n m : ℕ) (bytes : List ℕ) → length bytes ≡ n → n ≤ m →
    AreAlike bytes (take n (before_nul bytes ++ replicate m 0)) (HasNulBefore bytes)
name_encoded n m [] e l i lt = absurd (omega arith)
name_encoded zero m (b ∷ bs) e l i lt = absurd (omega arith)
name_encoded (suc n) zero (b ∷ bs) e l i lt = absurd (omega arith)
name_encoded (suc n) (suc m) (b ∷ bs) e l i lt =
    by_test (eqb b 0) refl i lt (λ j lt. name_encoded n (suc m) bs (omega arith) (omega arith) j lt)
  where
    further : (j : ℕ) → (slice_get bs j ≡ slice_get (take n (before_nul bs ++ replicate (suc m) 0)) j) ⊎ HasNulBefore bs j →
        (slice_get bs j ≡ slice_get (take n (before_nul bs ++ replicate (suc m) 0)) j) ⊎ HasNulBefore (b ∷ bs) (suc j)
    further j (inl same) = inl same
    further j (inr k) = inr (record { nul = suc k.nul; is_nul = k.is_nul; before = (let h = k.before in omega arith) })

    by_test : (t : Bool) → eqb b 0 ≡ t → (i : ℕ) → i < length (b ∷ bs) →
        AreAlike bs (take n (before_nul bs ++ replicate (suc m) 0)) (HasNulBefore bs) →
        (slice_get (b ∷ bs) i ≡ slice_get (take (suc n) (cond t [] (b ∷ before_nul bs) ++ replicate (suc m) 0)) i) ⊎ HasNulBefore (b ∷ bs) i
    by_test true is zero lt rest = inl (ap (λ (k : ℕ). Some k) (eqb-true b 0 is))
    by_test true is (suc j) lt rest = inr (record { nul = 0; is_nul = ap (λ (k : ℕ). Some k) (eqb-true b 0 is); before = omega arith })
    by_test false is zero lt rest = inl refl
    by_test false is (suc j) lt rest = further j (rest j (omega arith))

name_read : (n m : ℕ) (bytes name : List ℕ) → length bytes ≡ n → length name ≤ n → n ≤ m → before_nul name ≡ name →
    AreAlike bytes (take n (name ++ replicate m 0)) (HasNulBefore bytes) → before_nul bytes ≡ name
name_read n m [] [] e s l f h = refl
name_read n m [] (c ∷ cs) e s l f h = absurd (omega arith)
name_read zero m (b ∷ bs) name e s l f h = absurd (omega arith)
name_read (suc n) zero (b ∷ bs) name e s l f h = absurd (omega arith)
name_read (suc n) (suc m) (b ∷ bs) [] e s l f h = by_case (h 0 (omega arith))
  where
    by_case : (Some b ≡ Some 0) ⊎ HasNulBefore (b ∷ bs) 0 → before_nul (b ∷ bs) ≡ []
    by_case (inl same) = let zero_here : b ≡ 0 = cc in rw zero_here refl
    by_case (inr k) = let before = k.before in absurd (omega arith)
name_read (suc n) (suc m) (b ∷ bs) (c ∷ cs) e s l f h =
    let free = nul_free_head c cs (eqb c 0) f in
    let same : b ≡ c = first (h 0 (omega arith)) in
    let rest : before_nul bs ≡ cs = name_read n (suc m) bs cs (omega arith) (omega arith) (omega arith) free.1
    (λ i lt. further i free.0 same (h (suc i) (omega arith))) in
    rw (same, free.0) (ap (λ (xs : List ℕ). c ∷ xs) rest)
  where
    first : (Some b ≡ Some c) ⊎ HasNulBefore (b ∷ bs) 0 → b ≡ c
    first (inl same) = cc
    first (inr k) = let before = k.before in absurd (omega arith)

    at_place : (i nul : ℕ) → eqb c 0 ≡ false → b ≡ c → slice_get (b ∷ bs) nul ≡ Some 0 → nul < suc i → HasNulBefore bs i
    at_place i zero free same is before =
        let zero_here : b ≡ 0 = cc in
        let bad : eqb c 0 ≡ true = rw (← same, zero_here) refl in absurd (cc)
    at_place i (suc nul) free same is before = record { nul = nul; is_nul = is; before = omega arith }

    further : (i : ℕ) → eqb c 0 ≡ false → b ≡ c →
        (slice_get bs i ≡ slice_get (take n (cs ++ replicate (suc m) 0)) i) ⊎ HasNulBefore (b ∷ bs) (suc i) →
        (slice_get bs i ≡ slice_get (take n (cs ++ replicate (suc m) 0)) i) ⊎ HasNulBefore bs i
    further i free same (inl is) = inl is
    further i free same (inr k) = inr (at_place i k.nul free same k.is_nul k.before)

-- four bytes as two words
four_encoded : (x : List ℕ) → length x ≡ 4 → AreBytes x →
    word_bytes (slice_index (words_in x) 0) ++ word_bytes (slice_index (words_in x) 1) ≡ x
four_encoded (a ∷ (b ∷ (c ∷ (d ∷ [])))) e h = rw (low_back a b h.0, high_back a b h.0, low_back c d h.1.1.0, high_back c d h.1.1.0) refl
four_encoded _ e h = absurd (omega arith)

-- a NUL in the first bytes, seen in all of them
nul_in_front : (x : List ℕ) (i : ℕ) → i < 8 → HasNulBefore (take 8 x) i → IsAfterNul 0 x i
nul_in_front x i lt k =
    let before = k.before in
    let is : slice_get x k.nul ≡ Some 0 =
    ap (λ (xs : List ℕ). slice_get xs k.nul) (sym (take-append-drop 8 x))
    ∙ slice_get_front (take 8 x) (drop 8 x) k.nul (in_front (take 8 x) k.nul k.is_nul) ∙ k.is_nul in
    record { entry = 0; nul = k.nul; from_name = omega arith; is_nul = is; past_nul = before; in_name = omega arith }
  where
    in_front : (xs : List ℕ) (n : ℕ) → slice_get xs n ≡ Some 0 → n < length xs
    in_front xs n e = slice_get_within xs n 0 e

front_nul : (x : List ℕ) (i : ℕ) → length x ≡ 12 → i < 8 → IsAfterNul 0 x i → HasNulBefore (take 8 x) i
front_nul x i len lt k =
    let a = k.from_name in
    let b = k.past_nul in
    let c = k.in_name in
    let is : slice_get (take 8 x) k.nul ≡ Some 0 =
    sym (slice_get_front (take 8 x) (drop 8 x) k.nul (omega (arith, length-take 8 x)))
    ∙ ap (λ (xs : List ℕ). slice_get xs k.nul) (take-append-drop 8 x) ∙ k.is_nul in
    record { nul = k.nul; is_nul = is; before = b }

symbol_alike : (x : List ℕ) → length x ≡ 12 → AreBytes x → AreAlike x (symbol_encoding (symbol_in x)) (IsAfterNul 0 x)
symbol_alike x len h =
    let eight : length (take 8 x) ≡ 8 = omega (arith, length-take 8 x) in
    let four : length (drop 8 x) ≡ 4 = omega (arith, length-drop 8 x) in
    let all : part 8 4 x ≡ drop 8 x = take_all 4 (drop 8 x) (omega arith) in
    let words : drop 8 x ≡ word_bytes (symbol_in x).type_bits ++ word_bytes (symbol_in x).value =
    sym all ∙ sym (four_encoded (part 8 4 x) (rw all four) (bytes_take 4 (drop 8 x) (bytes_drop 8 x h))) in
    subst (λ (xs : List ℕ). AreAlike xs (symbol_encoding (symbol_in x)) (IsAfterNul 0 x)) (take-append-drop 8 x)
    (alike_both (take 8 x) (drop 8 x) (padded (symbol_in x).name) (word_bytes (symbol_in x).type_bits
    ++ word_bytes (symbol_in x).value) (IsAfterNul 0 x) 8 eight (length-padded (symbol_in x).name)
    (alike_more (take 8 x) (padded (symbol_in x).name) (HasNulBefore (take 8 x)) (IsAfterNul 0 x)
    (λ i lt k. nul_in_front x i (omega arith) k) (name_encoded 8 8 (take 8 x) eight (omega arith)))
    (alike_self (drop 8 x) (word_bytes (symbol_in x).type_bits ++ word_bytes (symbol_in x).value) (λ i. IsAfterNul 0 x (8 + i)) words))

symbol_read : (s : Symbol) (x : List ℕ) → length x ≡ 12 → IsName s.name → AreAlike x (symbol_encoding s) (IsAfterNul 0 x) → symbol_in x ≡ s
symbol_read s x len n h =
    let eight : length (take 8 x) ≡ 8 = omega (arith, length-take 8 x) in
    let four : length (drop 8 x) ≡ 4 = omega (arith, length-drop 8 x) in
    let bytes = word_bytes s.type_bits ++ word_bytes s.value in
    let split : AreAlike (take 8 x ++ drop 8 x) (padded s.name ++ bytes) (IsAfterNul 0 x) =
    subst (λ (xs : List ℕ). AreAlike xs (symbol_encoding s) (IsAfterNul 0 x)) (sym (take-append-drop 8 x)) h in
    let front = alike_front (take 8 x) (drop 8 x) (padded s.name) bytes (IsAfterNul 0 x) (eight ∙ sym (length-padded s.name)) split in
    let back = alike_back (take 8 x) (drop 8 x) (padded s.name) bytes (IsAfterNul 0 x) 8 eight (length-padded s.name) split in
    let name : before_nul (take 8 x) ≡ s.name =
    name_read 8 8 (take 8 x) s.name eight n.short (omega arith) n.no_nul
    (alike_more (take 8 x) (padded s.name) (IsAfterNul 0 x) (HasNulBefore (take 8 x))
    (λ i lt k. front_nul x i len (omega arith) k) front) in
    let words : drop 8 x ≡ bytes =
    alike_same (drop 8 x) bytes (λ i. IsAfterNul 0 x (8 + i)) four (λ i lt k. not_in_name i (omega arith) k) back in
    let all : part 8 4 x ≡ bytes = take_all 4 (drop 8 x) (omega arith) ∙ words in
    rw (name, all, word_back s.type_bits, word_back s.value) refl
  where
    not_in_name : (i : ℕ) → i < 4 → IsAfterNul 0 x (8 + i) → ⊥
    not_in_name i lt k = let a = k.from_name in let b = k.past_nul in let c = k.in_name in omega arith

-- the places of one entry among those of the whole table
head_places : (x y : List ℕ) (i : ℕ) → i < length x → IsAfterNul 0 x i → IsAfterNul 0 (x ++ y) i
head_places x y i lt k =
    let b = k.past_nul in
    record {
      entry = k.entry;
      nul = k.nul;
      from_name = k.from_name;
      is_nul = slice_get_front x y k.nul (omega arith) ∙ k.is_nul;
      past_nul = b;
      in_name = k.in_name;
    }

head_places_back : (x y : List ℕ) (i : ℕ) → i < length x → IsAfterNul 0 (x ++ y) i → IsAfterNul 0 x i
head_places_back x y i lt k =
    let b = k.past_nul in
    record {
      entry = k.entry;
      nul = k.nul;
      from_name = k.from_name;
      is_nul = sym (slice_get_front x y k.nul (omega arith)) ∙ k.is_nul;
      past_nul = b;
      in_name = k.in_name;
    }

tail_places : (x y : List ℕ) (i : ℕ) → length x ≡ 12 → IsAfterNul 0 y i → IsAfterNul 0 (x ++ y) (12 + i)
tail_places x y i len k =
    let a = k.from_name in
    let b = k.past_nul in
    let c = k.in_name in
    record {
      entry = k.entry + 1;
      nul = 12 + k.nul;
      from_name = omega arith;
      is_nul = slice_get_after x y 12 k.nul len ∙ k.is_nul;
      past_nul = omega arith;
      in_name = omega arith;
    }

tail_places_back : (x y : List ℕ) (i : ℕ) → length x ≡ 12 → IsAfterNul 0 (x ++ y) (12 + i) → IsAfterNul 0 y i
tail_places_back x y i len k =
    let a = k.from_name in
    let b = k.past_nul in
    let c = k.in_name in
    let place : 12 + (k.nul - 12) ≡ k.nul = omega arith in
    let is : slice_get y (k.nul - 12) ≡ Some 0 =
    sym (slice_get_after x y 12 (k.nul - 12) len) ∙ ap (λ (n : ℕ). slice_get (x ++ y) n) place ∙ k.is_nul in
    record { entry = k.entry - 1; nul = k.nul - 12; from_name = omega arith; is_nul = is; past_nul = omega arith; in_name = omega arith }

table_alike : (n : ℕ) (bytes : List ℕ) → length bytes ≡ 12 * n → AreBytes bytes →
    AreAlike bytes (flat_map symbol_encoding (symbols_in n bytes)) (IsAfterNul 0 bytes)
table_alike zero bytes len h = λ i lt. absurd (omega arith)
table_alike (suc n) bytes len h =
    let x = take 12 bytes in
    let y = drop 12 bytes in
    let lx : length x ≡ 12 = omega (arith, length-take 12 bytes) in
    let ly : length y ≡ 12 * n = omega (arith, length-drop 12 bytes) in
    let rest = table_alike n y ly (bytes_drop 12 bytes h) in
    let first = symbol_alike x lx (bytes_take 12 bytes h) in
    subst (λ (xs : List ℕ). AreAlike xs (symbol_encoding (symbol_in x) ++ flat_map symbol_encoding (symbols_in n y))
    (IsAfterNul 0 xs)) (take-append-drop 12 bytes)
    (alike_both x y (symbol_encoding (symbol_in x)) (flat_map symbol_encoding (symbols_in n y))
    (IsAfterNul 0 (x ++ y)) 12 lx (length-symbol_encoding (symbol_in x))
    (alike_more x (symbol_encoding (symbol_in x)) (IsAfterNul 0 x) (IsAfterNul 0 (x ++ y)) (λ i lt k. head_places x y i lt k) first)
    (alike_more y (flat_map symbol_encoding (symbols_in n y)) (IsAfterNul 0 y) (λ i. IsAfterNul 0 (x ++ y) (12 + i))
    (λ i lt k. tail_places x y i lx k) rest))

table_read : (ss : List Symbol) (bytes : List ℕ) → length bytes ≡ 12 * length ss → AllByRecursion IsSymbol ss →
    AreAlike bytes (flat_map symbol_encoding ss) (IsAfterNul 0 bytes) → symbols_in (length ss) bytes ≡ ss
table_read [] bytes len h k = refl
table_read (s ∷ ss) bytes len h k =
    let x = take 12 bytes in
    let y = drop 12 bytes in
    let lx : length x ≡ 12 = omega (arith, length-take 12 bytes) in
    let ly : length y ≡ 12 * length ss = omega (arith, length-drop 12 bytes) in
    let split : AreAlike (x ++ y) (symbol_encoding s ++ flat_map symbol_encoding ss) (IsAfterNul 0 (x ++ y)) =
    subst (λ (xs : List ℕ). AreAlike xs (symbol_encoding s ++ flat_map symbol_encoding ss) (IsAfterNul 0 xs))
    (sym (take-append-drop 12 bytes)) k in
    let first : symbol_in x ≡ s = symbol_read s x lx h.0.name
    (alike_more x (symbol_encoding s) (IsAfterNul 0 (x ++ y)) (IsAfterNul 0 x) (λ i lt k. head_places_back x y i lt k)
    (alike_front x y (symbol_encoding s) (flat_map symbol_encoding ss) (IsAfterNul 0 (x ++ y))
    (lx ∙ sym (length-symbol_encoding s)) split)) in
    let rest : symbols_in (length ss) y ≡ ss = table_read ss y ly h.1
    (alike_more y (flat_map symbol_encoding ss) (λ i. IsAfterNul 0 (x ++ y) (12 + i)) (IsAfterNul 0 y)
    (λ i lt k. tail_places_back x y i lx k)
    (alike_back x y (symbol_encoding s) (flat_map symbol_encoding ss) (IsAfterNul 0 (x ++ y)) 12 lx (length-symbol_encoding s) split)) in
    ap (λ (t : Symbol). t ∷ symbols_in (length ss) y) first ∙ ap (λ (ts : List Symbol). s ∷ ts) rest

-- symbols are read from the first bytes alone
pub symbols_front : (n : ℕ) (xs ys : List ℕ) → 12 * n ≤ length xs → symbols_in n (xs ++ ys) ≡ symbols_in n xs
symbols_front zero xs ys h = refl
symbols_front (suc n) xs ys h =
    rw (take-append-le 12 xs ys (omega arith), drop-append-le 12 xs ys (omega arith))
    (ap (λ (ts : List Symbol). symbol_in (take 12 xs) ∷ ts) (symbols_front n (drop 12 xs) ys (omega (arith, length-drop 12 xs))))

-- all that stands before the table
abbrev fore : Contents → List ℕ
fore c =
    header_encoding c.header ++ (all_word_bytes c.text_words
    ++ (all_word_bytes c.data_words ++ (reloc_encoding c.text_reloc ++ reloc_encoding c.data_reloc)))

encoding_split : (c : Contents) → encoding c ≡ fore c ++ flat_map symbol_encoding c.symbols
encoding_split c = simp append_assoc

length_fore : (c : Contents) → Fits c → length (fore c) ≡ symbols_at c.header
length_fore c f =
    let h = c.header in
    let T = all_word_bytes c.text_words in
    let D = all_word_bytes c.data_words in
    let R = reloc_encoding c.text_reloc in
    let Q = reloc_encoding c.data_reloc in
    omega (
      arith,
      length-append (header_encoding h) (T ++ (D ++ (R ++ Q))),
      length-append T (D ++ (R ++ Q)),
      length-append D (R ++ Q),
      length-append R Q,
      length-header_encoding h,
      length-all_word_bytes c.text_words,
      length-all_word_bytes c.data_words,
      length-reloc_encoding c.text_reloc,
      length-reloc_encoding c.data_reloc,
      f.text,
      f.data,
      f.text_relocation,
      f.data_relocation,
      with_relocation-add h h.text_size h.data_size,
    )

-- a text cut into parts that follow one another
cut : (from n m : ℕ) (bytes : List ℕ) → take (n + m) (drop from bytes) ≡ part from n bytes ++ take m (drop (from + n) bytes)
cut from n m bytes = take-add n m (drop from bytes) ∙ ap (λ (xs : List ℕ). part from n bytes ++ take m xs) (drop-drop n from bytes)

five_parts : (bytes : List ℕ) (t d r q : ℕ) → take (16 + (t + (d + (r + q)))) bytes ≡ take 16 bytes
    ++ (part 16 t bytes ++ (part (16 + t) d bytes ++ (part (16 + t + d) r bytes ++ part (16 + t + d + r) q bytes)))
five_parts bytes t d r q =
    take-add 16 (t + (d + (r + q))) bytes
    ∙ ap (λ (xs : List ℕ). take 16 bytes ++ xs) (cut 16 t (d + (r + q)) bytes
    ∙ ap (λ (xs : List ℕ). part 16 t bytes ++ xs) (cut (16 + t) d (r + q) bytes
    ∙ ap (λ (xs : List ℕ). part (16 + t) d bytes ++ xs) (cut (16 + t + d) r q bytes)))

part_encoded : (from size n : ℕ) (bytes : List ℕ) → AreBytes bytes → from + size ≤ length bytes → 2 * n ≡ size →
    all_word_bytes (words_in (part from size bytes)) ≡ part from size bytes
part_encoded from size n bytes h long even =
    let len : length (part from size bytes) ≡ size = omega (arith, length-take size (drop from bytes), length-drop from bytes) in
    words_encoded (part from size bytes) (omega arith) (bytes_take size (drop from bytes) (bytes_drop from bytes h))

header_encoded : (bytes : List ℕ) → AreBytes bytes → 16 ≤ length bytes → header_encoding (header_in bytes) ≡ take 16 bytes
header_encoded bytes h long =
    let len : length (take 16 bytes) ≡ 16 = omega (arith, length-take 16 bytes) in
    let count : length (words_in (take 16 bytes)) ≡ 8 = omega (arith, length-words_in (take 16 bytes) (omega arith)) in
    ap all_word_bytes (eight_back (words_in (take 16 bytes)) count) ∙ words_encoded (take 16 bytes) (omega arith) (bytes_take 16 bytes h)

-- what stands before the table is encoded as it was read
fore_read : (bytes : List ℕ) → AreBytes bytes → (let c = contents_in (header_in bytes) bytes in
    Fits c → symbols_at c.header ≤ length bytes → fore c ≡ take (symbols_at c.header) bytes)
fore_read bytes h f long =
    let hd = header_in bytes in
    let c = contents_in hd bytes in
    let r = with_relocation hd hd.text_size in
    let q = with_relocation hd hd.data_size in
    let add = with_relocation-add hd hd.text_size hd.data_size in
    let at : 16 + (hd.text_size + (hd.data_size + (r + q))) ≡ symbols_at hd = omega arith in
    let places : (16 + hd.text_size + hd.data_size ≡ relocation_at hd) = omega arith in
    let H : header_encoding hd ≡ take 16 bytes = header_encoded bytes h (omega arith) in
    let T : all_word_bytes c.text_words ≡ part 16 hd.text_size bytes =
    part_encoded 16 hd.text_size (length c.text_words) bytes h (omega arith) f.text in
    let D : all_word_bytes c.data_words ≡ part (16 + hd.text_size) hd.data_size bytes =
    part_encoded (16 + hd.text_size) hd.data_size (length c.data_words) bytes h (omega arith) f.data in
    let R : reloc_encoding c.text_reloc ≡ part (16 + hd.text_size + hd.data_size) r bytes =
    relocs_encoded (words_in (part (relocation_at hd) r bytes)) ∙ part_encoded (relocation_at hd) r
    (length c.text_reloc) bytes h (omega arith) f.text_relocation ∙ ap (λ (n : ℕ). part n r bytes) (sym places) in
    let Q : reloc_encoding c.data_reloc ≡ part (16 + hd.text_size + hd.data_size + r) q bytes =
    relocs_encoded (words_in (part (relocation_at hd + r) q bytes)) ∙ part_encoded (relocation_at hd + r) q
    (length c.data_reloc) bytes h (omega arith) f.data_relocation ∙ ap (λ (n : ℕ). part (n + r) q bytes) (sym places) in
    (λ i. H i ++ (T i ++ (D i ++ (R i ++ Q i)))) ∙ sym (five_parts bytes hd.text_size hd.data_size r q) ∙ ap (λ (n : ℕ). take n bytes) at

-- places of the table, seen in the whole text
whole_places : (xs ys : List ℕ) (table i : ℕ) → length xs ≡ table → IsAfterNul 0 ys i → IsAfterNul table (xs ++ ys) (table + i)
whole_places xs ys table i len k =
    let a = k.from_name in
    let b = k.past_nul in
    let c = k.in_name in
    record {
      entry = k.entry;
      nul = table + k.nul;
      from_name = omega arith;
      is_nul = slice_get_after xs ys table k.nul len ∙ k.is_nul;
      past_nul = omega arith;
      in_name = omega arith;
    }

whole_places_back : (xs ys : List ℕ) (table i : ℕ) → length xs ≡ table → IsAfterNul table (xs ++ ys) (table + i) → IsAfterNul 0 ys i
whole_places_back xs ys table i len k =
    let a = k.from_name in
    let b = k.past_nul in
    let c = k.in_name in
    let place : table + (k.nul - table) ≡ k.nul = omega arith in
    let is : slice_get ys (k.nul - table) ≡ Some 0 =
    sym (slice_get_after xs ys table (k.nul - table) len) ∙ ap (λ (n : ℕ). slice_get (xs ++ ys) n) place ∙ k.is_nul in
    record { entry = k.entry; nul = k.nul - table; from_name = omega arith; is_nul = is; past_nul = omega arith; in_name = omega arith }

-- the law, one way: the bytes that are read as a file encode it
pub decoded_is_encoded : (bytes : List ℕ) (c : Contents) → AreBytes bytes → decode bytes ≡ Ok c →
    Encodes (take (file_length c.header) bytes) c
decoded_is_encoded bytes c h e =
    let p = decoded_passed bytes c e in
    subst (λ (x : Contents). Encodes (take (file_length x.header) bytes) x) p.is
    (read_encodes (subst (λ (x : Contents). Fits x) (sym p.is) (decoded_fits bytes c e)) p.long)
  where
    read_encodes : Fits (contents_in (header_in bytes) bytes) → file_length (header_in bytes) ≤ length bytes →
        Encodes (take (file_length (header_in bytes)) bytes) (contents_in (header_in bytes) bytes)
    read_encodes f long =
        let hd = header_in bytes in
        let made = contents_in hd bytes in
        let at = symbols_at hd in
        let n = hd.symbol_size / 12 in
        let xs = take at bytes in
        let ys = take hd.symbol_size (drop at bytes) in
        let zs = drop hd.symbol_size (drop at bytes) in
        let count : 12 * n ≡ hd.symbol_size = omega (arith, f.table) in
        let whole : take (file_length hd) bytes ≡ xs ++ ys = take-add at hd.symbol_size bytes in
        let lx : length xs ≡ at = omega (arith, length-take at bytes) in
        let ly : length ys ≡ hd.symbol_size = omega (arith, length-take hd.symbol_size (drop at bytes), length-drop at bytes) in
        let same : symbols_in n ys ≡ made.symbols = sym (symbols_front n ys zs (omega arith))
        ∙ ap (λ (bs : List ℕ). symbols_in n bs) (take-append-drop hd.symbol_size (drop at bytes)) in
        let front : xs ≡ fore made = sym (fore_read bytes h f (omega arith)) in
        let table : AreAlike ys (flat_map symbol_encoding made.symbols) (IsAfterNul 0 ys) =
        subst (λ (ss : List Symbol). AreAlike ys (flat_map symbol_encoding ss) (IsAfterNul 0 ys)) same
        (table_alike n ys (ly ∙ sym count) (bytes_take hd.symbol_size (drop at bytes) (bytes_drop at bytes h))) in
        let alike : AreAlike (xs ++ ys) (fore made ++ flat_map symbol_encoding made.symbols) (IsAfterNul at (xs ++ ys)) =
        alike_both xs ys (fore made) (flat_map symbol_encoding made.symbols) (IsAfterNul at (xs ++ ys)) at lx (length_fore made f)
        (alike_self xs (fore made) (IsAfterNul at (xs ++ ys)) front)
        (alike_more ys (flat_map symbol_encoding made.symbols) (IsAfterNul 0 ys)
        (λ i. IsAfterNul at (xs ++ ys) (at + i)) (λ i lt k. whole_places xs ys at i lx k) table) in
        let encoded : AreAlike (xs ++ ys) (encoding made) (IsAfterNul at (xs ++ ys)) =
        subst (λ (bs : List ℕ). AreAlike (xs ++ ys) bs (IsAfterNul at (xs ++ ys))) (sym (encoding_split made)) alike in
        let len : length (xs ++ ys) ≡ length (encoding made) =
        ap (λ (bs : List ℕ). length bs) (ap (λ (bs : List ℕ). bs ++ ys) front) ∙ omega (
          arith,
          length-append (fore made) ys,
          length-append (fore made) (flat_map symbol_encoding made.symbols),
          ap (λ (bs : List ℕ). length bs) (encoding_split made),
          length-symbols_encoding made.symbols,
          f.table,
        ) in
        subst (λ (bs : List ℕ). Encodes bs made) (sym whole) (record { same_length = len; same_bytes = encoded })

-- what is read does not depend on the table, but for the symbols
read_alike : (xs ys : List ℕ) (c : Contents) (h : Header) → symbols_at h ≡ length xs → contents_in h (xs ++ ys) ≡ c →
    (zs : List ℕ) → contents_in h (xs ++ zs) ≡ record c { symbols = (contents_in h (xs ++ zs)).symbols }
read_alike xs ys c h at e zs =
    let made = contents_in h (xs ++ zs) in
    let add = with_relocation-add h h.text_size h.data_size in
    let T : made.text_words ≡ c.text_words = ap words_in (same_part 16 h.text_size (omega arith)) ∙ ap (λ (x : Contents). x.text_words) e in
    let D : made.data_words ≡ c.data_words =
    ap words_in (same_part (16 + h.text_size) h.data_size (omega arith)) ∙ ap (λ (x : Contents). x.data_words) e in
    let R : made.text_reloc ≡ c.text_reloc = ap relocs_in
    (same_part (relocation_at h) (with_relocation h h.text_size) (omega arith)) ∙ ap (λ (x : Contents). x.text_reloc) e in
    let Q : made.data_reloc ≡ c.data_reloc =
    ap relocs_in (same_part (relocation_at h + with_relocation h h.text_size) (with_relocation h h.data_size) (omega arith))
    ∙ ap (λ (x : Contents). x.data_reloc) e in
    let H : h ≡ c.header = ap (λ (x : Contents). x.header) e in
    λ i. record { header = H i; text_words = T i; data_words = D i; text_reloc = R i; data_reloc = Q i; symbols = made.symbols }
  where
    part_front : (from size : ℕ) (bytes : List ℕ) → from + size ≤ length xs → part from size (xs ++ bytes) ≡ part from size xs
    part_front from size bytes h =
        ap (λ (bs : List ℕ). take size bs) (drop-append-le from xs bytes (omega arith))
        ∙ take-append-le size (drop from xs) bytes (omega (arith, length-drop from xs))

    same_part : (from size : ℕ) → from + size ≤ length xs → part from size (xs ++ zs) ≡ part from size (xs ++ ys)
    same_part from size h = part_front from size zs h ∙ sym (part_front from size ys h)

-- the tests of `decode`, where they all let through
decode_by : (bytes : List ℕ) (c : Contents) → header_in bytes ≡ c.header → Fits c →
    file_length c.header ≤ length bytes → contents_in c.header bytes ≡ c → decode bytes ≡ Ok c
decode_by bytes c e f long is =
    let whole : nat_lt (length bytes) (file_length c.header) ≡ false = le-ltb _ _ long in
    let header : nat_lt (length bytes) 16 ≡ false = le-ltb _ _ (omega arith) in
    ap (λ (h : Header). decode_with h bytes) e
    ∙ rw (header, f.magic, f.sizes, whole) (ap (λ (x : Contents). let r : Result Contents ReadFault = Ok x in r) is)

-- the law, the other way: bytes that encode a sound file, whatever follows them, are read as that file
pub encoded_is_decoded : (bytes rest : List ℕ) (c : Contents) → IsSound c → Encodes bytes c → decode (bytes ++ rest) ≡ Ok c
encoded_is_decoded bytes rest c s e =
    let hd = c.header in
    let at = symbols_at hd in
    let P = fore c in
    let S = flat_map symbol_encoding c.symbols in
    let xs = take at bytes in
    let ys = drop at bytes in
    let lp : length P ≡ at = length_fore c s.fits in
    let ls : length S ≡ 12 * length c.symbols = length-symbols_encoding c.symbols in
    let lb : length bytes ≡ at + 12 * length c.symbols =
    e.same_length ∙ omega (arith, ap (λ (bs : List ℕ). length bs) (encoding_split c), length-append P S) in
    let lx : length xs ≡ at = omega (arith, length-take at bytes) in
    let ly : length ys ≡ 12 * length c.symbols = omega (arith, length-drop at bytes) in
    let alike : AreAlike bytes (P ++ S) (IsAfterNul at bytes) =
    subst (λ (bs : List ℕ). AreAlike bytes bs (IsAfterNul at bytes)) (encoding_split c) e.same_bytes in
    let split : AreAlike (xs ++ ys) (P ++ S) (IsAfterNul at (xs ++ ys)) =
    subst (λ (bs : List ℕ). AreAlike bs (P ++ S) (IsAfterNul at bs)) (sym (take-append-drop at bytes)) alike in
    let front_same : xs ≡ P =
    alike_same xs P (IsAfterNul at (xs ++ ys)) (lx ∙ sym lp) (λ i lt k. not_before_table (xs ++ ys) i (omega arith) k)
    (alike_front xs ys P S (IsAfterNul at (xs ++ ys)) (lx ∙ sym lp) split) in
    let table : symbols_in (length c.symbols) ys ≡ c.symbols = table_read c.symbols ys ly s.symbols
    (alike_more ys S (λ i. IsAfterNul at (xs ++ ys) (at + i)) (IsAfterNul 0 ys) (λ i lt k. whole_places_back xs ys at i lx k)
    (alike_back xs ys P S (IsAfterNul at (xs ++ ys)) at lx lp split)) in
    let text : bytes ++ rest ≡ P ++ (ys ++ rest) = ap (λ (bs : List ℕ). bs ++ rest) (sym (take-append-drop at bytes))
    ∙ append_assoc xs ys rest ∙ ap (λ (bs : List ℕ). bs ++ (ys ++ rest)) front_same in
    let own : encoding c ++ rest ≡ P ++ (S ++ rest) = ap (λ (bs : List ℕ). bs ++ rest) (encoding_split c) ∙ append_assoc P S rest in
    let passed : Passed (P ++ (S ++ rest)) c =
    subst (λ (bs : List ℕ). Passed bs c) own (decoded_passed (encoding c ++ rest) c (decode-encoding c rest s)) in
    let first : header_in (P ++ (S ++ rest)) ≡ hd = ap (λ (x : Contents). x.header) passed.is in
    let again : header_in (P ++ (ys ++ rest)) ≡ hd =
    ap (λ (bs : List ℕ). header_of (words_in bs))
    (take-append-le 16 P (ys ++ rest) (omega arith) ∙ sym (take-append-le 16 P (S ++ rest) (omega arith))) ∙ first in
    let is : contents_in hd (P ++ (S ++ rest)) ≡ c = ap (λ (h : Header). contents_in h (P ++ (S ++ rest))) (sym first) ∙ passed.is in
    let count : hd.symbol_size / 12 ≡ length c.symbols = omega (arith, s.fits.table) in
    let symbols : (contents_in hd (P ++ (ys ++ rest))).symbols ≡ c.symbols =
    ap (λ (n : ℕ). symbols_in n (drop at (P ++ (ys ++ rest)))) count
    ∙ ap (λ (bs : List ℕ). symbols_in (length c.symbols) bs) (drop_at P (ys ++ rest) at lp)
    ∙ symbols_front (length c.symbols) ys rest (omega arith) ∙ table in
    let made : contents_in hd (P ++ (ys ++ rest)) ≡ c =
    read_alike P (S ++ rest) c hd (sym lp) is (ys ++ rest) ∙ ap (λ (ss : List Symbol). record c { symbols = ss }) symbols in
    rw text (decode_by (P ++ (ys ++ rest)) c again s.fits
    (omega (arith, s.fits.table, length-append P (ys ++ rest), length-append ys rest)) made)
  where
    not_before_table : (bs : List ℕ) (i : ℕ) → i < symbols_at c.header → IsAfterNul (symbols_at c.header) bs i → ⊥
    not_before_table bs i lt k = let a = k.from_name in let b = k.past_nul in omega arith

-- what is read of bytes are words and names
words_below : (bytes : List ℕ) → AreBytes bytes → AllByRecursion IsWord (words_in bytes)
words_below [] h = tt
words_below (a ∷ []) h = tt
words_below (a ∷ (b ∷ rest)) h = let low = h.0 in let high = h.1.0 in (omega arith, words_below rest h.1.1)

word_at : (ws : List ℕ) (i : ℕ) → AllByRecursion IsWord ws → IsWord (slice_index ws i)
word_at [] i h = omega arith
word_at (w ∷ ws) zero h = h.0
word_at (w ∷ ws) (suc i) h = word_at ws i h.1

relocs_below : (ws : List ℕ) → AllByRecursion IsWord ws →
    AllByRecursion (λ (r : Reloc). IsWord r.0) (map (λ w. let r : Reloc = record { 0 = w } in r) ws)
relocs_below [] h = tt
relocs_below (w ∷ ws) h = (h.0, relocs_below ws h.1)

bytes_before_nul : (bytes : List ℕ) → AreBytes bytes → AreBytes (before_nul bytes)
bytes_before_nul [] h = tt
bytes_before_nul (b ∷ bs) h = by_test (eqb b 0) (bytes_before_nul bs h.1)
  where
    by_test : (t : Bool) → AreBytes (before_nul bs) → AreBytes (cond t [] (b ∷ before_nul bs))
    by_test true k = tt
    by_test false k = (h.0, k)

symbols_below : (n : ℕ) (bytes : List ℕ) → AreBytes bytes → AllByRecursion IsSymbol (symbols_in n bytes)
symbols_below zero bytes h = tt
symbols_below (suc n) bytes h =
    let x = take 12 bytes in
    let words = words_below (part 8 4 x) (bytes_take 4 (drop 8 x) (bytes_drop 8 x (bytes_take 12 bytes h))) in (
      record {
        name = record {
          short = omega (arith, length-before_nul-le (take 8 x), length-take 8 x);
          no_nul = before_nul-twice (take 8 x);
          bytes = bytes_before_nul (take 8 x) (bytes_take 8 x (bytes_take 12 bytes h));
        };
        type_bits = word_at (words_in (part 8 4 x)) 0 words;
        value = word_at (words_in (part 8 4 x)) 1 words;
      },
      symbols_below n (drop 12 bytes) (bytes_drop 12 bytes h),
    )

-- what is read of bytes is a sound file
pub decoded_sound : (bytes : List ℕ) (c : Contents) → AreBytes bytes → decode bytes ≡ Ok c → IsSound c
decoded_sound bytes c h e =
    let p = decoded_passed bytes c e in
    subst (λ (x : Contents). IsSound x) p.is (read_sound (subst (λ (x : Contents). Fits x) (sym p.is) (decoded_fits bytes c e)))
  where
    part_below : (from size : ℕ) → AllByRecursion IsWord (words_in (part from size bytes))
    part_below from size = words_below (part from size bytes) (bytes_take size (drop from bytes) (bytes_drop from bytes h))

    read_sound : Fits (contents_in (header_in bytes) bytes) → IsSound (contents_in (header_in bytes) bytes)
    read_sound f =
        let hd = header_in bytes in
        let words = words_in (take 16 bytes) in
        let below = words_below (take 16 bytes) (bytes_take 16 bytes h) in
        record {
          fits = f;
          header = record {
            magic = word_at words 0 below;
            text_size = word_at words 1 below;
            data_size = word_at words 2 below;
            bss_size = word_at words 3 below;
            symbol_size = word_at words 4 below;
            entry_point = word_at words 5 below;
            unused = word_at words 6 below;
            flag = word_at words 7 below;
          };
          text_words = part_below 16 hd.text_size;
          data_words = part_below (16 + hd.text_size) hd.data_size;
          text_reloc =
              relocs_below (words_in (part (relocation_at hd) (with_relocation hd hd.text_size) bytes))
              (part_below (relocation_at hd) (with_relocation hd hd.text_size));
          data_reloc =
              relocs_below (words_in (part (relocation_at hd + with_relocation hd hd.text_size) (with_relocation hd hd.data_size) bytes))
              (part_below (relocation_at hd + with_relocation hd hd.text_size) (with_relocation hd hd.data_size));
          symbols = symbols_below (hd.symbol_size / 12) (drop (symbols_at hd) bytes) (bytes_drop (symbols_at hd) bytes h);
        }
