-- What is encoded is read.
use Rattle.std.proofs.Common.{◌≡◌, ℕ, zero, suc, ◌+◌, ◌*◌, ◌/◌, ◌%◌, ◌≤◌, Bool, true, false, cond, eqb, List, [], ◌∷◌, ◌++◌, take, drop}
use Rattle.std.proofs.Common.{replicate, length, refl, sym, ◌∙◌, ap, subst, arith, append_assoc, length-append, length-take, take_at}
use Rattle.std.proofs.Common.{drop_at, le-ltb}
use Rattle.std.specs.{Prelude.Result, Prelude.Ok, Prelude.nat_lt, List.flat_map, List.AllByRecursion}
use Rattle.aout_core.specs.Encoding.{header_encoding, reloc_encoding, symbol_encoding, file_length, encoding}
use Rattle.aout_core.specs.Decoding.{part, header_in, relocs_in, symbol_in, symbols_in, contents_in, decode_with, decode}
use Rattle.aout_core.specs.{declared.header.Header.Header, declared.reloc.Reloc.Reloc, declared.symbol.Symbol.Symbol}
use Rattle.aout_core.specs.{declared.file.ReadFault.ReadFault, Words.word_bytes, Words.all_word_bytes, Words.words_in, Names.before_nul}
use Rattle.aout_core.specs.{Names.padded, Names.IsName, Contents.Contents, Contents.with_relocation, Contents.IsSymbol, Contents.IsSound}

-- the two bytes of a word give the word
pub word_back : (w : ℕ) → w % 256 + 256 * (w / 256) ≡ w
word_back w = omega arith

pub words_in-all_word_bytes : (ws : List ℕ) → words_in (all_word_bytes ws) ≡ ws
words_in-all_word_bytes [] = refl
words_in-all_word_bytes (w ∷ ws) = rw (word_back w, words_in-all_word_bytes ws) refl

-- these count the bytes of a part of a file: two for a word
pub length-all_word_bytes : (ws : List ℕ) → length (all_word_bytes ws) ≡ 2 * length ws
length-all_word_bytes [] = refl
length-all_word_bytes (w ∷ ws) = omega (arith, length-all_word_bytes ws)

pub relocs_in-reloc_encoding : (rs : List Reloc) → relocs_in (reloc_encoding rs) ≡ rs
relocs_in-reloc_encoding [] = refl
relocs_in-reloc_encoding (r ∷ rs) = rw (word_back r.0) (ap (λ (xs : List Reloc). r ∷ xs) (relocs_in-reloc_encoding rs))

-- two for a relocation word
pub length-reloc_encoding : (rs : List Reloc) → length (reloc_encoding rs) ≡ 2 * length rs
length-reloc_encoding [] = refl
length-reloc_encoding (r ∷ rs) = omega (arith, length-reloc_encoding rs)

-- 16 for a header
pub length-header_encoding : (h : Header) → length (header_encoding h) ≡ 16
length-header_encoding h = refl

pub header_back : (h : Header) (rest : List ℕ) → header_in (header_encoding h ++ rest) ≡ h
header_back h rest =
    rw (
      word_back h.magic,
      word_back h.text_size,
      word_back h.data_size,
      word_back h.bss_size,
      word_back h.symbol_size,
      word_back h.entry_point,
      word_back h.unused,
      word_back h.flag,
    ) refl

-- the bytes before the first NUL of a name that ends in NULs
before_nul-zeros : (n m : ℕ) → before_nul (take n (replicate m 0)) ≡ []
before_nul-zeros zero m = refl
before_nul-zeros (suc n) zero = refl
before_nul-zeros (suc n) (suc m) = refl

-- a name without a NUL does not begin with one, and its rest has none
pub nul_free_head : (b : ℕ) (bs : List ℕ) (t : Bool) → cond t [] (b ∷ before_nul bs) ≡ b ∷ bs → (t ≡ false) × (before_nul bs ≡ bs)
nul_free_head b bs true e = absurd (cc)
nul_free_head b bs false e = (refl, cc)

pub before_nul-padded : (n m : ℕ) (name : List ℕ) → length name ≤ n → before_nul name ≡ name →
    before_nul (take n (name ++ replicate m 0)) ≡ name
before_nul-padded n m [] short no_nul = before_nul-zeros n m
before_nul-padded zero m (b ∷ bs) short no_nul = absurd (omega arith)
before_nul-padded (suc n) m (b ∷ bs) short no_nul =
    let free = nul_free_head b bs (eqb b 0) no_nul in
    let short' : length bs ≤ n = omega arith in
    rw (free.0, before_nul-padded n m bs short' free.1) refl

-- eight for a name
pub length-padded : (name : List ℕ) → length (padded name) ≡ 8
length-padded name = omega (arith, length-take 8 (name ++ replicate 8 0), length-append name (replicate 8 0))

-- 12 for a symbol
pub length-symbol_encoding : (s : Symbol) → length (symbol_encoding s) ≡ 12
length-symbol_encoding s = omega (arith, length-padded s.name, length-append (padded s.name) (word_bytes s.type_bits ++ word_bytes s.value))

-- a piece of a text, found at its place
pub part_at : (before piece after : List ℕ) (from size : ℕ) → length before ≡ from → length piece ≡ size →
    part from size (before ++ (piece ++ after)) ≡ piece
part_at before piece after from size b p = rw (drop_at before (piece ++ after) from b) (take_at piece after size p)

pub symbol_back : (s : Symbol) → IsName s.name → symbol_in (symbol_encoding s) ≡ s
symbol_back s n =
    let name : before_nul (take 8 (symbol_encoding s)) ≡ s.name =
    rw (take_at (padded s.name) (word_bytes s.type_bits ++ word_bytes s.value) 8 (length-padded s.name))
    (before_nul-padded 8 8 s.name n.short n.no_nul) in
    let words : part 8 4 (symbol_encoding s) ≡ word_bytes s.type_bits ++ word_bytes s.value =
    rw (drop_at (padded s.name) (word_bytes s.type_bits ++ word_bytes s.value) 8 (length-padded s.name)) refl in
    rw (name, words, word_back s.type_bits, word_back s.value) refl

pub symbols_back : (ss : List Symbol) (rest : List ℕ) → AllByRecursion IsSymbol ss →
    symbols_in (length ss) (flat_map symbol_encoding ss ++ rest) ≡ ss
symbols_back [] rest h = refl
symbols_back (s ∷ ss) rest h =
    let split : flat_map symbol_encoding (s ∷ ss) ++ rest ≡ symbol_encoding s ++ (flat_map symbol_encoding ss ++ rest) =
    append_assoc (symbol_encoding s) (flat_map symbol_encoding ss) rest in
    let head = take_at (symbol_encoding s) (flat_map symbol_encoding ss ++ rest) 12 (length-symbol_encoding s) in
    let tail = drop_at (symbol_encoding s) (flat_map symbol_encoding ss ++ rest) 12 (length-symbol_encoding s) in
    subst (λ (bytes : List ℕ). symbol_in (take 12 bytes) ∷ symbols_in (length ss) (drop 12 bytes) ≡ s ∷ ss) (sym split)
    (rw (head, tail, symbol_back s h.0.name, symbols_back ss rest h.1) refl)

-- and so many for a table
pub length-symbols_encoding : (ss : List Symbol) → length (flat_map symbol_encoding ss) ≡ 12 * length ss
length-symbols_encoding [] = refl
length-symbols_encoding (s ∷ ss) =
    omega (arith, length-symbol_encoding s, length-symbols_encoding ss, length-append (symbol_encoding s) (flat_map symbol_encoding ss))

-- where the six pieces of a text lie
record Laid (bytes T D R Q S rest : List ℕ) (t d r q : ℕ) : Type 0 where
  texts : part 16 t bytes ≡ T
  datas : part (16 + t) d bytes ≡ D
  first : part (16 + (t + d)) r bytes ≡ R
  second : part (16 + (t + d) + r) q bytes ≡ Q
  last : drop (16 + (t + d) + (r + q)) bytes ≡ S ++ rest

laid : (H T D R Q S rest : List ℕ) (t d r q : ℕ) → length H ≡ 16 → length T ≡ t → length D ≡ d → length R ≡ r → length Q ≡ q →
    Laid ((H ++ (T ++ (D ++ (R ++ (Q ++ S))))) ++ rest) T D R Q S rest t d r q
laid H T D R Q S rest t d r q hh ht hd hr hq = record {
  texts = rw texts (part_at H T _ 16 t hh ht);
  datas = rw datas (part_at (H ++ T) D _ (16 + t) d (omega (arith, length-append H T)) hd);
  first = rw first (part_at (H ++ (T ++ D)) R _ (16 + (t + d)) r (omega (arith, length-append H (T ++ D), length-append T D)) hr);
  second =
      rw second (part_at (H ++ (T ++ (D ++ R))) Q _ (16 + (t + d) + r) q
      (omega (arith, length-append H (T ++ (D ++ R)), length-append T (D ++ R), length-append D R)) hq);
  last =
      rw last (drop_at (H ++ (T ++ (D ++ (R ++ Q)))) (S ++ rest) (16 + (t + d) + (r + q)) (omega (
        arith,
        length-append H (T ++ (D ++ (R ++ Q))),
        length-append T (D ++ (R ++ Q)),
        length-append D (R ++ Q),
        length-append R Q,
      )));
}
  where
    texts : (H ++ (T ++ (D ++ (R ++ (Q ++ S))))) ++ rest ≡ H ++ (T ++ (D ++ (R ++ (Q ++ (S ++ rest)))))
    texts = simp append_assoc

    datas : (H ++ (T ++ (D ++ (R ++ (Q ++ S))))) ++ rest ≡ (H ++ T) ++ (D ++ (R ++ (Q ++ (S ++ rest))))
    datas = simp append_assoc

    first : (H ++ (T ++ (D ++ (R ++ (Q ++ S))))) ++ rest ≡ (H ++ (T ++ D)) ++ (R ++ (Q ++ (S ++ rest)))
    first = simp append_assoc

    second : (H ++ (T ++ (D ++ (R ++ (Q ++ S))))) ++ rest ≡ (H ++ (T ++ (D ++ R))) ++ (Q ++ (S ++ rest))
    second = simp append_assoc

    last : (H ++ (T ++ (D ++ (R ++ (Q ++ S))))) ++ rest ≡ (H ++ (T ++ (D ++ (R ++ Q)))) ++ (S ++ rest)
    last = simp append_assoc

-- the relocation of text and of data together
pub with_relocation-add : (h : Header) (a b : ℕ) → with_relocation h (a + b) ≡ with_relocation h a + with_relocation h b
with_relocation-add h a b = by_flag (eqb h.flag 0)
  where
    by_flag : (t : Bool) → cond t (a + b) 0 ≡ cond t a 0 + cond t b 0
    by_flag true = refl
    by_flag false = refl

contents_back : (c : Contents) (rest : List ℕ) → IsSound c → contents_in c.header (encoding c ++ rest) ≡ c
contents_back c rest s =
    let h = c.header in
    let at = laid (header_encoding h) (all_word_bytes c.text_words) (all_word_bytes c.data_words)
    (reloc_encoding c.text_reloc) (reloc_encoding c.data_reloc)
    (flat_map symbol_encoding c.symbols) rest h.text_size h.data_size (with_relocation h h.text_size) (with_relocation h h.data_size)
    refl
    (omega (arith, length-all_word_bytes c.text_words, s.fits.text))
    (omega (arith, length-all_word_bytes c.data_words, s.fits.data))
    (omega (arith, length-reloc_encoding c.text_reloc, s.fits.text_relocation))
    (omega (arith, length-reloc_encoding c.data_reloc, s.fits.data_relocation)) in
    let count : h.symbol_size / 12 ≡ length c.symbols = omega (arith, s.fits.table) in
    rw (
      at.texts,
      at.datas,
      at.first,
      at.second,
      with_relocation-add h h.text_size h.data_size,
      at.last,
      count,
      words_in-all_word_bytes c.text_words,
      words_in-all_word_bytes c.data_words,
      symbols_back c.symbols rest s.symbols,
    )
    (let first = relocs_in-reloc_encoding c.text_reloc in let second = relocs_in-reloc_encoding c.data_reloc in rw (first, second) refl)

-- the bytes of all parts of a file
pub length-parts : (c : Contents) → length (encoding c)
    ≡ 16 + 2 * (length c.text_words + length c.data_words + (length c.text_reloc + length c.data_reloc)) + 12 * length c.symbols
length-parts c =
    let h = c.header in
    let T = all_word_bytes c.text_words in
    let D = all_word_bytes c.data_words in
    let R = reloc_encoding c.text_reloc in
    let Q = reloc_encoding c.data_reloc in
    let S = flat_map symbol_encoding c.symbols in
    omega (
      arith,
      length-append (header_encoding h) (T ++ (D ++ (R ++ (Q ++ S)))),
      length-append T (D ++ (R ++ (Q ++ S))),
      length-append D (R ++ (Q ++ S)),
      length-append R (Q ++ S),
      length-append Q S,
      length-header_encoding h,
      length-all_word_bytes c.text_words,
      length-all_word_bytes c.data_words,
      length-reloc_encoding c.text_reloc,
      length-reloc_encoding c.data_reloc,
      length-symbols_encoding c.symbols,
    )

length-encoding : (c : Contents) → IsSound c → length (encoding c) ≡ file_length c.header
length-encoding c s =
    let h = c.header in
    omega (
      arith,
      length-parts c,
      s.fits.text,
      s.fits.data,
      s.fits.text_relocation,
      s.fits.data_relocation,
      s.fits.table,
      with_relocation-add h h.text_size h.data_size,
    )

-- the law: the encoding of a sound file, whatever follows it, is read as that file
pub decode-encoding : (c : Contents) (rest : List ℕ) → IsSound c → decode (encoding c ++ rest) ≡ Ok c
decode-encoding c rest s =
    let h = c.header in
    let long : length (encoding c ++ rest) ≡ file_length h + length rest =
    omega (arith, length-append (encoding c) rest, length-encoding c s) in
    let whole : nat_lt (length (encoding c ++ rest)) (file_length h) ≡ false = le-ltb _ _ (omega arith) in
    let header : nat_lt (length (encoding c ++ rest)) 16 ≡ false = le-ltb _ _ (omega arith) in
    ap (λ (h : Header). decode_with h (encoding c ++ rest)) (header_back h (all_word_bytes c.text_words ++ (all_word_bytes c.data_words
    ++ (reloc_encoding c.text_reloc ++ (reloc_encoding c.data_reloc ++ flat_map symbol_encoding c.symbols))) ++ rest))
    ∙ rw (header, s.fits.magic, s.fits.sizes, whole)
    (ap (λ (x : Contents). let r : Result Contents ReadFault = Ok x in r) (contents_back c rest s))
