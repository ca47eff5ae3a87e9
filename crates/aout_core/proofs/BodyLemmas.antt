-- The bytes after a header, cut into the parts of a file.
use Rattle.std.proofs.Common.{zero, suc, ◌*◌, length-append, take_at, ◌≡◌, ℕ, ◌+◌, ◌/◌, ◌%◌, ◌≤◌, List, [], ◌∷◌, ◌++◌, take, drop, length}
use Rattle.std.proofs.Common.{refl, sym, ◌∙◌, ap, arith, length-drop, append_assoc, drop-drop, drop_at, ◌&&◌, eqb, eqb-true}
use Rattle.std.proofs.{lemmas.List.take-append-drop, lemmas.List.take-append-le, lemmas.List.drop-append-le, lemmas.Bool.and_parts}
use Rattle.std.specs.Prelude.{IsTrue}
use Rattle.aout_core.specs.Contents.{Contents, has_whole_sizes, with_relocation}
use Rattle.aout_core.specs.Decoding.{part, relocs_in, symbol_in, symbols_in, contents_in}
use Rattle.aout_core.specs.{declared.header.Header.Header, declared.reloc.Reloc.Reloc, Words.words_in, Encoding.relocation_at}
use Rattle.aout_core.specs.{Encoding.symbols_at, Encoding.file_length, internal.Rows.row_in, internal.Rows.word_in, internal.Rows.reloc_in}
use Rattle.aout_core.proofs.{EncodingLemmas.with_relocation-add, DecodingLemmas.with_relocation-even, EncodesLemmas.symbols_front}

-- a part of the whole is a part of the bytes after the header
after : (start body rest : List ℕ) (from : ℕ) → length start ≡ 16 → from ≤ length body →
    drop (16 + from) (start ++ (body ++ rest)) ≡ drop from body ++ rest
after start body rest from long within =
    sym (drop-drop from 16 (start ++ (body ++ rest))) ∙ ap (drop from) (drop_at start (body ++ rest) 16 long)
    ∙ drop-append-le from body rest within

part_after : (start body rest : List ℕ) (at from size : ℕ) → length start ≡ 16 → at ≡ 16 + from → from + size ≤ length body →
    part at size (start ++ (body ++ rest)) ≡ take size (drop from body)
part_after start body rest at from size long e within =
    ap (λ n. part n size (start ++ (body ++ rest))) e
    ∙ ap (take size) (after start body rest from long (omega arith))
    ∙ take-append-le size (drop from body) rest (omega (arith, length-drop from body))

-- the parts as they are cut off, one after the other
record IsCut (h : Header) (body text words first second table : List ℕ) : Type 0 where
  pub is_text : text ≡ take h.text_size body
  pub is_words : words ≡ take h.data_size (drop h.text_size body)
  pub is_first : first ≡ take (with_relocation h h.text_size) (drop h.data_size (drop h.text_size body))
  pub is_second : second ≡ take (with_relocation h h.data_size)
      (drop (with_relocation h h.text_size) (drop h.data_size (drop h.text_size body)))
  pub is_table : table ≡ drop (with_relocation h h.data_size)
      (drop (with_relocation h h.text_size) (drop h.data_size (drop h.text_size body)))

table_after : (start body rest : List ℕ) (at from n : ℕ) → length start ≡ 16 → at ≡ 16 + from → from + 12 * n ≤ length body →
    symbols_in n (drop at (start ++ (body ++ rest))) ≡ symbols_in n (drop from body)
table_after start body rest at from n long e within =
    ap (λ k. symbols_in n (drop k (start ++ (body ++ rest)))) e
    ∙ ap (symbols_in n) (after start body rest from long (omega arith))
    ∙ symbols_front n (drop from body) rest (omega (arith, length-drop from body))

contents_in-cut : (h : Header) (start body rest text words first second table : List ℕ) → length start ≡ 16 →
    16 + length body ≡ file_length h → IsCut h body text words first second table →
    (let c : Contents = record {
      header = h;
      text_words = words_in text;
      data_words = words_in words;
      text_reloc = relocs_in first;
      data_reloc = relocs_in second;
      symbols = symbols_in (h.symbol_size / 12) table;
    } in c)
    ≡ contents_in h (start ++ (body ++ rest))
contents_in-cut h start body rest text words first second table long whole cut =
    let both = with_relocation-add h h.text_size h.data_size in
    let twice : drop h.data_size (drop h.text_size body) ≡ drop (h.text_size + h.data_size) body = drop-drop h.data_size h.text_size body in
    let thrice : drop (with_relocation h h.text_size) (drop h.data_size (drop h.text_size body))
    ≡ drop (h.text_size + h.data_size + with_relocation h h.text_size) body =
    ap (drop (with_relocation h h.text_size)) twice ∙ drop-drop (with_relocation h h.text_size) (h.text_size + h.data_size) body in
    let all : drop (with_relocation h h.data_size) (drop (with_relocation h h.text_size) (drop h.data_size (drop h.text_size body)))
    ≡ drop (h.text_size + h.data_size + with_relocation h h.text_size + with_relocation h h.data_size) body =
    ap (drop (with_relocation h h.data_size)) thrice
    ∙ drop-drop (with_relocation h h.data_size) (h.text_size + h.data_size + with_relocation h h.text_size) body in
    let a : words_in text ≡ words_in (part 16 h.text_size (start ++ (body ++ rest))) =
    ap words_in (cut.is_text ∙ sym (part_after start body rest 16 0 h.text_size long (omega arith) (omega arith))) in
    let b : words_in words ≡ words_in (part (16 + h.text_size) h.data_size (start ++ (body ++ rest))) =
    ap words_in (cut.is_words
    ∙ sym (part_after start body rest (16 + h.text_size) h.text_size h.data_size long (omega arith) (omega arith))) in
    let c : relocs_in first ≡ relocs_in (part (relocation_at h) (with_relocation h h.text_size) (start ++ (body ++ rest))) =
    ap relocs_in (cut.is_first ∙ ap (take (with_relocation h h.text_size)) twice ∙ sym (part_after start body rest
    (relocation_at h) (h.text_size + h.data_size) (with_relocation h h.text_size) long (omega arith) (omega arith))) in
    let d : relocs_in second
    ≡ relocs_in (part (relocation_at h + with_relocation h h.text_size) (with_relocation h h.data_size) (start ++ (body ++ rest))) =
    ap relocs_in (cut.is_second ∙ ap (take (with_relocation h h.data_size)) thrice
    ∙ sym (part_after start body rest (relocation_at h + with_relocation h h.text_size) (h.text_size + h.data_size
    + with_relocation h h.text_size) (with_relocation h h.data_size) long (omega arith) (omega arith))) in
    let e : symbols_in (h.symbol_size / 12) table ≡ symbols_in (h.symbol_size / 12) (drop (symbols_at h) (start ++ (body ++ rest))) =
    ap (symbols_in (h.symbol_size / 12)) (cut.is_table ∙ all)
    ∙ sym (table_after start body rest (symbols_at h) (h.text_size + h.data_size + with_relocation h h.text_size
    + with_relocation h h.data_size) (h.symbol_size / 12) long (omega arith) (omega arith)) in
    λ i. record { header = h; text_words = a i; data_words = b i; text_reloc = c i; data_reloc = d i; symbols = e i }

-- a row of things as it was read, one by one
row_words : (n : ℕ) (bytes : List ℕ) → length bytes ≡ 2 * n → row_in word_in 2 n bytes ≡ words_in bytes
row_words zero [] whole = refl
row_words zero (a ∷ rest) whole = absurd (omega arith)
row_words (suc n) [] whole = absurd (omega arith)
row_words (suc n) (a ∷ []) whole = absurd (omega arith)
row_words (suc n) (a ∷ (b ∷ rest)) whole = ap (λ ws. (a + 256 * b) ∷ ws) (row_words n rest (omega arith))

row_relocs : (n : ℕ) (bytes : List ℕ) → length bytes ≡ 2 * n → row_in reloc_in 2 n bytes ≡ relocs_in bytes
row_relocs zero [] whole = refl
row_relocs zero (a ∷ rest) whole = absurd (omega arith)
row_relocs (suc n) [] whole = absurd (omega arith)
row_relocs (suc n) (a ∷ []) whole = absurd (omega arith)
row_relocs (suc n) (a ∷ (b ∷ rest)) whole =
    ap (λ rs. (let r : Reloc = record { 0 = a + 256 * b } in r) ∷ rs) (row_relocs n rest (omega arith))

row_symbols : (n : ℕ) (bytes : List ℕ) → row_in symbol_in 12 n bytes ≡ symbols_in n bytes
row_symbols zero bytes = refl
row_symbols (suc n) bytes = ap (λ ss. symbol_in (take 12 bytes) ∷ ss) (row_symbols n (drop 12 bytes))

-- the lists as they were read, and the bytes that they were read from
pub record AreRows (h : Header) (text words first second table : List ℕ) (c : Contents) : Type 0 where
  pub header : c.header ≡ h
  pub has_text : c.text_words ≡ row_in word_in 2 (h.text_size / 2) text
  pub has_words : c.data_words ≡ row_in word_in 2 (h.data_size / 2) words
  pub has_first : c.text_reloc ≡ row_in reloc_in 2 (with_relocation h h.text_size / 2) first
  pub has_second : c.data_reloc ≡ row_in reloc_in 2 (with_relocation h h.data_size / 2) second
  pub has_table : c.symbols ≡ row_in symbol_in 12 (h.symbol_size / 12) table
  pub text_size : length text ≡ 2 * (h.text_size / 2)
  pub data_size : length words ≡ 2 * (h.data_size / 2)
  pub first_size : length first ≡ 2 * (with_relocation h h.text_size / 2)
  pub second_size : length second ≡ 2 * (with_relocation h h.data_size / 2)
  pub table_size : length table ≡ 12 * (h.symbol_size / 12)

record AreWhole (h : Header) : Type 0 where
  text : h.text_size % 2 ≡ 0
  words : h.data_size % 2 ≡ 0
  first : with_relocation h h.text_size % 2 ≡ 0
  second : with_relocation h h.data_size % 2 ≡ 0
  table : h.symbol_size % 12 ≡ 0

are_whole : (h : Header) → IsTrue (has_whole_sizes h) → AreWhole h
are_whole h sizes =
    let p = and_parts (eqb (h.text_size % 2) 0) (eqb (h.data_size % 2) 0 && (eqb (h.bss_size % 2) 0 && eqb (h.symbol_size % 12) 0)) sizes in
    let q = and_parts (eqb (h.data_size % 2) 0) (eqb (h.bss_size % 2) 0 && eqb (h.symbol_size % 12) 0) p.1 in
    let r = and_parts (eqb (h.bss_size % 2) 0) (eqb (h.symbol_size % 12) 0) q.1 in
    let t : h.text_size % 2 ≡ 0 = eqb-true (h.text_size % 2) 0 p.0 in
    let d : h.data_size % 2 ≡ 0 = eqb-true (h.data_size % 2) 0 q.0 in
    record {
      text = t;
      words = d;
      first = with_relocation-even h h.text_size t;
      second = with_relocation-even h h.data_size d;
      table = eqb-true (h.symbol_size % 12) 0 r.1;
    }

-- all that was read, in one
abbrev pub all_rows : List ℕ → List ℕ → List ℕ → List ℕ → List ℕ → List ℕ
all_rows text words first second table = text ++ (words ++ (first ++ (second ++ table)))

rows_cut : (h : Header) (text words first second table : List ℕ) → length text ≡ h.text_size → length words ≡ h.data_size →
    length first ≡ with_relocation h h.text_size → length second ≡ with_relocation h h.data_size →
    IsCut h (all_rows text words first second table) text words first second table
rows_cut h text words first second table t d f s =
    let from_second = second ++ table in
    let from_first = first ++ from_second in
    let from_words = words ++ from_first in
    let after_text : drop h.text_size (text ++ from_words) ≡ from_words = drop_at text from_words h.text_size t in
    let after_words : drop h.data_size (drop h.text_size (text ++ from_words)) ≡ from_first =
    ap (drop h.data_size) after_text ∙ drop_at words from_first h.data_size d in
    let a = with_relocation h h.text_size in
    let b = with_relocation h h.data_size in
    let after_first : drop a (drop h.data_size (drop h.text_size (text ++ from_words))) ≡ from_second =
    ap (drop a) after_words ∙ drop_at first from_second a f in
    record {
      is_text = sym (take_at text from_words h.text_size t);
      is_words = sym (ap (take h.data_size) after_text ∙ take_at words from_first h.data_size d);
      is_first = sym (ap (take a) after_words ∙ take_at first from_second a f);
      is_second = sym (ap (take b) after_first ∙ take_at second table b s);
      is_table = sym (ap (drop b) after_first ∙ drop_at second table b s);
    }

length-all_rows : (text words first second table : List ℕ) → length (all_rows text words first second table)
    ≡ length text + (length words + (length first + (length second + length table)))
length-all_rows text words first second table =
    omega (
      arith,
      length-append text (words ++ (first ++ (second ++ table))),
      length-append words (first ++ (second ++ table)),
      length-append first (second ++ table),
      length-append second table,
    )

-- a file whose lists were read so is the one that the bytes encode after their header
pub rows_are_body : (h : Header) (text words first second table : List ℕ) (c : Contents) → IsTrue (has_whole_sizes h) →
    AreRows h text words first second table c →
    (16 + length (all_rows text words first second table) ≡ file_length h)
    × ((start rest : List ℕ) → length start ≡ 16 → c ≡ contents_in h (start ++ (all_rows text words first second table ++ rest)))
rows_are_body h text words first second table c sizes rows =
    let w = are_whole h sizes in
    let wt = w.text in
    let wd = w.words in
    let wf = w.first in
    let ws = w.second in
    let wy = w.table in
    let t : length text ≡ h.text_size = rows.text_size ∙ omega arith in
    let d : length words ≡ h.data_size = rows.data_size ∙ omega arith in
    let f : length first ≡ with_relocation h h.text_size = rows.first_size ∙ omega arith in
    let s : length second ≡ with_relocation h h.data_size = rows.second_size ∙ omega arith in
    let y : length table ≡ h.symbol_size = rows.table_size ∙ omega arith in
    let whole : 16 + length (all_rows text words first second table) ≡ file_length h =
    omega (arith, length-all_rows text words first second table, with_relocation-add h h.text_size h.data_size) in
    let e1 = rows.header in
    let e2 : c.text_words ≡ words_in text = rows.has_text ∙ row_words (h.text_size / 2) text rows.text_size in
    let e3 : c.data_words ≡ words_in words = rows.has_words ∙ row_words (h.data_size / 2) words rows.data_size in
    let e4 : c.text_reloc ≡ relocs_in first = rows.has_first ∙ row_relocs (with_relocation h h.text_size / 2) first rows.first_size in
    let e5 : c.data_reloc ≡ relocs_in second = rows.has_second ∙ row_relocs (with_relocation h h.data_size / 2) second rows.second_size in
    let e6 : c.symbols ≡ symbols_in (h.symbol_size / 12) table = rows.has_table ∙ row_symbols (h.symbol_size / 12) table in
    let made : c ≡ (let x : Contents = record {
      header = h;
      text_words = words_in text;
      data_words = words_in words;
      text_reloc = relocs_in first;
      data_reloc = relocs_in second;
      symbols = symbols_in (h.symbol_size / 12) table;
    } in x) =
    λ i. record { header = e1 i; text_words = e2 i; data_words = e3 i; text_reloc = e4 i; data_reloc = e5 i; symbols = e6 i } in (
      whole,
      λ start rest long. made ∙ contents_in-cut h start (all_rows text words first second table) rest text words first
          second table long whole (rows_cut h text words first second table t d f s),
    )

-- bytes that were split at a place
pub split_there : (n : ℕ) (bytes front back : List ℕ) → front ≡ take n bytes → back ≡ drop n bytes → bytes ≡ front ++ back
split_there n bytes front back f b = sym ((λ i. f i ++ b i) ∙ take-append-drop n bytes)

joined : (one two rest later bytes : List ℕ) → bytes ≡ one ++ later → later ≡ two ++ rest → bytes ≡ (one ++ two) ++ rest
joined one two rest later bytes e h = e ∙ ap (λ l. one ++ l) h ∙ sym (append_assoc one two rest)

-- the same for a whole file that was split into its parts
pub rows_are_file : (h : Header) (bytes start body text r1 words r2 first r3 second r4 table rest : List ℕ) (c : Contents) →
    IsTrue (has_whole_sizes h) → AreRows h text words first second table c → length start ≡ 16 → bytes ≡ start ++ body →
    body ≡ text ++ r1 → r1 ≡ words ++ r2 → r2 ≡ first ++ r3 → r3 ≡ second ++ r4 → r4 ≡ table ++ rest → c ≡ contents_in h bytes
rows_are_file h bytes start body text r1 words r2 first r3 second r4 table rest c sizes rows long e0 e1 e2 e3 e4 e5 =
    let from_second = joined second table rest r4 r3 e4 e5 in
    let from_first = joined first (second ++ table) rest r3 r2 e3 from_second in
    let from_words = joined words (first ++ (second ++ table)) rest r2 r1 e2 from_first in
    let whole = joined text (words ++ (first ++ (second ++ table))) rest r1 body e1 from_words in
    let (size, encoded) = rows_are_body h text words first second table c sizes rows in
    encoded start rest long ∙ ap (contents_in h) (sym (e0 ∙ ap (λ l. start ++ l) whole))
