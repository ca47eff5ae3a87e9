-- What is read fits, and its encoding is what was read, but for what stood in names after a NUL.
use Rattle.std.proofs.Common.{◌≡◌, ℕ, zero, suc, ◌+◌, ◌*◌, ◌/◌, ◌%◌, ◌≤◌, Bool, true, false, cond, not, ◌&&◌, eqb, List, [], ◌∷◌, drop}
use Rattle.std.proofs.Common.{length, refl, ap, subst, arith, length-take, length-drop, eqb-true, ltb-false}
use Rattle.std.proofs.{lemmas.Bool.and_parts, lemmas.List.length-map}
use Rattle.std.specs.Prelude.{Ok, Err, nat_lt}
use Rattle.aout_core.specs.declared.file.ReadFault.TheVariants.{ShortHeader, BadMagic, OddSize, Truncated}
use Rattle.aout_core.specs.Contents.{Contents, is_magic, has_whole_sizes, with_relocation, Fits}
use Rattle.aout_core.specs.Encoding.{relocation_at, symbols_at, file_length}
use Rattle.aout_core.specs.Decoding.{part, header_in, relocs_in, symbols_in, contents_in, decode}
use Rattle.aout_core.specs.{declared.header.Header.Header, declared.reloc.Reloc.Reloc, Words.words_in}
use Rattle.aout_core.proofs.EncodingLemmas.{with_relocation-add}

-- what `decode` let through: its four tests, and the file
pub record Passed (bytes : List ℕ) (c : Contents) : Type 0 where
  pub is : contents_in (header_in bytes) bytes ≡ c
  pub magic : is_magic (header_in bytes).magic ≡ true
  pub sizes : has_whole_sizes (header_in bytes) ≡ true
  pub long : file_length (header_in bytes) ≤ length bytes

-- what is read has passed each test of the reader
pub decoded_passed : (bytes : List ℕ) (c : Contents) → decode bytes ≡ Ok c → Passed bytes c
decoded_passed bytes c h =
    by_tests (nat_lt (length bytes) 16) (is_magic (header_in bytes).magic) refl (has_whole_sizes (header_in bytes)) refl
    (nat_lt (length bytes) (file_length (header_in bytes))) refl h
  where
    by_tests : (a m : Bool) → is_magic (header_in bytes).magic ≡ m → (s : Bool) →
        has_whole_sizes (header_in bytes) ≡ s → (l : Bool) → nat_lt (length bytes) (file_length (header_in bytes)) ≡ l →
        cond a (Err ShortHeader) (cond (not m) (Err BadMagic)
        (cond (not s) (Err OddSize) (cond l (Err Truncated) (Ok (contents_in (header_in bytes) bytes))))) ≡ Ok c →
        Passed bytes c
    by_tests true m em s es l el h = absurd (cc)
    by_tests false false em s es l el h = absurd (cc)
    by_tests false true em false es l el h = absurd (cc)
    by_tests false true em true es true el h = absurd (cc)
    by_tests false true em true es false el h =
        record { is = cc; magic = em; sizes = es; long = ltb-false (length bytes) (file_length (header_in bytes)) el }

pub length-words_in : (bytes : List ℕ) → length bytes % 2 ≡ 0 → 2 * length (words_in bytes) ≡ length bytes
length-words_in [] h = refl
length-words_in (a ∷ []) h = absurd (omega arith)
length-words_in (a ∷ (b ∷ rest)) h = let more : length rest % 2 ≡ 0 = omega arith in omega (arith, length-words_in rest more)

length-part : (from size : ℕ) (bytes : List ℕ) → from + size ≤ length bytes → length (part from size bytes) ≡ size
length-part from size bytes h = omega (arith, length-take size (drop from bytes), length-drop from bytes)

length-symbols_in : (n : ℕ) (bytes : List ℕ) → length (symbols_in n bytes) ≡ n
length-symbols_in zero bytes = refl
length-symbols_in (suc n) bytes = ap (λ (k : ℕ). suc k) (length-symbols_in n (drop 12 bytes))

-- so many bytes of a part, read as words
words_fit : (from size : ℕ) (bytes : List ℕ) → from + size ≤ length bytes → size % 2 ≡ 0 →
    2 * length (words_in (part from size bytes)) ≡ size
words_fit from size bytes h e =
    let l = length-part from size bytes h in
    let even : length (part from size bytes) % 2 ≡ 0 = omega arith in
    omega (arith, length-words_in (part from size bytes) even)

relocs_fit : (from size : ℕ) (bytes : List ℕ) → from + size ≤ length bytes → size % 2 ≡ 0 →
    2 * length (relocs_in (part from size bytes)) ≡ size
relocs_fit from size bytes h e =
    let m : length (relocs_in (part from size bytes)) ≡ length (words_in (part from size bytes)) =
    length-map (words_in (part from size bytes)) (λ w. let r : Reloc = record { 0 = w } in r) in
    omega (arith, words_fit from size bytes h e)

-- relocation is of whole words
pub with_relocation-even : (h : Header) (n : ℕ) → n % 2 ≡ 0 → with_relocation h n % 2 ≡ 0
with_relocation-even h n e = by_flag (eqb h.flag 0)
  where
    by_flag : (t : Bool) → cond t n 0 % 2 ≡ 0
    by_flag true = e
    by_flag false = refl

-- the file that is read fits
pub contents_in_fits : (h : Header) (bytes : List ℕ) → is_magic h.magic ≡ true → has_whole_sizes h ≡ true →
    file_length h ≤ length bytes → Fits (contents_in h bytes)
contents_in_fits h bytes magic sizes long =
    let p = and_parts (eqb (h.text_size % 2) 0) (eqb (h.data_size % 2) 0 && (eqb (h.bss_size % 2) 0 && eqb (h.symbol_size % 12) 0)) sizes in
    let q = and_parts (eqb (h.data_size % 2) 0) (eqb (h.bss_size % 2) 0 && eqb (h.symbol_size % 12) 0) p.1 in
    let r = and_parts (eqb (h.bss_size % 2) 0) (eqb (h.symbol_size % 12) 0) q.1 in
    let t : h.text_size % 2 ≡ 0 = eqb-true (h.text_size % 2) 0 p.0 in
    let d : h.data_size % 2 ≡ 0 = eqb-true (h.data_size % 2) 0 q.0 in
    let s : h.symbol_size % 12 ≡ 0 = eqb-true (h.symbol_size % 12) 0 r.1 in
    let add = with_relocation-add h h.text_size h.data_size in
    record {
      magic = magic;
      sizes = sizes;
      text = words_fit 16 h.text_size bytes (omega arith) t;
      «data» = words_fit (16 + h.text_size) h.data_size bytes (omega arith) d;
      text_relocation =
          relocs_fit (relocation_at h) (with_relocation h h.text_size) bytes (omega arith) (with_relocation-even h h.text_size t);
      data_relocation =
          relocs_fit (relocation_at h + with_relocation h h.text_size) (with_relocation h h.data_size) bytes
          (omega arith) (with_relocation-even h h.data_size d);
      table = omega (arith, length-symbols_in (h.symbol_size / 12) (drop (symbols_at h) bytes));
    }

-- what is read is a file
pub decoded_fits : (bytes : List ℕ) (c : Contents) → decode bytes ≡ Ok c → Fits c
decoded_fits bytes c h =
    let p = decoded_passed bytes c h in
    subst (λ (x : Contents). Fits x) p.is (contents_in_fits (header_in bytes) bytes p.magic p.sizes p.long)
