-- A header and the bytes after it, put together again.
use Rattle.std.proofs.Common.{◌≡◌, ℕ, ◌+◌, ◌<◌, ◌≤◌, true, false, List, [], ◌++◌, take, drop, length, replicate, Option, Some, None, IfSome}
use Rattle.std.proofs.Common.{refl, sym, ◌∙◌, ap, subst, arith, append_assoc, append-nil, length-append, take_at, drop_at, take_all, le-ltb}
use Rattle.std.proofs.Common.{lt-ltb}
use Rattle.std.specs.Prelude.{Result, Ok, Err, nat_lt}
use Rattle.aout_core.specs.declared.file.ReadFault.TheVariants.{ShortHeader, BadMagic, OddSize, Memory, Truncated, Device}
use Rattle.aout_core.specs.Contents.{Contents, is_magic, has_whole_sizes, Fits}
use Rattle.aout_core.specs.Decoding.{header_of, header_in, contents_in, decode_with, decode}
use Rattle.aout_core.specs.Reading.{IsFileHeader, HasHeader, IsReadOf, LeavesAfter}
use Rattle.aout_core.specs.internal.ReadParts.{TakesHeader, TakesBody, EndsEarly, IsHeaderRead, IsBodyRead}
use Rattle.aout_core.specs.{declared.header.Header.Header, declared.file.ReadFault.ReadFault, Words.words_in, Encoding.file_length}
use Rattle.aout_core.proofs.DecodingLemmas.{contents_in_fits}

-- what is made of a whole body fits
pub body_fits : (h : Header) (body : List ℕ) (c : Contents) → IsFileHeader h → 16 + length body ≡ file_length h →
    ((start rest : List ℕ) → length start ≡ 16 → c ≡ contents_in h (start ++ (body ++ rest))) → Fits c
body_fits h body c good whole encoded =
    let bytes = replicate 16 0 ++ (body ++ []) in
    let long : file_length h ≤ length bytes = omega (arith, length-append (replicate 16 0) (body ++ []), length-append body []) in
    subst Fits (sym (encoded (replicate 16 0) [] refl)) (contents_in_fits h bytes good.magic good.sizes long)

header_front : (start rest : List ℕ) → length start ≡ 16 → header_in (start ++ rest) ≡ header_in start
header_front start rest long =
    let all : take 16 start ≡ start = take_all 16 start (omega arith) in
    ap (λ (bytes : List ℕ). header_of (words_in bytes)) (take_at start rest 16 long ∙ sym all)

-- the text begins with sixteen bytes that encode this header, and the rest stands after them
record Begins (bytes rest : List ℕ) (h : Header) : Type 0 where
  start : List ℕ
  long : length start ≡ 16
  whole : bytes ≡ start ++ rest
  encoded : header_in bytes ≡ h

begins : (bytes rest : List ℕ) (h : Header) → TakesHeader (Some bytes) (Some rest) h → Begins bytes rest h
begins bytes rest h t = record {
  start = t.start;
  long = t.long;
  whole = t.taken;
  encoded = ap header_in t.taken ∙ header_front t.start rest t.long ∙ sym t.encoded;
}

rest_after : (bytes rest : List ℕ) (h : Header) → Begins bytes rest h → rest ≡ drop 16 bytes
rest_after bytes rest h b = sym (ap (drop 16) b.whole ∙ drop_at b.start rest 16 b.long)

length-begins : (bytes rest : List ℕ) (h : Header) → Begins bytes rest h → length bytes ≡ 16 + length rest
length-begins bytes rest h b = ap length b.whole ∙ length-append b.start rest ∙ ap (λ n. n + length rest) b.long

has_sixteen : (bytes rest : List ℕ) (h : Header) → Begins bytes rest h → nat_lt (length bytes) 16 ≡ false
has_sixteen bytes rest h b = le-ltb _ _ (omega (arith, length-begins bytes rest h b))

-- the first that applies, under the header that the text begins with
decode_by : (bytes rest : List ℕ) (h : Header) → Begins bytes rest h → decode bytes ≡ decode_with h bytes
decode_by bytes rest h b = ap (λ (x : Header). decode_with x bytes) b.encoded

bad_magic : (bytes rest : List ℕ) (h : Header) → Begins bytes rest h → is_magic h.magic ≡ false → decode bytes ≡ Err BadMagic
bad_magic bytes rest h b bad = decode_by bytes rest h b ∙ rw (has_sixteen bytes rest h b, bad) refl

odd_size : (bytes rest : List ℕ) (h : Header) → Begins bytes rest h → is_magic h.magic ≡ true →
    has_whole_sizes h ≡ false → decode bytes ≡ Err OddSize
odd_size bytes rest h b magic bad = decode_by bytes rest h b ∙ rw (has_sixteen bytes rest h b, magic, bad) refl

truncated : (bytes rest : List ℕ) (h : Header) → Begins bytes rest h → IsFileHeader h →
    16 + length rest < file_length h → decode bytes ≡ Err Truncated
truncated bytes rest h b good lt =
    let short : nat_lt (length bytes) (file_length h) ≡ true = lt-ltb _ _ (omega (arith, length-begins bytes rest h b)) in
    decode_by bytes rest h b ∙ rw (has_sixteen bytes rest h b, good.magic, good.sizes, short) refl

pub decoded : (bytes : List ℕ) (h : Header) → header_in bytes ≡ h → 16 ≤ length bytes → IsFileHeader h →
    file_length h ≤ length bytes → decode bytes ≡ Ok (contents_in h bytes)
decoded bytes h header long good whole =
    let some : nat_lt (length bytes) 16 ≡ false = le-ltb _ _ long in
    let all : nat_lt (length bytes) (file_length h) ≡ false = le-ltb _ _ whole in
    ap (λ (x : Header). decode_with x bytes) header ∙ rw (some, good.magic, good.sizes, all) refl

whole_file : (bytes rest : List ℕ) (h : Header) → Begins bytes rest h → IsFileHeader h →
    file_length h ≤ 16 + length rest → decode bytes ≡ Ok (contents_in h bytes)
whole_file bytes rest h b good le =
    let size = length-begins bytes rest h b in
    decoded bytes h b.encoded (omega arith) good (omega arith)

-- the end came early: these were all the bytes
early_end : (bytes : List ℕ) (left : Option (List ℕ)) (before size : ℕ) → EndsEarly (Some bytes) left before size →
    (before + length bytes < size) × (left ≡ Some [])
early_end bytes None before size e = absurd e.taken
early_end bytes (Some rest) before size e =
    let same : bytes ≡ e.bytes = e.taken ∙ ap (λ l. e.bytes ++ l) e.end ∙ append-nil e.bytes in
    (subst (λ (l : List ℕ). before + length l < size) (sym same) e.short, ap Some e.end)

short_header : (bytes : List ℕ) → length bytes < 16 → decode bytes ≡ Err ShortHeader
short_header bytes h = let short : nat_lt (length bytes) 16 ≡ true = lt-ltb _ _ h in rw short refl

-- a header that is refused is what the text begins with
pub refused_header : (e : ReadFault) (bytes : List ℕ) (left : Option (List ℕ)) →
    IsHeaderRead (Some bytes) left (Err e) → IsReadOf (Err e) bytes × LeavesAfter (Err e) bytes left
refused_header ShortHeader bytes left r = let end = early_end bytes left 0 16 r in (short_header bytes (omega arith), end.1)
refused_header BadMagic bytes None (h, t, bad) = absurd t.taken
refused_header BadMagic bytes (Some rest) (h, t, bad) =
    let b = begins bytes rest h t in (bad_magic bytes rest h b bad, ap Some (rest_after bytes rest h b))
refused_header OddSize bytes None (h, t, magic, bad) = absurd t.taken
refused_header OddSize bytes (Some rest) (h, t, magic, bad) =
    let b = begins bytes rest h t in (odd_size bytes rest h b magic bad, ap Some (rest_after bytes rest h b))
refused_header (Memory _) bytes left r = absurd r
refused_header Truncated bytes left r = absurd r
refused_header (Device _) bytes left r = (tt, tt)

file_after : (c : Contents) (bytes rest : List ℕ) (left : Option (List ℕ)) (h : Header) → Begins bytes rest h →
    IsFileHeader h → TakesBody h (Some rest) left c → IsReadOf (Ok c) bytes × LeavesAfter (Ok c) bytes left
file_after c bytes rest None h b good t = absurd t.taken
file_after c bytes rest (Some more) h b good t =
    let whole : bytes ≡ b.start ++ (t.body ++ more) = b.whole ∙ ap (λ l. b.start ++ l) t.taken in
    let header : c.header ≡ h = ap (λ (x : Contents). x.header) (t.encoded b.start more b.long) in
    let long : length rest ≡ length t.body + length more = ap length t.taken ∙ length-append t.body more in
    let same : contents_in h bytes ≡ c = ap (contents_in h) whole ∙ sym (t.encoded b.start more b.long) in
    let size : length (b.start ++ t.body) ≡ file_length c.header =
    length-append b.start t.body ∙ ap (λ n. n + length t.body) b.long ∙ t.long ∙ ap file_length (sym header) in
    let after : drop (file_length c.header) bytes ≡ more =
    ap (drop (file_length c.header)) (whole ∙ sym (append_assoc b.start t.body more))
    ∙ drop_at (b.start ++ t.body) more (file_length c.header) size in (
      whole_file bytes rest h b good (omega (arith, t.long)) ∙ ap (λ (x : Contents). let r : Result Contents ReadFault = Ok x in r) same,
      ap Some (sym after),
    )

-- what was read after the header is what the text begins with
pub read_after : (r : Result Contents ReadFault) (bytes : List ℕ) (mid left : Option (List ℕ)) (h : Header) →
    TakesHeader (Some bytes) mid h → IsFileHeader h → IsBodyRead h mid left r → IsReadOf r bytes × LeavesAfter r bytes left
read_after r bytes None left h t good body = absurd t.taken
read_after (Ok c) bytes (Some rest) left h t good body = file_after c bytes rest left h (begins bytes rest h t) good body
read_after (Err ShortHeader) bytes (Some rest) left h t good body = absurd body
read_after (Err BadMagic) bytes (Some rest) left h t good body = absurd body
read_after (Err OddSize) bytes (Some rest) left h t good body = absurd body
read_after (Err (Memory _)) bytes (Some rest) None h t good body = absurd body.0
read_after (Err (Memory _)) bytes (Some rest) (Some more) h t good body =
    let b = begins bytes rest h t in
    let size = length-begins bytes rest h b in
    let header : HasHeader bytes = record { long = omega arith; header = subst IsFileHeader (sym b.encoded) good } in
    ((header, subst (λ (x : Header). 16 < file_length x) (sym b.encoded) body.1), ap Some (body.0 ∙ rest_after bytes rest h b))
read_after (Err Truncated) bytes (Some rest) left h t good body =
    let end = early_end rest left 16 (file_length h) body in
    (truncated bytes rest h (begins bytes rest h t) good end.0, end.1)
read_after (Err (Device _)) bytes (Some rest) left h t good body = (tt, tt)

-- the same where the reader may not tell its bytes
pub refused_if_known : (e : ReadFault) (old left : Option (List ℕ)) → IsHeaderRead old left (Err e) →
    IfSome old (λ bytes. IsReadOf (Err e) bytes × LeavesAfter (Err e) bytes left)
refused_if_known e None left r = tt
refused_if_known e (Some bytes) left r = refused_header e bytes left r

-- a header and a body that were read in turn are the file that the definition reads
pub read_if_known : (r : Result Contents ReadFault) (old mid left : Option (List ℕ)) (h : Header) → TakesHeader old mid h →
    IsFileHeader h → IsBodyRead h mid left r → IfSome old (λ bytes. IsReadOf r bytes × LeavesAfter r bytes left)
read_if_known r None mid left h t good body = tt
read_if_known r (Some bytes) mid left h t good body = read_after r bytes mid left h t good body
