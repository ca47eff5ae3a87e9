-- The law of conversion.
use Rattle.std.proofs.Common.{◌≡◌, ℕ, ◌+◌, ◌/◌, Bool, List, ◌++◌, map, take, drop, length, Option, None, refl, ap, ◌∙◌, subst, rules}
use Rattle.std.proofs.lemmas.List.{take-append-drop}
use Rattle.std.specs.{Prelude.{Result, Ok}}
use Rattle.aout_core.specs.WellFormed.{first_bad_word, first_object_fault}
use Rattle.aout_core.specs.{declared.header.Header.Header, declared.object.ObjectFault.ObjectFault, Contents.Contents, Decoding.header_in}
use Rattle.gnu_objects.specs.GnuRefusals.{sizes_refusal_under, first_refusal, symbol_refusal, first_alike}
use Rattle.gnu_objects.specs.GnuRefusals.{table_refusal, word_refusal}
use Rattle.gnu_objects.specs.Converted.{unless, object_unless, object_of, contents_with, converted_by, converted_with, converted_under}
use Rattle.gnu_objects.specs.{Converted.{renumbered, converted_symbol}, declared.options.Options.Options, declared.refusal.Refusal.Refusal}
use Rattle.gnu_objects.specs.{declared.symbols.GnuSymbol.GnuSymbol, GnuForm.{words_from, symbols_of, strings_of, relocation_of}}
use Rattle.gnu_objects.specs.{Staying.{staying, kept}, Laws.{GnuFile, file_under, IsConversion, ConversionLaw}}
use Rattle.gnu_objects.proofs.ReferenceLemmas.{both_none, bad_split, dropped_split, references}
use Rattle.gnu_objects.proofs.{StayingLemmas.length-staying, StayingLemmas.kept_fused, DistinctLemmas.distinct}

unless_ok : (r : Option Refusal) (x : Result Contents Refusal) (c : Contents) → unless r x ≡ Ok c → (r ≡ None) × (x ≡ Ok c)
unless_ok r x c e = search rules

object_ok : (f : Option ObjectFault) (x c : Contents) → object_unless f x ≡ Ok c → (f ≡ None) × (x ≡ c)
object_ok f x c e = search rules

object_words : (c : Contents) → first_object_fault c ≡ None → first_bad_word c.symbols 0 (c.text_reloc ++ c.data_reloc) ≡ None
object_words c e = search rules

table_parts : (drops : Bool) (h : Header) (strings : List ℕ) (symbols : List GnuSymbol) (words : List ℕ) (flags : List Bool) →
    table_refusal drops h strings symbols words flags ≡ None →
    (first_alike strings symbols ≡ None) × (first_refusal (word_refusal strings symbols flags) 0 words ≡ None)
table_parts drops h strings symbols words flags e =
    let later = both_none (first_refusal (symbol_refusal strings drops) 0 symbols) _ e in
    both_none (first_alike strings symbols) (first_refusal (word_refusal strings symbols flags) 0 words)
    (both_none _ _ (both_none _ _ later.1).1).1

-- a file by its tables
abbrev file_of : List ℕ → Header → List ℕ → List GnuSymbol → List ℕ → GnuFile
file_of bytes h strings symbols words = record {
  header = h;
  text_words = words_from bytes 16 (h.text_size / 2);
  data_words = words_from bytes (16 + h.text_size) (h.data_size / 2);
  relocation = words;
  strings = strings;
  symbols = symbols;
}

of_contents : (o : Options) (bytes : List ℕ) (h : Header) (strings : List ℕ) (symbols : List GnuSymbol) (words : List ℕ)
    (flags : List Bool) →
    flags ≡ staying o.locals strings symbols words → first_alike strings symbols ≡ None → first_refusal (word_refusal strings
    symbols flags) 0 words ≡ None → first_object_fault (contents_with bytes h strings symbols words flags) ≡ None →
    IsConversion o (file_of bytes h strings symbols words) (contents_with bytes h strings symbols words flags)
of_contents o bytes h strings symbols words flags is apart stay whole =
    let g = file_of bytes h strings symbols words in
    let c = contents_with bytes h strings symbols words flags in
    let beside : length flags ≡ length symbols = ap length is ∙ length-staying o.locals strings symbols words in
    let front = take (h.text_size / 2) words in
    let back = drop (h.text_size / 2) words in
    let table : c.symbols ≡ map (converted_symbol strings) (kept flags symbols) = kept_fused (converted_symbol strings) flags symbols in
    let split : first_refusal (word_refusal strings symbols flags) 0 (front ++ back) ≡ None =
    ap (first_refusal (word_refusal strings symbols flags) 0) (take-append-drop (h.text_size / 2) words) ∙ stay in
    let stay_in = dropped_split strings symbols flags 0 front back split in
    let good_in = bad_split c.symbols 0 (map (renumbered flags) front) (map (renumbered flags) back) (object_words c whole) in
    record {
      text_size = refl;
      data_size = refl;
      bss_size = refl;
      text_words = refl;
      data_words = refl;
      text_reloc = references g c flags 0 0 front beside table stay_in.0 good_in.0;
      data_reloc = references g c flags stay_in.1.0 good_in.1.0 back beside table stay_in.1.1 good_in.1.1;
      symbols = table ∙ ap (λ (f : List Bool). map (converted_symbol strings) (kept f symbols)) is;
      names =
          λ m n s t stays_s stays_t ne.
          distinct o.locals strings symbols words apart m n s t stays_s.is stays_t.is stays_s.stays stays_t.stays ne;
    }

of_tables : (o : Options) (bytes : List ℕ) (h : Header) (strings : List ℕ) (symbols : List GnuSymbol) (words : List ℕ)
    (flags : List Bool) (c : Contents) →
    flags ≡ staying o.locals strings symbols words → converted_by o.drops_debugger bytes h strings symbols words flags ≡ Ok c →
    IsConversion o (file_of bytes h strings symbols words) c
of_tables o bytes h strings symbols words flags c is e =
    let made = contents_with bytes h strings symbols words flags in
    let table = unless_ok (table_refusal o.drops_debugger h strings symbols words flags) (object_of made) c e in
    let object = object_ok (first_object_fault made) made c table.1 in
    let last = table_parts o.drops_debugger h strings symbols words flags table.0 in
    subst (λ (x : Contents). IsConversion o (file_of bytes h strings symbols words) x) object.1
    (of_contents o bytes h strings symbols words flags is last.0 last.1 object.0)

of_header : (o : Options) (bytes : List ℕ) (h : Header) (c : Contents) → converted_under o bytes h ≡ Ok c →
    IsConversion o (file_under bytes h) c
of_header o bytes h c e =
    let tables = converted_with o bytes h (strings_of bytes h) (symbols_of bytes h) (relocation_of bytes h) in
    let sized = unless_ok (sizes_refusal_under bytes h) tables c e in
    of_tables o bytes h (strings_of bytes h) (symbols_of bytes h) (relocation_of bytes h)
    (staying o.locals (strings_of bytes h) (symbols_of bytes h) (relocation_of bytes h)) c refl sized.1

pub conversion : ConversionLaw
conversion o bytes c e = of_header o bytes (header_in (take 16 bytes)) c e
