-- The parts of a converted object fit its header.
use Rattle.std.proofs.Common.{◌≡◌, ℕ, ◌+◌, ◌*◌, ◌/◌, ◌%◌, ◌&&◌, ◌==◌, Bool, IsTrue, List, length, rules}
use Rattle.std.proofs.{lemmas.List.{length-map, length-take, length-drop, length-replicate}, lemmas.List.FromFn.length-map-range_with_len}
use Rattle.aout_core.specs.{declared.header.Header.Header, Contents.Fits}
use Rattle.gnu_objects.specs.{GnuForm.{word_at, symbol_at, words_from, symbols_from, relocation_of}, Converted.contents_with}
use Rattle.gnu_objects.specs.{declared.symbols.GnuSymbol.GnuSymbol, Staying.count, internal.Sizes.IsObjectHeader}
use Rattle.gnu_objects.proofs.StayingLemmas.{length-pairs_kept}

pub length-words_from : (bytes : List ℕ) (at count : ℕ) → length (words_from bytes at count) ≡ count
length-words_from bytes at count = length-map-range_with_len (λ n. word_at bytes (at + 2 * n)) 0 count

pub length-symbols_from : (bytes : List ℕ) (at count : ℕ) → length (symbols_from bytes at count) ≡ count
length-symbols_from bytes at count = length-map-range_with_len (λ n. symbol_at bytes (at + 8 * n)) 0 count

pub length-relocation_of : (bytes : List ℕ) (h : Header) → length (relocation_of bytes h) ≡ h.text_size / 2 + h.data_size / 2
length-relocation_of bytes h = search (rules, length-words_from, length-replicate)

whole_sizes : (t d b n : ℕ) → t % 2 ≡ 0 → d % 2 ≡ 0 → b % 2 ≡ 0 →
    IsTrue ((t % 2 == 0) && ((d % 2 == 0) && ((b % 2 == 0) && ((12 * n) % 12 == 0))))
whole_sizes t d b n text «data» bss = search rules

pub contents_fit : (size : ℕ) (bytes : List ℕ) (h : Header) (strings : List ℕ) (symbols : List GnuSymbol)
    (words : List ℕ) (flags : List Bool) →
    IsObjectHeader size h → length words ≡ h.text_size / 2 + h.data_size / 2 → length flags ≡ length symbols →
    Fits (contents_with bytes h strings symbols words flags)
contents_fit size bytes h strings symbols words flags whole many beside = search (
  rules,
  whole_sizes,
  length-words_from,
  length-map,
  length-take,
  length-drop,
  length-pairs_kept,
)

pub ruleset lengths = (length-words_from, length-symbols_from, length-relocation_of)
