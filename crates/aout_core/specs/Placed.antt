-- The words of a file, each with its address in memory, its byte in the file, and its relocation word. (a.out(5))
use Rattle.std.specs.Prelude.{ℕ, ◌+◌, ◌*◌, List, [], ◌∷◌, slice_get, slice_index}
use Rattle.aout_core.specs.{declared.header.Header.Header, declared.part.Part.Part, declared.reloc.Reloc.Reloc}
use Rattle.aout_core.specs.{declared.part.Part.TheVariants.Text, declared.part.Part.TheVariants.Data}
use Rattle.aout_core.specs.{declared.placed.PlacedWord.PlacedWord, Contents.Contents, Words.plus, Addresses.data_start_in}

abbrev pub words_of : Contents → Part → List ℕ
words_of c Text = c.text_words
words_of c Data = c.data_words

abbrev pub relocs_of : Contents → Part → List Reloc
relocs_of c Text = c.text_reloc
relocs_of c Data = c.data_reloc

-- the address of the first word of a part, and its byte in the file
abbrev pub start_of : Header → Part → ℕ
start_of h Text = 0
start_of h Data = data_start_in h

abbrev pub place_of : Header → Part → ℕ
place_of h Text = 16
place_of h Data = 16 + h.text_size

-- word number n of a part
abbrev pub placed_word : Contents → Part → ℕ → PlacedWord
placed_word c part n = record {
  part = part;
  number = n;
  address = plus (start_of c.header part) (2 * n);
  place = place_of c.header part + 2 * n;
  reloc_place = place_of c.header part + 2 * n + (c.header.text_size + c.header.data_size);
  word = slice_index (words_of c part) n;
  reloc = slice_get (relocs_of c part) n;
}

-- the words of a part from number n on
abbrev pub placed_from : Contents → Part → ℕ → List ℕ → List PlacedWord
placed_from c part n [] = []
placed_from c part n (w ∷ ws) = placed_word c part n ∷ placed_from c part (n + 1) ws

abbrev pub placed_words : Contents → Part → List PlacedWord
placed_words c part = placed_from c part 0 (words_of c part)
