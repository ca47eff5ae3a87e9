-- The addresses of a file: where data begins, and what a word refers to. (a.out(5), ld(1))
--
-- Text begins at 0. In a plain file data follows it. Pure text is shared, so data begins at the next multiple of 020000 bytes, the
-- piece that the PDP-11 maps. With split spaces text and data both begin at 0. A word that is relative to the pc has the distance
-- from the address after the word.
use Rattle.std.specs.Prelude.{ℕ, ◌+◌, ◌*◌, ◌/◌, eqb, if◌then◌else◌}
use Rattle.aout_core.specs.{declared.header.Header.Header, declared.reloc.Reloc.Reloc, Words.plus, WellFormed.is_pc_relative}

-- the next multiple of 020000
abbrev pub next_boundary : ℕ → ℕ
next_boundary n = (n + 0o17777) / 0o20000 * 0o20000

-- where data begins, by the magic number and the bytes of text
abbrev pub data_start : ℕ → ℕ → ℕ
data_start magic text_size =
    if eqb magic 0o410 then next_boundary text_size else (if eqb magic 0o411 then 0 else text_size)

abbrev pub data_start_in : Header → ℕ
data_start_in h = data_start h.magic h.text_size

-- what a word at an address refers to if it is relative to the pc
abbrev pub pc_target : ℕ → ℕ → ℕ
pc_target w address = plus (plus w address) 2

-- what a word at an address refers to: an address, or a number
abbrev pub target : Reloc → ℕ → ℕ → ℕ
target r w address = if is_pc_relative r then pc_target w address else w
