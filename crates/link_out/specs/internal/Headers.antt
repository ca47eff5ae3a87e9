-- The header as it follows from the addresses of the segments, from so many rows and from the entry word.
use Rattle.std.specs.Prelude.{ℕ, ◌-◌, ◌*◌, cond}
use Rattle.aout_core.specs.declared.header.Header.{Header}
use Rattle.tool_options.specs.Choices.{Choices}
use Rattle.link_out.specs.Layouts.{Bases, magic_of}

abbrev pub header_of : Choices → Bases → ℕ → ℕ → Header
header_of o b rows entry = record {
  magic = magic_of o.layout;
  text_size = b.text_end;
  data_size = b.data_end - b.data_start;
  bss_size = b.bss_end - b.data_end;
  symbol_size = 12 * rows;
  entry_point = entry;
  unused = 0;
  flag = cond o.relocatable 0 1;
}
