use Rattle.std.proofs.Common.{rules}
use Rattle.command_words.proofs.block_reader.BlockReader.next_byte.Goals as goal

pub returns-clause-byte : goal.returns-clause-byte
returns-clause-byte g c = search rules

pub returns-clause-held : goal.returns-clause-held
returns-clause-held g c = search rules
