use Rattle.std.proofs.Common.{subst, sym, length}
use Rattle.aout_core.specs.Contents.{Fits}
use Rattle.gnu_objects.proofs.FitsLemmas.{contents_fit}
use Rattle.gnu_objects.proofs.conversion.object_with.Goals as goal

pub from_parts-requires : goal.from_parts-requires
from_parts-requires c =
    let tables = c.args.tables.now in
    subst Fits (sym c.in_ok-parts_with.ensures)
    (contents_fit (length tables.bytes.now) tables.bytes.now tables.header.now tables.strings.now tables.symbols.now
    tables.words.now tables.flags.now tables.whole tables.counted tables.beside)
