-- The cells of an object's own words of one segment, and their links.
use Rattle.std.specs.Prelude.{ℕ, List, length}
use Rattle.aout_core.specs.declared.reloc.Reloc.{Reloc}
use Rattle.link_session.specs.{declared.cell.Cell.Cell, declared.relocate.Scope.Scope, declared.relocate.Words.Words, Starts.shift_by}
use Rattle.link_session.specs.{internal.Additions.placed_cells, internal.Additions.place_at, internal.Chains.Link, internal.Chains.threaded}

-- the cells of these words of a segment with this shift
abbrev pub cells_in_scope : Scope → ℕ → List ℕ → List Reloc → List Cell
cells_in_scope scope own_shift words relocs = placed_cells scope.externals.now.entries scope.places.now scope.shifts own_shift words relocs

-- the cells of all the words
abbrev pub own_placed : Scope → Words → List Cell
own_placed scope own = cells_in_scope scope (shift_by scope.shifts own.segment) own.words.now own.relocs.now

-- the links of such cells, after these links, and the heads then
abbrev pub own_threaded : Words → List Cell → List Link → List Link → List Link × List Link
own_threaded own cells links heads = threaded (place_at own.segment) (length links) cells heads
