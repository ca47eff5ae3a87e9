-- Cells once the chains of several names are bound, one after the other.
use Rattle.std.specs.Prelude.{◌≡◌, ℕ, cond, List, [], ◌∷◌, map}
use Rattle.aout_core.specs.{declared.symbol.Symbol.Symbol, Contents.Contents}
use Rattle.link_session.specs.internal.Additions.{bound_by, bound_or, settled_cell, place_in, external_names, next_named}
use Rattle.link_session.specs.{declared.cell.Cell.Cell, Image.Image, Image.Named, Image.state_at, internal.Chains.waits_at}

-- the cell once the chain of the external is bound, if that is defined
abbrev pub settled_at : Named → ℕ → Cell → Cell
settled_at es k c = cond (waits_at k c.target) (bound_or (bound_by (state_at es k) c) c) c

abbrev pub settled_over : Named → List ℕ → Cell → Cell
settled_over es [] c = c
settled_over es (k ∷ ks) c = settled_over es ks (settled_at es k c)

-- the places of the names that these symbols mention
abbrev pub places_of : Named → List Symbol → List ℕ
places_of es symbols = map (place_in es) (external_names symbols)

-- to bind the names that the object mentions is to settle all cells of the image
pub record IsCovered (m : Image) (o : Contents) : Type 0 where
  pub text : map (settled_over (next_named m o) (places_of (next_named m o) o.symbols)) m.text_cells
      ≡ map (settled_cell (next_named m o)) m.text_cells
  pub «data» : map (settled_over (next_named m o) (places_of (next_named m o) o.symbols)) m.data_cells
      ≡ map (settled_cell (next_named m o)) m.data_cells
