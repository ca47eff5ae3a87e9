-- What binding makes of an image: its cells and heads by the states of names, and what stays.
use Rattle.std.specs.Prelude.{◌≡◌, ℕ, List, [], ◌∷◌, ◌++◌, map, length}
use Rattle.link_session.specs.internal.Chains.{Link, EndsWithin, IsBoundTo, IsWithin, cell_at, text_bound_at, data_bound_at}
use Rattle.link_session.specs.internal.Fields.{image_in, threads_in, with_cells, with_heads, KeepsCapacity}
use Rattle.link_session.specs.{declared.bind.Definition.Definition, declared.cell.Cell.Cell, declared.mark.Mark.Mark}
use Rattle.link_session.specs.{declared.mark.Mark.TheVariants.CellWas, declared.mark.Place.Place, declared.merged.Merged.Merged}
use Rattle.link_session.specs.{Image.Named, Image.state_at, internal.Settled.settled_at, internal.Threads.cut_by_state}

-- what is bound: the cells of text and of data, and the heads of the chains
pub record Bindable : Type 0 where
  pub texts : List Cell
  pub datas : List Cell
  pub heads : List Link

abbrev pub bindable_in : Merged → Bindable
bindable_in m = record { texts = m.text_cells.items; datas = m.data_cells.items; heads = m.heads.items }

-- nothing else changes
pub record KeepsRest (old new : Merged) : Type 0 where
  pub image : image_in new ≡ with_cells new.text_cells.items new.data_cells.items (image_in old)
  pub threads : threads_in new ≡ with_heads new.heads.items (threads_in old)
  pub capacity : KeepsCapacity old new

-- the place is that of a cell
abbrev pub IsPlaceIn : Merged → Place → Type 0
IsPlaceIn m place = IsWithin (length m.text_cells.items) (length m.data_cells.items) place

-- the cell at a place is bound and marked
pub record BindsAt (to : Definition) (place : Place) (old new : Merged) (marks new_marks : List Mark) : Type 0 where
  pub texts : new.text_cells.items ≡ text_bound_at place to.segment to.offset old.text_cells.items
  pub datas : new.data_cells.items ≡ data_bound_at place to.segment to.offset old.data_cells.items
  pub marked : new_marks ≡ marks ++ CellWas place (cell_at old.text_cells.items old.data_cells.items place) ∷ []
  pub heads : new.heads.items ≡ old.heads.items
  pub rest : KeepsRest old new

-- the chain that begins here ends, and stays inside the cells
abbrev pub IsChainIn : Merged → Link → Type 0
IsChainIn m head = EndsWithin m.text_links.items m.data_links.items head (length m.text_cells.items) (length m.data_cells.items)

-- it is bound and marked to a link
pub record BindsTo (to : Definition) (head next : Link) (old new : Merged) (marks new_marks : List Mark) : Type 0 where
  pub bound : IsBoundTo old.text_links.items old.data_links.items head next to.segment to.offset
      old.text_cells.items old.data_cells.items marks new.text_cells.items new.data_cells.items new_marks
  pub heads : new.heads.items ≡ old.heads.items
  pub rest : KeepsRest old new

-- once the chain of an external is bound, if that is defined
abbrev pub settled : Named → ℕ → Bindable → Bindable
settled es k b = record {
  texts = map (settled_at es k) b.texts;
  datas = map (settled_at es k) b.datas;
  heads = cut_by_state (state_at es k) k b.heads;
}

-- the same of several externals, one after the other
abbrev pub settled_all : Named → List ℕ → Bindable → Bindable
settled_all es [] b = b
settled_all es (k ∷ ks) b = settled_all es ks (settled es k b)

abbrev pub IsSettled : List ℕ → Merged → Merged → Type 0
IsSettled ks old new = bindable_in new ≡ settled_all old.externals.entries ks (bindable_in old)
