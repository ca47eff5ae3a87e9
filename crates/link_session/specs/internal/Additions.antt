-- How an image takes in one more object: its mentions, one after the other, then the cells that they bind, then its own cells.
use Rattle.std.specs.Prelude.{ℕ, ◌+◌, ◌*◌, Bool, false, true, ◌&&◌, cond, if◌then◌else◌, nat_eq, nat_lt, List, [], ◌∷◌, ◌++◌, map, zip}
use Rattle.std.specs.{Prelude.{filter, length, Option, Some, None, slice_get, slice_index_or}, Cmp.Lexicographic.pointwise, Map.keys_of}
use Rattle.indexmap.specs.IndexMap.{insert_entry}
use Rattle.aout_core.specs.WellFormed.{is_external, segment_of, kind_of, is_pc_relative, symbol_number}
use Rattle.aout_core.specs.{declared.symbol.Symbol.Symbol, declared.symbol.Segment.Segment, declared.reloc.Reloc.Reloc}
use Rattle.aout_core.specs.{declared.reloc.Kind.Kind, Contents.Contents, Words.plus, Words.minus}
use Rattle.aout_core.specs.declared.symbol.Segment.TheVariants as segments
use Rattle.aout_core.specs.declared.reloc.Kind.TheVariants as kinds
use Rattle.link_session.specs.{Cells.{segment_target, name_target, name_in, offset_in, if_pc}, declared.cell.Cell.Cell}
use Rattle.link_session.specs.{declared.cell.Target.Target, declared.state.State.State, declared.state.State.TheVariants.{Defined, Wanted}}
use Rattle.link_session.specs.{declared.mark.Mark.Mark, declared.mark.Mark.TheVariants.StateWas, declared.mark.Place.Place}
use Rattle.link_session.specs.{declared.mark.Place.TheVariants.{InText, InData}, declared.relocate.Shifts.Shifts}
use Rattle.link_session.specs.declared.entry.AddFault.{AddFault}
use Rattle.link_session.specs.declared.entry.AddFault.TheVariants.{TextFull, DataFull, BssFull, NamesFull}
use Rattle.link_session.specs.{Mentions.{Mention, statement_by, place_of}, Starts.shift_by, Image.{Image, Named, state_at}}
use Rattle.link_session.specs.internal.Updates.{updated_state, clashes}
use Rattle.link_session.specs.declared.cell.Target.TheVariants as targets
use Rattle.tool_options.specs.NameLists.{new_names}

abbrev pub place_in : Named → List ℕ → ℕ
place_in es name = place_of name (keys_of es)

abbrev pub state_for : Named → List ℕ → State
state_for es name = state_at es (place_in es name)

abbrev pub mention_of : List ℕ → State → Mention
mention_of name says = record { name = name; says = says }

-- the names after one more mention, and after several
abbrev pub with_mention : Named → Mention → Named
with_mention es m = insert_entry (pointwise nat_eq) es m.name (updated_state (state_for es m.name) m.says)

abbrev pub with_mentions : Named → List Mention → Named
with_mentions es [] = es
with_mentions es (m ∷ ms) = with_mentions (with_mention es m) ms

-- a mention changes the state
abbrev pub changes : State → State → Bool
changes (Wanted size) (Wanted more) = nat_lt size more
changes (Wanted size) (Defined segment offset) = true
changes (Defined segment offset) says = false

-- the marks that mentions leave: the states that they overwrite, of the names that were there before the object
abbrev pub state_mark : ℕ → Named → Mention → List Mark
state_mark kept es m =
    cond (nat_lt (place_in es m.name) kept && changes (state_for es m.name) m.says)
    (StateWas (place_in es m.name) (state_for es m.name) ∷ []) []

abbrev pub state_marks : ℕ → Named → List Mention → List Mark
state_marks kept es [] = []
state_marks kept es (m ∷ ms) = state_mark kept es m ++ state_marks kept (with_mention es m) ms

-- the names that mentions define once more, and differently
abbrev pub clash : Named → Mention → List (List ℕ)
clash es m = cond (clashes (state_for es m.name) m.says) (m.name ∷ []) []

abbrev pub all_clashes : Named → List Mention → List (List ℕ)
all_clashes es [] = []
all_clashes es (m ∷ ms) = clash es m ++ all_clashes (with_mention es m) ms

-- the cell, bound, if it waits for a name that is defined
abbrev pub bound_by : State → Cell → Option Cell
bound_by (Defined segment offset) c = Some (record c { value = plus c.value offset; target = segment_target segment })
bound_by (Wanted size) c = None

abbrev pub binding_at : Named → Target → Cell → Option Cell
binding_at es (targets.External i) c = bound_by (state_at es i) c
binding_at es _ c = None

abbrev pub binding : Named → Cell → Option Cell
binding es c = binding_at es c.target c

abbrev pub bound_or : Option Cell → Cell → Cell
bound_or None c = c
bound_or (Some b) c = b

abbrev pub settled_cell : Named → Cell → Cell
settled_cell es c = bound_or (binding es c) c

abbrev pub place_at : Segment → ℕ → Place
place_at segments.DataSeg i = InData i
place_at _ i = InText i

abbrev pub mention_by : Shifts → Symbol → Mention
mention_by shifts s = mention_of s.name (statement_by (shift_by shifts) (segment_of s) s.value)

abbrev pub mentions_by : Shifts → List Symbol → List Mention
mentions_by shifts symbols = map (mention_by shifts) (filter is_external symbols)

-- what is added to a word, and its target
abbrev pub reference : Named → List Symbol → Shifts → ℕ → Option Kind → ℕ × Target
reference es symbols shifts number (Some kinds.TextSeg) = (shifts.text, targets.TextSeg)
reference es symbols shifts number (Some kinds.DataSeg) = (shifts.data, targets.DataSeg)
reference es symbols shifts number (Some kinds.BssSeg) = (shifts.bss, targets.BssSeg)
reference es symbols shifts number (Some kinds.External) = (
  offset_in (state_for es (name_in (slice_get symbols number))),
  name_target (state_for es (name_in (slice_get symbols number))) (place_in es (name_in (slice_get symbols number))),
)
reference es symbols shifts number _ = (0, targets.Absolute)

abbrev pub own_cell : Named → List Symbol → Shifts → ℕ → ℕ → Reloc → Cell
own_cell es symbols shifts own_shift w r = record {
  value = minus (plus w (reference es symbols shifts (symbol_number r) (kind_of r)).0) (if_pc r own_shift);
  target = (reference es symbols shifts (symbol_number r) (kind_of r)).1;
  pc = is_pc_relative r;
}

abbrev pub own_cells : Named → List Symbol → Shifts → ℕ → List ℕ → List Reloc → List Cell
own_cells es symbols shifts own_shift words relocs =
    map (λ (wr : ℕ × Reloc). own_cell es symbols shifts own_shift wr.0 wr.1) (zip words relocs)

-- the number that a list of places has for a symbol that is not external
abbrev pub no_place : ℕ
no_place = 65535

-- the place of the name of each symbol that is external
abbrev pub place_by : Named → Symbol → ℕ
place_by es s = cond (is_external s) (place_in es s.name) no_place

abbrev pub all_places : Named → List Symbol → List ℕ
all_places es symbols = map (place_by es) symbols

-- what is added to a word, its target and its cell, by the places of the symbols
abbrev pub placed_reference : Named → List ℕ → Shifts → ℕ → Option Kind → ℕ × Target
placed_reference es places shifts number (Some kinds.TextSeg) = (shifts.text, targets.TextSeg)
placed_reference es places shifts number (Some kinds.DataSeg) = (shifts.data, targets.DataSeg)
placed_reference es places shifts number (Some kinds.BssSeg) = (shifts.bss, targets.BssSeg)
placed_reference es places shifts number (Some kinds.External) = (
  offset_in (state_at es (slice_index_or places number no_place)),
  name_target (state_at es (slice_index_or places number no_place)) (slice_index_or places number no_place),
)
placed_reference es places shifts number _ = (0, targets.Absolute)

abbrev pub placed_cell : Named → List ℕ → Shifts → ℕ → ℕ → Reloc → Cell
placed_cell es places shifts own_shift w r = record {
  value = minus (plus w (placed_reference es places shifts (symbol_number r) (kind_of r)).0) (if_pc r own_shift);
  target = (placed_reference es places shifts (symbol_number r) (kind_of r)).1;
  pc = is_pc_relative r;
}

abbrev pub placed_cells : Named → List ℕ → Shifts → ℕ → List ℕ → List Reloc → List Cell
placed_cells es places shifts own_shift words relocs =
    map (λ (wr : ℕ × Reloc). placed_cell es places shifts own_shift wr.0 wr.1) (zip words relocs)

-- what is added to the addresses of an object that comes next
abbrev pub next_shifts : Image → Contents → Shifts
next_shifts m o = record {
  text = minus (2 * length m.text_cells) 0;
  «data» = minus (2 * length m.data_cells) o.header.text_size;
  bss = minus m.bss_total (plus o.header.text_size o.header.data_size);
}

abbrev pub next_mentions : Image → Contents → List Mention
next_mentions m o = mentions_by (next_shifts m o) o.symbols

abbrev pub next_named : Image → Contents → Named
next_named m o = with_mentions m.externals (next_mentions m o)

-- the image with one more object
abbrev pub joined_image : Image → Contents → Image
joined_image m o = record {
  text_cells =
      map (settled_cell (next_named m o)) m.text_cells
      ++ own_cells (next_named m o) o.symbols (next_shifts m o) (next_shifts m o).text o.text_words o.text_reloc;
  data_cells =
      map (settled_cell (next_named m o)) m.data_cells
      ++ own_cells (next_named m o) o.symbols (next_shifts m o) (next_shifts m o).data o.data_words o.data_reloc;
  bss_total = m.bss_total + o.header.bss_size;
  externals = next_named m o;
  multiples = m.multiples ++ all_clashes m.externals (next_mentions m o);
}

-- the names of the external symbols
abbrev pub external_names : List Symbol → List (List ℕ)
external_names symbols = map (λ (s : Symbol). s.name) (filter is_external symbols)

-- how many names the symbols add to these
abbrev pub new_count : List (List ℕ) → List Symbol → ℕ
new_count seen symbols = length (new_names seen (external_names symbols))

-- the first limit that the image passes with one more object
abbrev pub next_limit : Image → Contents → Option AddFault
next_limit m o =
    if nat_lt 65534 (2 * length m.text_cells + o.header.text_size) then Some TextFull
    else (if nat_lt 65534 (2 * length m.data_cells + o.header.data_size) then Some DataFull
    else (if nat_lt 65534 (m.bss_total + o.header.bss_size) then Some BssFull
    else (if nat_lt 65535 (length m.externals + new_count (keys_of m.externals) o.symbols) then Some NamesFull
    else None)))

-- the image once the mentions are entered, but no cell is bound yet
abbrev pub entered : Image → Contents → Image
entered m o = record m { externals = next_named m o; multiples = m.multiples ++ all_clashes m.externals (next_mentions m o) }
