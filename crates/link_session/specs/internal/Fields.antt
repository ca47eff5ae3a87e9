-- The fields of a session: the image that they hold, the links and heads, and what is true of them between calls.
use Rattle.std.specs.{Prelude.{◌≡◌, ℕ, ◌+◌, ◌*◌, ◌≤◌, List, [], ◌++◌, map, drop, length, None, vec_capacity}, List.AllByRecursion}
use Rattle.aout_core.specs.Contents.{Contents}
use Rattle.link_session.specs.internal.Chains.{Link, unthreaded, heads_back, AreChained}
use Rattle.link_session.specs.internal.Threads.{Threads, IsThreaded, KeepsThreads, grown_heads, with_texts, with_datas, cut_threads}
use Rattle.link_session.specs.{declared.cell.Cell.Cell, declared.mark.Mark.Mark, declared.relocate.Shifts.Shifts}
use Rattle.link_session.specs.{declared.merged.Merged.Merged, declared.merged.Sizes.Sizes, declared.session.UndoRecord.UndoRecord}
use Rattle.link_session.specs.{Earlier.with_earlier, Labelled.Labelled, Labelled.objects, Image.Image, Image.image, Undo.IsJournal}
use Rattle.link_session.specs.{Undo.marks_in, internal.Additions.own_cells, internal.Counts.NotesBound, internal.Restores.LeavesMarks}
use Rattle.link_session.specs.{Limits.limit_passed, Sessions.IsObject}

abbrev pub image_in : Merged → Image
image_in m = record {
  text_cells = m.text_cells.items;
  data_cells = m.data_cells.items;
  bss_total = m.bss_total;
  externals = m.externals.entries;
  multiples = m.multiples.items;
}

abbrev pub threads_in : Merged → Threads
threads_in m = record { text_links = m.text_links.items; data_links = m.data_links.items; heads = m.heads.items }

-- the links and heads hold the chains of the cells
abbrev pub HoldsChains : Merged → Type 0
HoldsChains m = AreChained m.text_cells.items m.data_cells.items m.text_links.items m.data_links.items m.heads.items

-- marks were appended that bring the old cells and heads back
abbrev pub LeavesMarksIn : Merged → Merged → List Mark → List Mark → Type 0
LeavesMarksIn m n old new =
    LeavesMarks m.text_cells.items m.data_cells.items m.heads.items n.text_cells.items n.data_cells.items n.heads.items old new

-- one more mark for each cell that was to be bound and no longer is
abbrev pub NotesBoundIn : Merged → Merged → List Mark → List Mark → Type 0
NotesBoundIn m n old new =
    NotesBound m.externals.entries m.text_cells.items m.data_cells.items n.text_cells.items n.data_cells.items old new

-- the threads of no cells and no names
abbrev pub no_threads : Threads
no_threads = record { text_links = []; data_links = []; heads = [] }

abbrev pub sizes_of : Image → Sizes
sizes_of m = record {
  text_cells = length m.text_cells;
  data_cells = length m.data_cells;
  bss_total = m.bss_total;
  externals = length m.externals;
  multiples = length m.multiples;
}

-- so many cells are there at least, and one link for each cell
pub record HasAtLeast (s : Sizes) (m : Image) (t : Threads) : Type 0 where
  pub text : s.text_cells ≤ length m.text_cells
  pub «data» : s.data_cells ≤ length m.data_cells
  pub text_links : length t.text_links ≡ length m.text_cells
  pub data_links : length t.data_links ≡ length m.data_cells

-- the threads once the cells after these sizes leave their chains, the last first
abbrev pub unthreaded_after : Sizes → Image → Threads → Threads
unthreaded_after s m t = record t {
  heads =
      unthreaded (drop s.text_cells m.text_cells) (drop s.text_cells t.text_links)
      (unthreaded (drop s.data_cells m.data_cells) (drop s.data_cells t.data_links) t.heads);
}

-- the threads cut to these sizes
abbrev pub threads_by : Sizes → Image → Threads → Threads
threads_by s m t = cut_threads s.text_cells s.data_cells s.externals m t

-- the threads once marks are put back
abbrev pub with_heads_back : List Mark → Threads → Threads
with_heads_back marks t = record t { heads = heads_back marks t.heads }

-- the same image with other cells, and the same threads with other heads
abbrev pub with_cells : List Cell → List Cell → Image → Image
with_cells texts datas m = record m { text_cells = texts; data_cells = datas }

abbrev pub with_heads : List Link → Threads → Threads
with_heads heads t = record t { heads = heads }

-- an object's cells and its bss appended, once its names are entered
abbrev pub with_own_cells : Image → Contents → Shifts → Image
with_own_cells m o shifts = record m {
  text_cells = m.text_cells ++ own_cells m.externals o.symbols shifts shifts.text o.text_words o.text_reloc;
  data_cells = m.data_cells ++ own_cells m.externals o.symbols shifts shifts.data o.data_words o.data_reloc;
  bss_total = m.bss_total + o.header.bss_size;
}

-- the threads then
abbrev pub with_own_threads : Image → Contents → Shifts → Threads → Threads
with_own_threads m o shifts t =
    with_datas (own_cells m.externals o.symbols shifts shifts.data o.data_words o.data_reloc)
    (with_texts (own_cells m.externals o.symbols shifts shifts.text o.text_words o.text_reloc)
    (with_heads (grown_heads (length m.externals) t.heads) t))

-- there is memory for as many cells, links and heads as before
pub record KeepsCapacity (old new : Merged) : Type 0 where
  pub text : vec_capacity old.text_cells ≤ vec_capacity new.text_cells
  pub «data» : vec_capacity old.data_cells ≤ vec_capacity new.data_cells
  pub text_links : vec_capacity old.text_links ≤ vec_capacity new.text_links
  pub data_links : vec_capacity old.data_links ≤ vec_capacity new.data_links
  pub heads : vec_capacity old.heads ≤ vec_capacity new.heads

abbrev pub sizes_in : UndoRecord → Sizes
sizes_in s = s.sizes

-- the sizes of the images that the objects were added to
abbrev pub sizes_before : List (List ℕ) → List Contents → List Sizes
sizes_before forced os = map (λ p. sizes_of (image forced p.0)) (with_earlier [] os)

-- the image keeps the limits
pub record IsSmall (m : Image) : Type 0 where
  pub text : 2 * length m.text_cells ≤ 65534
  pub «data» : 2 * length m.data_cells ≤ 65534
  pub bss : m.bss_total ≤ 65534
  pub names : length m.externals ≤ 65535

-- the fields hold the image of the objects, and each undo record undoes its object
pub record IsSession (forced : List (List ℕ)) (entries : List Labelled) (undo_records : List UndoRecord) (m : Image)
    (t : Threads) : Type 0 where
  pub image : m ≡ image forced (objects entries)
  pub threads : KeepsThreads forced (objects entries) (map marks_in undo_records) t
  pub chained : IsThreaded m t
  pub journal : IsJournal forced (objects entries) (map marks_in undo_records)
  pub sizes : map sizes_in undo_records ≡ sizes_before forced (objects entries)
  pub good : AllByRecursion IsObject (objects entries)
  pub within : limit_passed forced (objects entries) ≡ None
