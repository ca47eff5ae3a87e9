-- The links and heads of a session: what one addition makes of them, what a list of objects leaves, and how an addition is taken back.
use Rattle.std.specs.Prelude.{◌≡◌, ℕ, ◌-◌, List, [], ◌∷◌, ◌++◌, length, take, drop, replicate, slice_set, None}
use Rattle.aout_core.specs.Contents.{Contents}
use Rattle.link_session.specs.{internal.Chains.{Link, threaded, unthreaded, heads_back, AreChained}, declared.cell.Cell.Cell}
use Rattle.link_session.specs.{declared.state.State.State, declared.state.State.TheVariants.{Defined, Wanted}, declared.mark.Mark.Mark}
use Rattle.link_session.specs.{declared.mark.Place.TheVariants.{InText, InData}, Earlier.with_earlier, Mentions.externals}
use Rattle.link_session.specs.{Image.{Image, image, Named, state_at}, Undo.IsJournalOf}
use Rattle.link_session.specs.{internal.Additions.{own_cells, next_shifts, next_named}, internal.Settled.places_of}

-- the links of text and of data, one for each cell, and the heads, one for each external
pub record Threads : Type 0 where
  pub text_links : List Link
  pub data_links : List Link
  pub heads : List Link

-- the heads once the chain of a name in this state is bound
abbrev pub cut_by_state : State → ℕ → List Link → List Link
cut_by_state (Defined segment offset) k heads = slice_set heads k None
cut_by_state (Wanted size) k heads = heads

-- the heads once the chains of these names are bound, one after the other, as far as the names are defined
abbrev pub cut_heads : Named → List ℕ → List Link → List Link
cut_heads es [] heads = heads
cut_heads es (k ∷ ks) heads = cut_heads es ks (cut_by_state (state_at es k) k heads)

-- the heads of so many externals: the new ones have no chain
abbrev pub grown_heads : ℕ → List Link → List Link
grown_heads n heads = heads ++ replicate (n - length heads) None

-- the threads once these cells of text, or of data, are appended, each in front of its chain
abbrev pub with_texts : List Cell → Threads → Threads
with_texts cs t = record t {
  text_links = t.text_links ++ (threaded (λ i. InText i) (length t.text_links) cs t.heads).0;
  heads = (threaded (λ i. InText i) (length t.text_links) cs t.heads).1;
}

abbrev pub with_datas : List Cell → Threads → Threads
with_datas cs t = record t {
  data_links = t.data_links ++ (threaded (λ i. InData i) (length t.data_links) cs t.heads).0;
  heads = (threaded (λ i. InData i) (length t.data_links) cs t.heads).1;
}

-- the cells of an object that comes next
abbrev pub next_texts : Image → Contents → List Cell
next_texts m o = own_cells (next_named m o) o.symbols (next_shifts m o) (next_shifts m o).text o.text_words o.text_reloc

abbrev pub next_datas : Image → Contents → List Cell
next_datas m o = own_cells (next_named m o) o.symbols (next_shifts m o) (next_shifts m o).data o.data_words o.data_reloc

-- the heads once the names are bound that the object mentions and that are defined, and those once its new names have heads
abbrev pub bound_heads : Image → Contents → List Link → List Link
bound_heads m o heads = cut_heads (next_named m o) (places_of (next_named m o) o.symbols) heads

abbrev pub next_heads : Image → Contents → List Link → List Link
next_heads m o heads = grown_heads (length (next_named m o)) (bound_heads m o heads)

-- the threads with one more object, after this image
abbrev pub next_threads : Image → Contents → Threads → Threads
next_threads m o t = with_datas (next_datas m o) (with_texts (next_texts m o) (record t { heads = next_heads m o t.heads }))

-- the threads of a list of objects, from those of the forced names
abbrev pub threads_from : List (List ℕ) → List (List Contents × Contents) → Threads → Threads
threads_from forced [] t = t
threads_from forced (p ∷ ps) t = threads_from forced ps (next_threads (image forced p.0) p.1 t)

abbrev pub forced_threads : List (List ℕ) → Threads
forced_threads forced = record { text_links = []; data_links = []; heads = replicate (length (externals forced [])) None }

abbrev pub threads_of : List (List ℕ) → List Contents → Threads
threads_of forced os = threads_from forced (with_earlier [] os) (forced_threads forced)

-- the threads hold the chains of the image, and a head for each external
pub record IsThreaded (m : Image) (t : Threads) : Type 0 where
  pub chained : AreChained m.text_cells m.data_cells t.text_links t.data_links t.heads
  pub heads : length t.heads ≡ length m.externals

-- the threads cut to so many cells of text and of data and so many heads: the cells after leave their chains, the last first
abbrev pub cut_threads : ℕ → ℕ → ℕ → Image → Threads → Threads
cut_threads texts datas names m t = record {
  text_links = take texts t.text_links;
  data_links = take datas t.data_links;
  heads =
      take names (unthreaded (drop texts m.text_cells) (drop texts t.text_links)
      (unthreaded (drop datas m.data_cells) (drop datas t.data_links) t.heads));
}

-- the same, and the heads with what the marks bring back
abbrev pub restored_threads : List Mark → ℕ → ℕ → ℕ → Image → Threads → Threads
restored_threads marks texts datas names m t =
    record (cut_threads texts datas names m t) { heads = heads_back marks (cut_threads texts datas names m t).heads }

-- the threads of the new image, once an addition to the old image is taken back
abbrev pub undo_threads : List Mark → Image → Image → Threads → Threads
undo_threads marks new old t = restored_threads marks (length old.text_cells) (length old.data_cells) (length old.externals) new t

-- the marks bring the threads of the objects before back
abbrev pub UndoesThreads : List (List ℕ) → List Mark → List Contents → List Contents → Type 0
UndoesThreads forced marks after before =
    undo_threads marks (image forced after) (image forced before) (threads_of forced after) ≡ threads_of forced before

-- the threads are those of the objects, and each list of marks brings back those before its object
pub record KeepsThreads (forced : List (List ℕ)) (os : List Contents) (journal : List (List Mark)) (t : Threads) : Type 0 where
  pub threads : t ≡ threads_of forced os
  pub undoes : IsJournalOf (UndoesThreads forced) os journal
