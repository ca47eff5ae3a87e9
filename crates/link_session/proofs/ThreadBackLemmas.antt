-- An addition that is taken back leaves the threads that there were.
use Rattle.std.proofs.Common.{◌≡◌, ℕ, zero, suc, List, [], ◌∷◌, ◌++◌, map, take, drop, length, refl, ap, ◌∙◌, arith, rules}
use Rattle.std.proofs.lemmas.List.{length-map, take_at, take_all}
use Rattle.aout_core.specs.Contents.{Contents}
use Rattle.link_session.specs.internal.Additions.{with_mention, state_marks, settled_cell, next_named, joined_image}
use Rattle.link_session.specs.internal.Threads.{Threads, with_texts, next_texts, next_datas, bound_heads, next_heads, next_threads}
use Rattle.link_session.specs.{internal.Threads.{cut_threads, undo_threads, IsThreaded}, declared.mark.Mark.Mark}
use Rattle.link_session.specs.{declared.mark.Place.TheVariants.{InText, InData}, Mentions.Mention, Image.{Image, Named}}
use Rattle.link_session.specs.{internal.Chains.{Link, threaded, unthreaded, heads_back}, internal.Settled.places_of}
use Rattle.link_session.proofs.HeadLemmas.{length-cut_heads, cut_grown, length-heads_back}
use Rattle.link_session.proofs.{WaitLemmas.unthreaded-threaded, ChainBackLemmas.heads_back-append}

drop_at : {A : Type 0} (xs ys : List A) (n : ℕ) → length xs ≡ n → drop n (xs ++ ys) ≡ ys
drop_at [] ys zero e = refl
drop_at [] ys (suc n) e = absurd (omega arith)
drop_at (x ∷ xs) ys zero e = absurd (omega arith)
drop_at (x ∷ xs) ys (suc n) e = drop_at xs ys n (omega arith)

drop_none : {A : Type 0} (xs : List A) (n : ℕ) → length xs ≡ n → drop n xs ≡ []
drop_none [] zero e = refl
drop_none [] (suc n) e = refl
drop_none (x ∷ xs) zero e = absurd (omega arith)
drop_none (x ∷ xs) (suc n) e = drop_none xs n (omega arith)

-- marks of states leave the heads as they are
pub heads_back-states : (kept : ℕ) (es : Named) (ms : List Mention) (heads : List Link) → heads_back (state_marks kept es ms) heads ≡ heads
heads_back-states kept es [] heads = refl
heads_back-states kept es (m ∷ ms) heads = search (rules, heads_back-append, heads_back-states kept (with_mention es m) ms heads)

-- the same, if marks of cells come after them
pub heads_back-after_states : (kept : ℕ) (es : Named) (ms : List Mention) (ks : List Mark) (heads : List Link) →
    heads_back (state_marks kept es ms ++ ks) heads ≡ heads_back ks heads
heads_back-after_states kept es ms ks heads = search (rules, heads_back-append, heads_back-states)

module _ (m : Image) (o : Contents) (t : Threads) (h : IsThreaded m t) where
  abbrev es : Named
  es = next_named m o

  abbrev then : Threads
  then = with_texts (next_texts m o) (record t { heads = next_heads m o t.heads })

  abbrev text_links : List Link
  text_links = (threaded (λ i. InText i) (length t.text_links) (next_texts m o) (next_heads m o t.heads)).0

  abbrev data_links : List Link
  data_links =
      (threaded (λ i. InData i) (length t.data_links) (next_datas m o)
      (with_texts (next_texts m o) (record t { heads = next_heads m o t.heads })).heads).0

  -- the object's own cells leave their chains, and the new names have no heads
  heads_cut : (cut_threads (length m.text_cells) (length m.data_cells) (length m.externals) (joined_image m o)
      (next_threads m o t)).heads ≡ bound_heads m o t.heads
  heads_cut =
      (λ i. take (length m.externals) (unthreaded
      (drop_at (map (settled_cell es) m.text_cells) (next_texts m o) (length m.text_cells) (length-map m.text_cells (settled_cell es)) i)
      (drop_at t.text_links text_links (length m.text_cells) h.chained.text i)
      (unthreaded
      (drop_at (map (settled_cell es) m.data_cells) (next_datas m o) (length m.data_cells) (length-map m.data_cells (settled_cell es)) i)
      (drop_at t.data_links data_links (length m.data_cells) h.chained.data i)
      (next_threads m o t).heads)))
      ∙ ap (λ (hs : List Link). take (length m.externals) (unthreaded (next_texts m o) text_links hs))
      (unthreaded-threaded (λ i. InData i) (length t.data_links) (next_datas m o) then.heads)
      ∙ ap (λ (hs : List Link). take (length m.externals) hs)
      (unthreaded-threaded (λ i. InText i) (length t.text_links) (next_texts m o) (next_heads m o t.heads))
      ∙ cut_grown (length es) (length m.externals) (bound_heads m o t.heads)
      (length-cut_heads es (places_of es o.symbols) t.heads ∙ h.heads)

  -- marks that bring the heads of the chains back, bring all threads back
  pub threads_back : (marks : List Mark) → heads_back marks (bound_heads m o t.heads) ≡ t.heads →
      undo_threads marks (joined_image m o) m (next_threads m o t) ≡ t
  threads_back marks back = search (rules, take_at, heads_cut)

  -- the same before the object's own cells are put last: in an image with as many cells as before
  pub heads_alone_back : (n : Image) (heads : List Link) (marks : List Mark) →
      length n.text_cells ≡ length m.text_cells → length n.data_cells ≡ length m.data_cells →
      heads_back marks heads ≡ t.heads → undo_threads marks n m (record t { heads = heads }) ≡ t
  heads_alone_back n heads marks texts datas back = search (rules, take_all, drop_none, length-heads_back)
