-- The marks of an object's mentions and of the chains that it binds take it back.
use Rattle.std.proofs.Common.{◌≡◌, List, ◌++◌, map, take, length, refl, sym, ap, ◌∙◌, subst, arith, append-nil, rules}
use Rattle.std.proofs.{Math.Seq.take-length, lemmas.List.length-map, lemmas.List.take_at, lemmas.List.take_all}
use Rattle.std.specs.List.{AllByRecursion}
use Rattle.aout_core.specs.Contents.{Contents}
use Rattle.link_session.specs.internal.Additions.{state_marks, settled_cell, all_clashes, mention_by, next_shifts, next_mentions}
use Rattle.link_session.specs.{internal.Additions.{next_named, joined_image, entered}, declared.cell.Cell.Cell, declared.mark.Mark.Mark}
use Rattle.link_session.specs.{declared.state.State.State, Marks.{cells_marked, states_marked}, Mentions.externals_in, Image.{Image, Named}}
use Rattle.link_session.specs.{Undo.{put_all_back, cut_to, undo, IsInside}, internal.Chains.{Link, cell_at, heads_back}}
use Rattle.link_session.specs.{internal.Counts.NotesBound, internal.Threads.{bound_heads, next_texts, next_datas}}
use Rattle.link_session.specs.internal.Restores.{Restores, TakesBack, HoldBound}
use Rattle.link_session.proofs.{ListLemmas.all_append, MarkedLemmas.cells_marked-append, MarkedLemmas.states_marked-append}
use Rattle.link_session.proofs.{MarkedLemmas.no_cells, MarkLemmas.put_all_back-append, MarkLemmas.cut_front, StateBackLemmas.mentions_back}
use Rattle.link_session.proofs.{StateBackLemmas.states_inside, StateBackLemmas.states_few, ThreadBackLemmas.heads_back-after_states}

module _ (m : Image) (o : Contents) where
  abbrev at : List Cell → List Cell → Named → Image
  at ts ds es = record { text_cells = ts; data_cells = ds; bss_total = m.bss_total; externals = es; multiples = m.multiples }

  abbrev pub states : List Mark
  states = state_marks (length m.externals) m.externals (next_mentions m o)

  module _ (heads new_heads : List Link) (texts datas : List Cell) (ks : List Mark)
      (r : Restores m.text_cells m.data_cells heads texts datas new_heads ks) where
    -- cells, then states, in an image that is cut to the sizes of the old one
    cells_and_states : (n : Image) → n ≡ at texts datas (take (length m.externals) (next_named m o)) → put_all_back (states ++ ks) n ≡ m
    cells_and_states n e = search (rules, put_all_back-append, mentions_back, take-length)

    -- an object whose own cells are not yet put last is taken back
    pub bound_alone : length texts ≡ length m.text_cells → length datas ≡ length m.data_cells →
        undo (states ++ ks) (record (entered m o) { text_cells = texts; data_cells = datas }) m ≡ m
    bound_alone t d = cells_and_states (cut_to m (record (entered m o) { text_cells = texts; data_cells = datas })) (λ i. record {
      text_cells = take_all (length m.text_cells) texts (omega (arith, t)) i;
      data_cells = take_all (length m.data_cells) datas (omega (arith, d)) i;
      bss_total = m.bss_total;
      externals = take (length m.externals) (next_named m o);
      multiples = take_at m.multiples (all_clashes m.externals (next_mentions m o)) (length m.multiples) refl i;
    })

    -- all that the object leaves
    pub taken_back : texts ≡ map (settled_cell (next_named m o)) m.text_cells →
        datas ≡ map (settled_cell (next_named m o)) m.data_cells → new_heads ≡ bound_heads m o heads →
        (marks : List Mark) → marks ≡ states ++ ks →
        NotesBound (next_named m o) m.text_cells m.data_cells texts datas states marks → TakesBack m o heads marks
    taken_back t d hs marks e few = record {
      undoes = ap (λ (l : List Mark). undo l (joined_image m o) m) e ∙ cells_and_states (cut_to m (joined_image m o)) (λ i. record {
        text_cells = (cut_front (settled_cell (next_named m o)) m.text_cells (next_texts m o) ∙ sym t) i;
        data_cells = (cut_front (settled_cell (next_named m o)) m.data_cells (next_datas m o) ∙ sym d) i;
        bss_total = m.bss_total;
        externals = take (length m.externals) (next_named m o);
        multiples = take_at m.multiples (all_clashes m.externals (next_mentions m o)) (length m.multiples) refl i;
      });
      heads_are =
          (λ i. heads_back (e i) (sym hs i))
          ∙ heads_back-after_states (length m.externals) m.externals (next_mentions m o) ks new_heads
          ∙ r.heads_are;
      inside =
          subst (λ (l : List Mark). AllByRecursion (IsInside m) l) (sym e)
          (all_append (IsInside m) states ks (states_inside m m.externals (next_mentions m o)) (r.inside m refl refl));
      few =
          omega (
            arith,
            few,
            states_few (length m.externals) m.externals (next_mentions m o),
            length-map (externals_in o) (mention_by (next_shifts m o)),
          );
      cells_are = λ p.
          let held : cells_marked p marks ≡ cells_marked p ks =
          ap (cells_marked p) e ∙ cells_marked-append p states ks ∙ ap (λ (l : List Cell). l ++ cells_marked p ks)
          (no_cells p (length m.externals) m.externals (next_mentions m o)) in
          subst (λ (P : Type 0). P)
          (λ i. HoldBound (cell_at m.text_cells m.data_cells p) (cell_at (t i) (d i) p) (sym held i)) (r.cells_are p);
      states_are =
          λ i. ap (states_marked i) e ∙ states_marked-append i states ks
          ∙ ap (λ (l : List State). states_marked i states ++ l) (r.no_states i) ∙ append-nil (states_marked i states);
    }
