use Rattle.std.proofs.{Common.◌≡◌, Common.◌++◌, Common.List, Common.length, Common.◌∙◌, Common.ap, Common.rules, lemmas.List.with_items_is}
use Rattle.std.specs.Vec.{with_items}
use Rattle.link_session.specs.internal.Additions.{own_cells, placed_cells, place_at}
use Rattle.link_session.specs.{declared.cell.Cell.Cell, Starts.shift_by, internal.Chains.threaded, internal.Threads.grown_heads}
use Rattle.link_session.proofs.PlacedCellLemmas.{placed_texts, placed_datas}
use Rattle.link_session.proofs.join.append_object.Goals as goal
use Rattle.aout_core.specs.declared.symbol.Segment.TheVariants as segments

pub returns-clause-image : goal.returns-clause-image
returns-clause-image c =
    let es = c.args.image.now.externals.entries in
    let shifts = c.args.shifts.now in
    let o = c.args.file.now in
    let places = c.args.places.now in
    let texts : c.append_cells.new.cells.items ≡ c.args.image.now.text_cells.items
    ++ own_cells es o.symbols shifts shifts.text o.text_words o.text_reloc =
    c.append_cells.ensures.cells
    ∙ (λ j. c.args.image.now.text_cells.items ++ placed_cells es places shifts
    (shift_by shifts (c.text_of.ensures.segment j)) (c.text_of.ensures.words j) (c.text_of.ensures.relocs j))
    ∙ ap (λ (cs : List Cell). c.args.image.now.text_cells.items ++ cs)
    (placed_texts es o shifts shifts.text c.requires.well places c.requires.places) in
    let datas : c.append_cells-2.new.cells.items ≡ c.args.image.now.data_cells.items
    ++ own_cells es o.symbols shifts shifts.data o.data_words o.data_reloc =
    c.append_cells-2.ensures.cells
    ∙ (λ j. c.args.image.now.data_cells.items ++ placed_cells es places shifts
    (shift_by shifts (c.data_of.ensures.segment j)) (c.data_of.ensures.words j) (c.data_of.ensures.relocs j))
    ∙ ap (λ (cs : List Cell). c.args.image.now.data_cells.items ++ cs)
    (placed_datas es o shifts shifts.data c.requires.well places c.requires.places) in
    search rules

pub returns-clause-threads : goal.returns-clause-threads
returns-clause-threads c =
    let es = c.args.image.now.externals.entries in
    let shifts = c.args.shifts.now in
    let texts = c.args.image.now.text_links.items in
    let datas = c.args.image.now.data_links.items in
    let o = c.args.file.now in
    let places = c.args.places.now in
    let own_texts = placed_texts es o shifts shifts.text c.requires.well places c.requires.places in
    let own_datas = placed_datas es o shifts shifts.data c.requires.well places c.requires.places in
    let grown : c.deref_mut.result.now ≡ grown_heads (length es) c.args.image.now.heads.items =
    c.deref_mut.ensures.value ∙ c.grow_heads.ensures ∙ ap (λ n. grown_heads n c.args.image.now.heads.items) c.len-names.ensures.len in
    let kept : (with_items c.grow_heads.new.heads c.append_cells.new.heads).items ≡ c.append_cells.new.heads =
    with_items_is c.grow_heads.new.heads c.append_cells.new.heads (c.append_cells.auto.heads ∙ c.deref_mut.ensures.len) in
    let between : c.deref_mut-2.result.now ≡ c.append_cells.new.heads = c.deref_mut-2.ensures.value ∙ kept in
    let last : (with_items (with_items c.grow_heads.new.heads c.append_cells.new.heads) c.append_cells-2.new.heads).items
    ≡ c.append_cells-2.new.heads =
    with_items_is (with_items c.grow_heads.new.heads c.append_cells.new.heads) c.append_cells-2.new.heads
    (c.append_cells-2.auto.heads ∙ c.deref_mut-2.ensures.len) in
    let then =
    c.append_cells.ensures.heads
    ∙ (λ j. (threaded (place_at (c.text_of.ensures.segment j)) (length texts) (placed_cells es places shifts
    (shift_by shifts (c.text_of.ensures.segment j)) (c.text_of.ensures.words j) (c.text_of.ensures.relocs j)) (grown j)).1)
    ∙ ap (λ (cs : List Cell).
    (threaded (place_at segments.TextSeg) (length texts) cs (grown_heads (length es) c.args.image.now.heads.items)).1) own_texts in
    λ i. record {
      text_links = (
          c.append_cells.ensures.links
          ∙ (λ j. texts ++ (threaded (place_at (c.text_of.ensures.segment j)) (length texts) (placed_cells es places shifts
          (shift_by shifts (c.text_of.ensures.segment j)) (c.text_of.ensures.words j) (c.text_of.ensures.relocs j)) (grown j)).0)
          ∙ ap (λ (cs : List Cell). texts ++ (threaded (place_at segments.TextSeg) (length texts) cs
          (grown_heads (length es) c.args.image.now.heads.items)).0) own_texts) i;
      data_links = (
          c.append_cells-2.ensures.links
          ∙ (λ j. datas ++ (threaded (place_at (c.data_of.ensures.segment j)) (length datas) (placed_cells es places shifts
          (shift_by shifts (c.data_of.ensures.segment j)) (c.data_of.ensures.words j) (c.data_of.ensures.relocs j)) ((between ∙ then) j)).0)
          ∙ ap (λ (cs : List Cell). datas ++ (threaded (place_at segments.DataSeg) (length datas) cs
          ((threaded (place_at segments.TextSeg) (length texts) (own_cells es o.symbols shifts shifts.text o.text_words o.text_reloc)
          (grown_heads (length es) c.args.image.now.heads.items)).1)).0) own_datas) i;
      heads = (
          last
          ∙ c.append_cells-2.ensures.heads
          ∙ (λ j. (threaded (place_at (c.data_of.ensures.segment j)) (length datas) (placed_cells es places shifts
          (shift_by shifts (c.data_of.ensures.segment j)) (c.data_of.ensures.words j) (c.data_of.ensures.relocs j)) ((between ∙ then) j)).1)
          ∙ ap (λ (cs : List Cell). (threaded (place_at segments.DataSeg) (length datas) cs
          ((threaded (place_at segments.TextSeg) (length texts) (own_cells es o.symbols shifts shifts.text o.text_words o.text_reloc)
          (grown_heads (length es) c.args.image.now.heads.items)).1)).1) own_datas) i;
    }
