use Rattle.std.proofs.Common.{ℕ, ◌≡◌, ◌≤◌, ◌+◌, List, length, map, sym, ◌∙◌, ap, subst, arith, rules}
use Rattle.std.specs.Prelude.{filter, vec_len}
use Rattle.aout_core.specs.{declared.symbol.Symbol.Symbol, Contents.Contents, WellFormed.is_external}
use Rattle.link_session.specs.internal.Fields.{image_in, threads_in, sizes_of, threads_by, with_heads_back, HasAtLeast}
use Rattle.link_session.specs.internal.Additions.{next_mentions, state_marks, with_mentions, mentions_by, all_places}
use Rattle.link_session.specs.{declared.merged.Sizes.Sizes, Undo.undo, Image.Image, internal.Threads.Threads, internal.Threads.cut_heads}
use Rattle.link_session.specs.{internal.Chains.AreChained, internal.Bindings.Bindable, internal.Settled.settled_over}
use Rattle.link_session.proofs.JoinLemmas.{entered-is, few_named, few_new, bound-is, heads-are, marks-are, undone, joined-is}
use Rattle.link_session.proofs.JoinLemmas.{joined_threads}
use Rattle.link_session.proofs.BindingLemmas.{texts_bound, datas_bound, several_texts, several_datas, several_heads}
use Rattle.link_session.proofs.PlacedLemmas.{settled_places, cut_places}
use Rattle.link_session.proofs.join.take_in_with.Goals as goal

pub enter_all-requires-clause-names : goal.enter_all-requires-clause-names
enter_all-requires-clause-names c =
    let m = image_in c.args.image.now in
    let o = c.args.object.now in
    let table : c.symbols.result.now ≡ o.symbols = c.symbols.ensures.value ∙ ap (λ (f : Contents). f.symbols) c.file-file.ensures.value in
    subst (λ (P : Type 0). P)
    (λ i. let n : Image = sym c.reserve_all.ensures.image i in
    length (with_mentions n.externals (mentions_by (sym c.next_shifts-shifts.ensures i) (sym table i))) ≤ 65535)
    (few_named m o c.requires.fits)

pub bind_waiting-requires : goal.bind_waiting-requires
bind_waiting-requires c =
    record {
      chained = subst (λ (P : Type 0). P)
          (λ i. let n : Image = sym c.reserve_all.ensures.image i in let t : Threads = sym c.reserve_all.ensures.threads i in
          AreChained n.text_cells n.data_cells t.text_links t.data_links t.heads)
          c.requires.threaded.chained;
    }

pub undo-requires : goal.undo-requires
undo-requires c =
    let b = image_in c.bind_waiting.new.image in
    let v = threads_in c.bind_waiting.new.image in
    let texts : length b.text_cells ≡ length (image_in c.args.image.now).text_cells =
    texts_bound c.args.image.now c.reserve_all.new.image c.requires.threaded.chained c.reserve_all.ensures.threads
    c.bind_waiting.new.image c.bind_waiting.ensures.chained c.bind_waiting.ensures.rest.threads in
    let datas : length b.data_cells ≡ length (image_in c.args.image.now).data_cells =
    datas_bound c.args.image.now c.reserve_all.new.image c.requires.threaded.chained c.reserve_all.ensures.threads
    c.bind_waiting.new.image c.bind_waiting.ensures.chained c.bind_waiting.ensures.rest.threads in
    let sizes : c.sizes-sizes.result ≡ sizes_of (image_in c.args.image.now) = c.sizes-sizes.ensures in
    record {
      within = subst (λ (s : Sizes). HasAtLeast s b v) (sym sizes) (record {
        text = omega (arith, texts);
        «data» = omega (arith, datas);
        text_links = c.bind_waiting.ensures.chained.text;
        data_links = c.bind_waiting.ensures.chained.data;
      });
    }

pub returns-in-Err-clause-err : goal.returns-in-Err-clause-err
returns-in-Err-clause-err c =
    let m = image_in c.args.image.now in
    let o = c.args.object.now in
    let t = threads_in c.args.image.now in
    let n : Image = record (image_in c.reserve_all.new.image) {
      externals = c.enter_all.new.externals.entries;
      multiples = c.enter_all.new.multiples.items;
    } in
    let u = threads_in c.reserve_all.new.image in
    let b = image_in c.bind_waiting.new.image in
    let v = threads_in c.bind_waiting.new.image in
    let e = entered-is m (image_in c.reserve_all.new.image) o c.file-file.result.now c.next_shifts-shifts.result
    c.symbols.result.now c.enter_all.new.externals.entries c.enter_all.new.multiples.items
    c.reserve_all.ensures.image c.file-file.ensures.value c.symbols.ensures.value c.next_shifts-shifts.ensures
    c.enter_all.ensures.names c.enter_all.ensures.multiples in
    let states : c.enter_all.new.marks.items ≡ state_marks (length m.externals) m.externals (next_mentions m o) = search rules in
    let texts : length b.text_cells ≡ length m.text_cells =
    texts_bound c.args.image.now c.reserve_all.new.image c.requires.threaded.chained c.reserve_all.ensures.threads
    c.bind_waiting.new.image c.bind_waiting.ensures.chained c.bind_waiting.ensures.rest.threads in
    let datas : length b.data_cells ≡ length m.data_cells =
    datas_bound c.args.image.now c.reserve_all.new.image c.requires.threaded.chained c.reserve_all.ensures.threads
    c.bind_waiting.new.image c.bind_waiting.ensures.chained c.bind_waiting.ensures.rest.threads in
    let left : c.deref-in-Err.result.now ≡ c.bind_waiting.new.marks.items = c.deref-in-Err.ensures.value in
    let back = undone m n b o t u v c.requires.threaded c.enter_all.new.marks.items c.bind_waiting.new.marks.items
    e c.reserve_all.ensures.threads c.bind_waiting.ensures.rest.image c.bind_waiting.ensures.rest.threads texts datas states
    c.bind_waiting.ensures.back in (
      c.undo.ensures.image m c.sizes-sizes.ensures ∙ ap (λ ks. undo ks b m) left ∙ back.0,
      c.undo.ensures.threads ∙ (λ i. with_heads_back (left i) (threads_by (c.sizes-sizes.ensures i) b v)) ∙ back.1,
    )

pub append_object-requires-clause-places : goal.append_object-requires-clause-places
append_object-requires-clause-places c =
    let same : c.bind_waiting.new.image.externals.entries ≡ c.enter_all.new.externals.entries = search rules in
    let table : c.symbols.result.now ≡ c.file-file.result.now.symbols = c.symbols.ensures.value in
    let noted : c.enter_all.new.places.items ≡ all_places c.enter_all.new.externals.entries c.symbols.result.now = search rules in
    let lent : c.deref-2.result.now ≡ c.enter_all.new.places.items = c.deref-2.ensures.value in
    lent ∙ noted ∙ (λ i. all_places (sym same i) (table i))

pub append_object-requires-clause-text_small : goal.append_object-requires-clause-text_small
append_object-requires-clause-text_small c =
    let same : length c.bind_waiting.new.image.text_links.items ≡ length c.args.image.now.text_links.items = search rules in
    omega (arith, same, c.requires.threaded.chained.text, c.requires.small.text)

pub append_object-requires-clause-data_small : goal.append_object-requires-clause-data_small
append_object-requires-clause-data_small c =
    let same : length c.bind_waiting.new.image.data_links.items ≡ length c.args.image.now.data_links.items = search rules in
    omega (arith, same, c.requires.threaded.chained.data, c.requires.small.data)

pub append_object-requires-clause-heads_space : goal.append_object-requires-clause-heads_space
append_object-requires-clause-heads_space c =
    let m = image_in c.args.image.now in
    let o = c.args.object.now in
    let e = entered-is m (image_in c.reserve_all.new.image) o c.file-file.result.now c.next_shifts-shifts.result
    c.symbols.result.now c.enter_all.new.externals.entries c.enter_all.new.multiples.items
    c.reserve_all.ensures.image c.file-file.ensures.value c.symbols.ensures.value c.next_shifts-shifts.ensures
    c.enter_all.ensures.names c.enter_all.ensures.multiples in
    let few : length c.bind_waiting.new.image.externals.entries ≤ length m.externals + length (filter is_external o.symbols) =
    subst (λ (x : Image). length x.externals ≤ length m.externals + length (filter is_external o.symbols))
    (sym c.bind_waiting.ensures.rest.image)
    (subst (λ (x : Image). length x.externals ≤ length m.externals + length (filter is_external o.symbols)) (sym e) (few_new m o)) in
    let heads : vec_len c.reserve_all.new.image.heads ≡ length c.args.image.now.heads.items = search rules in
    let entries : filter is_external c.file-file.result.now.symbols ≡ filter is_external o.symbols =
    ap (λ (f : Contents). filter is_external f.symbols) c.file-file.ensures.value in
    omega (
      arith,
      few,
      heads,
      ap (λ (l : List Symbol). length l) entries,
      c.in_ok-reserve_all.ensures.heads,
      c.bind_waiting.ensures.rest.capacity.heads,
      c.requires.threaded.heads,
    )

pub returns : goal.returns
returns c =
    let m = image_in c.args.image.now in
    let o = c.args.object.now in
    let t = threads_in c.args.image.now in
    let n : Image = record (image_in c.reserve_all.new.image) {
      externals = c.enter_all.new.externals.entries;
      multiples = c.enter_all.new.multiples.items;
    } in
    let u = threads_in c.reserve_all.new.image in
    let b = image_in c.bind_waiting.new.image in
    let v = threads_in c.bind_waiting.new.image in
    let e = entered-is m (image_in c.reserve_all.new.image) o c.file-file.result.now c.next_shifts-shifts.result
    c.symbols.result.now c.enter_all.new.externals.entries c.enter_all.new.multiples.items
    c.reserve_all.ensures.image c.file-file.ensures.value c.symbols.ensures.value c.next_shifts-shifts.ensures
    c.enter_all.ensures.names c.enter_all.ensures.multiples in
    let places : c.deref.result.now ≡ all_places n.externals c.symbols.result.now = c.deref.ensures.value ∙ (search rules) in
    let few : length n.externals ≤ 65535 = subst (λ (x : Image). length x.externals ≤ 65535) (sym e) (few_named m o c.requires.fits) in
    let w = c.in_default.ensures.bound in
    let was : Bindable = record { texts = n.text_cells; datas = n.data_cells; heads = u.heads } in
    let texts = ap (λ (x : Bindable). x.texts) w ∙ several_texts n.externals c.deref.result.now was
    ∙ ap (λ (l : List ℕ). map (settled_over n.externals l) n.text_cells) places
    ∙ settled_places n.externals few c.symbols.result.now n.text_cells in
    let datas = ap (λ (x : Bindable). x.datas) w ∙ several_datas n.externals c.deref.result.now was
    ∙ ap (λ (l : List ℕ). map (settled_over n.externals l) n.data_cells) places
    ∙ settled_places n.externals few c.symbols.result.now n.data_cells in
    let cut = ap (λ (x : Bindable). x.heads) w ∙ several_heads n.externals c.deref.result.now was
    ∙ ap (λ (l : List ℕ). cut_heads n.externals l u.heads) places
    ∙ cut_places n.externals few c.symbols.result.now u.heads in
    let table : c.symbols.result.now ≡ o.symbols = c.symbols.ensures.value ∙ ap (λ (f : Contents). f.symbols) c.file-file.ensures.value in
    let bound = bound-is m n o c.symbols.result.now e table c.requires.covered b c.bind_waiting.ensures.rest.image texts datas in
    let heads = heads-are m n o c.symbols.result.now e table t u v c.reserve_all.ensures.threads c.bind_waiting.ensures.rest.threads cut in
    let states : c.enter_all.new.marks.items ≡ state_marks (length m.externals) m.externals (next_mentions m o) = search rules in record {
      image =
          joined-is m b o c.file-file.result.now c.next_shifts-shifts.result bound c.file-file.ensures.value
          c.next_shifts-shifts.ensures (image_in c.append_object.new.image) c.append_object.ensures.image;
      threads =
          joined_threads m b o c.file-file.result.now c.next_shifts-shifts.result bound c.file-file.ensures.value
          c.next_shifts-shifts.ensures t v (threads_in c.append_object.new.image) heads c.append_object.ensures.threads;
      marks =
          marks-are m n o c.symbols.result.now e table c.requires.covered t u c.reserve_all.ensures.threads b.text_cells
          b.data_cells v.heads c.enter_all.new.marks.items c.bind_waiting.new.marks.items states texts datas cut
          c.bind_waiting.ensures.back c.in_default.ensures.few;
      entries = search rules;
      undo_records = search rules;
      entries_space = search rules;
      undo_records_space = search rules;
      err = search rules;
    }
