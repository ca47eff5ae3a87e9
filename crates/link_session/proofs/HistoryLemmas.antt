-- The threads of a list of objects hold the chains of its image.
use Rattle.std.proofs.lemmas.Grind.{common_steps}
use Rattle.std.proofs.Common.{◌≡◌, ◌≤◌, ℕ, List, [], ◌∷◌, ◌++◌, map, length, refl, sym, ap, ◌∙◌, subst, arith, append_assoc, rules}
use Rattle.std.proofs.{Common.append-nil, lemmas.List.{length-replicate, length-map}, lemmas.Option.slice_get_within}
use Rattle.std.specs.List.{AllByRecursion}
use Rattle.aout_core.specs.{declared.symbol.Symbol.Symbol, declared.symbol.Segment.Segment, Contents.Contents}
use Rattle.aout_core.specs.declared.symbol.Segment.TheVariants as segments
use Rattle.link_session.specs.Mentions.{Mention, mention, mentions, mentions_in, externals, externals_in, names_of, names_by_first_mention}
use Rattle.link_session.specs.internal.Additions.{place_in, settled_cell, external_names, next_mentions, next_named, joined_image}
use Rattle.link_session.specs.internal.Threads.{Threads, with_texts, with_datas, next_texts, next_datas, bound_heads, next_heads}
use Rattle.link_session.specs.internal.Threads.{next_threads, threads_from, forced_threads, threads_of, IsThreaded}
use Rattle.link_session.specs.{declared.cell.Cell.Cell, declared.cell.Target.Target, declared.state.State.State}
use Rattle.link_session.specs.{declared.mark.Place.TheVariants.InData, Earlier.with_earlier, States.state, Cells.cells}
use Rattle.link_session.specs.{Image.{Image, named_states, image, Named}, Sessions.IsObject, internal.Chains.{threaded, AreChained}}
use Rattle.link_session.specs.internal.Settled.{settled_over, places_of, IsCovered}
use Rattle.link_session.proofs.AdditionLemmas.{WaitsAmong, cells_wait, next_named-states, well_formed, joined_image-is}
use Rattle.link_session.proofs.HeadLemmas.{cut_all, more_heads, grown_chained, length-cut_heads, length-grown_heads, length-threaded_heads}
use Rattle.link_session.proofs.{EarlierLemmas.with_earlier-append, MentionLemmas.names_of-map, MentionedLemmas.length-with_mentions}
use Rattle.link_session.proofs.{WellFormedLemmas.objects_refer, ListLemmas.{all_append, all_split, all_map}, PushLemmas.new_chain}
use Rattle.link_session.proofs.{ChainedLemmas.{WaitsBelow, all_text, all_data}, CoverLemmas.all_covered}

-- One more object.

threads_from-append : (forced : List (List ℕ)) (ps qs : List (List Contents × Contents)) (t : Threads) →
    threads_from forced (ps ++ qs) t ≡ threads_from forced qs (threads_from forced ps t)
threads_from-append forced [] qs t = refl
threads_from-append forced (p ∷ ps) qs t = threads_from-append forced ps qs (next_threads (image forced p.0) p.1 t)

-- the threads of one more object are those that its addition makes of the earlier ones
pub threads_push : (forced : List (List ℕ)) (os : List Contents) (o : Contents) →
    threads_of forced (os ++ o ∷ []) ≡ next_threads (image forced os) o (threads_of forced os)
threads_push forced os o = search (rules, with_earlier-append, threads_from-append)

-- the forced names alone: no cells, and so many empty chains
pub forced_threaded : (forced : List (List ℕ)) → IsThreaded (image forced []) (forced_threads forced)
forced_threaded forced = grind (arith, common_steps, more_heads, new_chain, length-replicate, length-map)

-- Cells that are put last.

texts_last : (texts datas cs : List Cell) (t : Threads) → AreChained texts datas t.text_links t.data_links t.heads →
    AllByRecursion (λ c. WaitsBelow (length t.heads) c.target) cs →
    AreChained (texts ++ cs) datas (with_texts cs t).text_links (with_texts cs t).data_links (with_texts cs t).heads
texts_last texts datas cs t a h = grind (arith, all_text texts datas t.text_links t.data_links t.heads cs a h)

datas_last : (texts datas cs : List Cell) (t : Threads) → AreChained texts datas t.text_links t.data_links t.heads →
    AllByRecursion (λ c. WaitsBelow (length t.heads) c.target) cs →
    AreChained texts (datas ++ cs) (with_datas cs t).text_links (with_datas cs t).data_links (with_datas cs t).heads
datas_last texts datas cs t a h =
    subst (λ (n : ℕ). AreChained texts (datas ++ cs) t.text_links
    (t.data_links ++ (threaded (λ i. InData i) n cs t.heads).0) (threaded (λ i. InData i) n cs t.heads).1) (sym a.data)
    (all_data texts datas t.text_links t.data_links t.heads cs a h)

-- a cell that waits for one of the names waits below their number
waits_below : (ms : List Mention) (t : Target) → WaitsAmong ms t → WaitsBelow (length (names_by_first_mention ms)) t
waits_below ms t h = search (rules, slice_get_within)

module _ (forced : List (List ℕ)) (os : List Contents) (o : Contents) (good : AllByRecursion IsObject os) where
  abbrev es : Named
  es = next_named (image forced os) o

  abbrev ks : List ℕ
  ks = places_of (next_named (image forced os) o) o.symbols

  -- to bind the names that the object mentions is to settle all cells
  pub covered : (segment : Segment) → map (settled_over es ks) (cells (mentions forced os) segment os)
      ≡ map (settled_cell es) (cells (mentions forced os) segment os)
  covered segment =
      (λ i. map (settled_over (named i) (map (place_in (named i)) (names i))) (cells (mentions forced os) segment os))
      ∙ all_covered (mentions forced os) (mentions_in os o) (cells (mentions forced os) segment os)
      (cells_wait (mentions forced os) segment os (objects_refer forced segment os (well_formed os good)))
      ∙ (λ i. map (settled_cell (sym named i)) (cells (mentions forced os) segment os))
    where
      named : next_named (image forced os) o ≡ named_states (mentions forced os ++ mentions_in os o)
      named = next_named-states forced os o good

      names : external_names o.symbols ≡ names_of (mentions_in os o)
      names = sym (names_of-map (mention os o) (λ (s : Symbol). s.name) (λ s. refl) (externals_in o))

  -- there are no fewer externals than before
  no_fewer : length (image forced os).externals ≤ length es
  no_fewer = omega (arith, length-with_mentions (image forced os).externals (next_mentions (image forced os) o))

  module _ (own : IsObject o) where
    all_good : AllByRecursion IsObject (os ++ o ∷ [])
    all_good = all_append IsObject os (o ∷ []) good (own, tt)

    -- as many as the names of the longer list
    names_counted : length (externals forced (os ++ o ∷ [])) ≡ length es
    names_counted =
        sym (length-map {B = List ℕ × State} (externals forced (os ++ o ∷ [])) (λ n. (n, state (mentions forced (os ++ o ∷ [])) n)))
        ∙ ap (λ (m : Image). length m.externals) (sym (joined_image-is forced os o good))

    below : (front cs : List Cell) (segment : Segment) → cells (mentions forced (os ++ o ∷ [])) segment (os ++ o ∷ [])
        ≡ front ++ cs → AllByRecursion (λ c. WaitsBelow (length es) c.target) cs
    below front cs segment e =
        subst (λ (n : ℕ). AllByRecursion (λ (c : Cell). WaitsBelow n c.target) cs) names_counted
        (all_map (λ (c : Cell). WaitsAmong (mentions forced (os ++ o ∷ [])) c.target)
        (λ (c : Cell). WaitsBelow (length (externals forced (os ++ o ∷ []))) c.target)
        (λ c k. waits_below (mentions forced (os ++ o ∷ [])) c.target k) cs
        (all_split (λ (c : Cell). WaitsAmong (mentions forced (os ++ o ∷ [])) c.target) front cs
        (subst (λ (l : List Cell). AllByRecursion (λ (c : Cell). WaitsAmong (mentions forced (os ++ o ∷ [])) c.target) l) e
        (cells_wait (mentions forced (os ++ o ∷ [])) segment (os ++ o ∷ [])
        (objects_refer forced segment (os ++ o ∷ []) (well_formed (os ++ o ∷ []) all_good))))).1)

    texts_below : AllByRecursion (λ c. WaitsBelow (length es) c.target) (next_texts (image forced os) o)
    texts_below =
        below (map (settled_cell es) (image forced os).text_cells) (next_texts (image forced os) o) segments.TextSeg
        (ap (λ (m : Image). m.text_cells) (sym (joined_image-is forced os o good)))

    datas_below : AllByRecursion (λ c. WaitsBelow (length es) c.target) (next_datas (image forced os) o)
    datas_below =
        below (map (settled_cell es) (image forced os).data_cells) (next_datas (image forced os) o) segments.DataSeg
        (ap (λ (m : Image). m.data_cells) (sym (joined_image-is forced os o good)))

    module _ (t : Threads) (h : IsThreaded (image forced os) t) where
      abbrev grown : Threads
      grown = record t { heads = next_heads (image forced os) o t.heads }

      heads_grown : length (next_heads (image forced os) o t.heads) ≡ length es
      heads_grown = search (rules, length-grown_heads, length-cut_heads, no_fewer)

      settled_chained : AreChained (map (settled_cell es) (image forced os).text_cells)
          (map (settled_cell es) (image forced os).data_cells) t.text_links t.data_links (next_heads (image forced os) o t.heads)
      settled_chained =
          subst (λ (P : Type 0). P) (λ i. AreChained (covered segments.TextSeg i)
          (covered segments.DataSeg i) t.text_links t.data_links (next_heads (image forced os) o t.heads))
          (grown_chained (length es) (map (settled_over es ks) (image forced os).text_cells) (map (settled_over es ks)
          (image forced os).data_cells) t.text_links t.data_links (bound_heads (image forced os) o t.heads)
          (cut_all es ks (image forced os).text_cells (image forced os).data_cells t.text_links t.data_links t.heads h.chained))

      with_texts_chained : AreChained (joined_image (image forced os) o).text_cells (map (settled_cell es) (image forced os).data_cells)
          (with_texts (next_texts (image forced os) o) grown).text_links t.data_links
          (with_texts (next_texts (image forced os) o) grown).heads
      with_texts_chained = search (rules, texts_last, settled_chained, heads_grown, texts_below)

      heads_then : length (with_texts (next_texts (image forced os) o) grown).heads ≡ length es
      heads_then = search (rules, length-threaded_heads, heads_grown)

      pub threaded_next : IsThreaded (joined_image (image forced os) o) (next_threads (image forced os) o t)
      threaded_next = record {
        chained =
            datas_last (joined_image (image forced os) o).text_cells (map (settled_cell es) (image forced os).data_cells)
            (next_datas (image forced os) o) (with_texts (next_texts (image forced os) o) grown) with_texts_chained
            (subst (λ (n : ℕ). AllByRecursion (λ (c : Cell). WaitsBelow n c.target) (next_datas (image forced os) o))
            (sym heads_then) datas_below);
        heads =
            length-threaded_heads (λ i. InData i) (length t.data_links) (next_datas (image forced os) o)
            (with_texts (next_texts (image forced os) o) grown).heads ∙ heads_then;
      }

-- the threads of a list of objects are those of its image
pub threaded_of : (forced : List (List ℕ)) (os : List Contents) → AllByRecursion IsObject os →
    IsThreaded (image forced os) (threads_of forced os)
threaded_of forced os good = from [] os (forced_threads forced) tt good (forced_threaded forced)
  where
    from : (earlier rest : List Contents) (t : Threads) → AllByRecursion IsObject earlier →
        AllByRecursion IsObject rest → IsThreaded (image forced earlier) t →
        IsThreaded (image forced (earlier ++ rest)) (threads_from forced (with_earlier earlier rest) t)
    from earlier [] t e r h = subst (λ (xs : List Contents). IsThreaded (image forced xs) t) (sym (append-nil earlier)) h
    from earlier (o ∷ rest) t e r h =
        subst (λ (xs : List Contents). IsThreaded (image forced xs)
        (threads_from forced (with_earlier (earlier ++ o ∷ []) rest) (next_threads (image forced earlier) o t)))
        (append_assoc earlier (o ∷ []) rest)
        (from (earlier ++ o ∷ []) rest (next_threads (image forced earlier) o t) (all_append IsObject earlier (o ∷ []) e (r.0, tt)) r.1
        (subst (λ (m : Image). IsThreaded m (next_threads (image forced earlier) o t))
        (joined_image-is forced earlier o e) (threaded_next forced earlier o e r.0 t h)))

-- binding the names that an object mentions binds each cell that its addition has to bind
pub image_covered : (forced : List (List ℕ)) (os : List Contents) (o : Contents) → AllByRecursion IsObject os →
    IsCovered (image forced os) o
image_covered forced os o good = search (rules, covered)
