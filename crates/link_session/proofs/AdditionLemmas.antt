-- An image that takes in an object becomes the image of the objects with that one.
use Rattle.std.proofs.Common.{◌≡◌, ℕ, ◌+◌, List, [], ◌∷◌, ◌++◌, map, Option, Some, None, refl, sym, ◌∙◌, ap, rules}
use Rattle.std.specs.{Prelude.slice_get, Prelude.⊤, List.AllByRecursion}
use Rattle.aout_core.specs.{WellFormed.{first_of, IsWellFormed}, declared.symbol.Segment.Segment, declared.reloc.Reloc.Reloc}
use Rattle.aout_core.specs.{Contents.Contents, Words.plus}
use Rattle.aout_core.specs.declared.symbol.Segment.TheVariants as segments
use Rattle.link_session.specs.Mentions.{Mention, mentions, mentions_in, names_of, names_by_first_mention, place_of}
use Rattle.link_session.specs.States.{Definition, state, state_by, first_definition, wanted_size, multiple_names}
use Rattle.link_session.specs.Cells.{Referent, to_segment, to_name, referent, segment_target, target_of, cell, words_of, cells}
use Rattle.link_session.specs.Image.{named_states, image, state_in, state_at}
use Rattle.link_session.specs.internal.Additions.{all_clashes, bound_by, binding_at, binding, settled_cell, own_cell, own_cells}
use Rattle.link_session.specs.{internal.Additions.{next_shifts, next_mentions, next_named, joined_image}, declared.cell.Cell.Cell}
use Rattle.link_session.specs.{declared.cell.Target.Target, declared.state.State.State, declared.relocate.Shifts.Shifts, Starts.shift}
use Rattle.link_session.specs.Sessions.{IsObject}
use Rattle.link_session.specs.declared.cell.Target.TheVariants as targets
use Rattle.tool_options.specs.NameLists.{new_names}
use Rattle.link_session.proofs.MentionLemmas.{names_by_first_mention-append, is_among-externals, get_place}
use Rattle.link_session.proofs.CellLemmas.{rebound, bound, RefersAmong, AllReferAmong, cells_more, all_made}
use Rattle.link_session.proofs.MentionedLemmas.{keys-named_states, state_for-named_states, with_mentions-named_states}
use Rattle.link_session.proofs.{MentionedLemmas.all_clashes-named_states, ListLemmas.{all_map, get_append, index_get, get_mapped}}
use Rattle.link_session.proofs.{StateLemmas.first_definition-append, MarkLemmas.{awaited, bound-awaited}, WellFormedLemmas.objects_refer}
use Rattle.link_session.proofs.{UpdateLemmas.image_own, TotalLemmas.{text_total, data_total}}

-- the cell, bound, if its name has a definition among later mentions
abbrev pub rebinding : Option Definition → Cell → Option Cell
rebinding None c = None
rebinding (Some d) c = Some (record c { value = plus c.value d.1; target = segment_target d.0 })

-- a cell that waits for an external waits for one of the names, without a definition
abbrev pub WaitsAmong : List Mention → Target → Type 0
WaitsAmong ms (targets.External i) =
    (name : List ℕ) × (slice_get (names_by_first_mention ms) i ≡ Some name) × (first_definition ms name ≡ None)
    × (place_of name (names_by_first_mention ms) ≡ i)
WaitsAmong ms _ = ⊤

segment_waits : (ms : List Mention) (segment : Segment) → WaitsAmong ms (segment_target segment)
segment_waits ms segment = search rules

referent_waits : (ms : List Mention) (q : Referent) → RefersAmong (names_of ms) q → WaitsAmong ms (target_of ms q)
referent_waits ms (to_segment segment) h = segment_waits ms segment
referent_waits ms (to_name name) h = search (rules, segment_waits, get_place, is_among-externals)

-- so do all cells of the objects
pub cells_wait : (ms : List Mention) (segment : Segment) (os : List Contents) →
    AllByRecursion (λ o. AllReferAmong (names_of ms) o (words_of segment o)) os →
    AllByRecursion (λ c. WaitsAmong ms c.target) (cells ms segment os)
cells_wait ms segment os h =
    all_made (λ c. WaitsAmong ms c.target) (λ earlier o wr. cell ms earlier o segment wr.0 wr.1) (names_of ms) segment
    (λ earlier o wr k. referent_waits ms (referent o wr.1) k) os h

-- such a cell is bound by the states after more mentions just where one of these defines its name
pub binding-awaited : (ms ns : List Mention) (c : Cell) → WaitsAmong ms c.target →
    binding (named_states (ms ++ ns)) c ≡ rebinding (awaited (names_by_first_mention ms) ns c.target) c
binding-awaited ms ns c h = by_target c.target h
  where
    by_target : (t : Target) → WaitsAmong ms t →
        binding_at (named_states (ms ++ ns)) t c ≡ rebinding (awaited (names_by_first_mention ms) ns t) c
    by_target targets.Absolute h = refl
    by_target targets.TextSeg h = refl
    by_target targets.DataSeg h = refl
    by_target targets.BssSeg h = refl
    by_target (targets.External i) h =
        let more : slice_get (names_by_first_mention (ms ++ ns)) i ≡ Some h.0 =
        ap (λ (l : List (List ℕ)). slice_get l i) (names_by_first_mention-append ms ns)
        ∙ get_append (names_by_first_mention ms) (new_names (names_of ms) (names_of ns)) i h.0 h.1 in
        let at : state_at (named_states (ms ++ ns)) i ≡ state (ms ++ ns) h.0 =
        ap state_in (get_mapped {B = List ℕ × State} (λ n. (n, state (ms ++ ns) n)) (names_by_first_mention (ms ++ ns)) i h.0 more) in
        let first : first_definition (ms ++ ns) h.0 ≡ first_definition ns h.0 =
        first_definition-append ms ns h.0 ∙ ap (λ (d : Option Definition). first_of d (first_definition ns h.0)) h.2 in
        ap (λ (s : State). bound_by s c) (at ∙ ap (λ (d : Option Definition). state_by d (wanted_size (ms ++ ns) h.0)) first)
        ∙ by_definition (first_definition ns h.0)
        ∙ ap (λ (n : List ℕ). rebinding (first_definition ns n) c) (sym (index_get (names_by_first_mention ms) i h.0 [] h.1))
      where
        by_definition : (d : Option Definition) → bound_by (state_by d (wanted_size (ms ++ ns) h.0)) c ≡ rebinding d c
        by_definition None = refl
        by_definition (Some d) = refl

settled_cell-bound : (ms ns : List Mention) (c : Cell) → WaitsAmong ms c.target →
    settled_cell (named_states (ms ++ ns)) c ≡ bound (names_by_first_mention ms) ns c
settled_cell-bound ms ns c h = search (rules, binding-awaited, awaited, bound-awaited, rebound)

all_settled : (ms ns : List Mention) (cs : List Cell) → AllByRecursion (λ c. WaitsAmong ms c.target) cs →
    map (settled_cell (named_states (ms ++ ns))) cs ≡ map (bound (names_by_first_mention ms) ns) cs
all_settled ms ns [] h = refl
all_settled ms ns (c ∷ cs) h = λ i. settled_cell-bound ms ns c h.0 i ∷ all_settled ms ns cs h.1 i

-- the cells that are settled are those of the same objects under more mentions
pub cells_settled : (ms ns : List Mention) (segment : Segment) (os : List Contents) →
    AllByRecursion (λ o. AllReferAmong (names_of ms) o (words_of segment o)) os →
    map (settled_cell (named_states (ms ++ ns))) (cells ms segment os) ≡ cells (ms ++ ns) segment os
cells_settled ms ns segment os h = search (rules, all_settled, cells_wait, cells_more)

-- what is added to the addresses of an object after these
abbrev shifts_after : List Contents → Contents → Shifts
shifts_after os o = record { text = shift os o segments.TextSeg; «data» = shift os o segments.DataSeg; bss = shift os o segments.BssSeg }

pub next_shifts-after : (forced : List (List ℕ)) (os : List Contents) (o : Contents) → AllByRecursion IsObject os →
    next_shifts (image forced os) o ≡ shifts_after os o
next_shifts-after forced os o h = search (rules, text_total, data_total)

-- the mentions that the code makes by the sizes of the image are those of the definition
pub next_mentions-in : (forced : List (List ℕ)) (os : List Contents) (o : Contents) → AllByRecursion IsObject os →
    next_mentions (image forced os) o ≡ mentions_in os o
next_mentions-in forced os o h = search (rules, next_shifts-after)

-- the names after an addition are those of the longer list of objects
pub next_named-states : (forced : List (List ℕ)) (os : List Contents) (o : Contents) → AllByRecursion IsObject os →
    next_named (image forced os) o ≡ named_states (mentions forced os ++ mentions_in os o)
next_named-states forced os o h = cc (next_mentions-in forced os o h, with_mentions-named_states (mentions forced os) (mentions_in os o))

-- an object's own cell is the cell of the word
own_cell-is : (ms : List Mention) (os : List Contents) (o : Contents) (segment : Segment) (w : ℕ) (r : Reloc) →
    own_cell (named_states ms) o.symbols (shifts_after os o) (shift os o segment) w r ≡ cell ms os o segment w r
own_cell-is ms os o segment w r = search (rules, state_for-named_states, keys-named_states)

own_cells-are : (ms : List Mention) (os : List Contents) (o : Contents) (segment : Segment) (words : List (ℕ × Reloc)) →
    map (λ (wr : ℕ × Reloc). own_cell (named_states ms) o.symbols (shifts_after os o) (shift os o segment) wr.0 wr.1) words
    ≡ map (λ wr. cell ms os o segment wr.0 wr.1) words
own_cells-are ms os o segment words = search (rules, own_cell-is)

-- many lemmas need only this of what a session keeps
pub well_formed : (os : List Contents) → AllByRecursion IsObject os → AllByRecursion IsWellFormed os
well_formed os h = all_map IsObject IsWellFormed (λ o k. k.well) os h

-- the law of the addition
pub joined_image-is : (forced : List (List ℕ)) (os : List Contents) (o : Contents) → AllByRecursion IsObject os →
    joined_image (image forced os) o ≡ image forced (os ++ o ∷ [])
joined_image-is forced os o h =
    (λ i. record {
      text_cells =
          map (settled_cell (named i)) (image forced os).text_cells
          ++ own_cells (named i) o.symbols (shifts i) (shifts i).text o.text_words o.text_reloc;
      data_cells =
          map (settled_cell (named i)) (image forced os).data_cells
          ++ own_cells (named i) o.symbols (shifts i) (shifts i).data o.data_words o.data_reloc;
      bss_total = (image forced os).bss_total + o.header.bss_size;
      externals = named i;
      multiples = clashes i;
    })
    ∙ (λ i. record {
      text_cells =
          cells_settled (mentions forced os) (mentions_in os o) segments.TextSeg os (objects_refer forced segments.TextSeg os good) i
          ++ own_cells-are (mentions forced os ++ mentions_in os o) os o segments.TextSeg (words_of segments.TextSeg o) i;
      data_cells =
          cells_settled (mentions forced os) (mentions_in os o) segments.DataSeg os (objects_refer forced segments.DataSeg os good) i
          ++ own_cells-are (mentions forced os ++ mentions_in os o) os o segments.DataSeg (words_of segments.DataSeg o) i;
      bss_total = (image forced os).bss_total + o.header.bss_size;
      externals = named_states (mentions forced os ++ mentions_in os o);
      multiples = multiple_names (mentions forced os ++ mentions_in os o);
    })
    ∙ sym (image_own forced os o)
  where
    good : AllByRecursion IsWellFormed os
    good = well_formed os h

    named : next_named (image forced os) o ≡ named_states (mentions forced os ++ mentions_in os o)
    named = next_named-states forced os o h

    shifts : next_shifts (image forced os) o ≡ shifts_after os o
    shifts = next_shifts-after forced os o h

    clashes : (image forced os).multiples ++ all_clashes (image forced os).externals (next_mentions (image forced os) o)
        ≡ multiple_names (mentions forced os ++ mentions_in os o)
    clashes =
        ap (λ (xs : List Mention). multiple_names (mentions forced os) ++ all_clashes (named_states (mentions forced os)) xs)
        (next_mentions-in forced os o h)
        ∙ sym (all_clashes-named_states (mentions forced os) (mentions_in os o))
