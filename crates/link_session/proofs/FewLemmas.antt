-- How many marks there are once chains are bound, and that they are no more than an addition may leave.
use Rattle.std.proofs.Common.{◌≡◌, ◌≤◌, ◌+◌, ℕ, Bool, cond, List, [], ◌∷◌, ◌++◌, map, length, Option, Some, None, is_some, refl, ap, ◌∙◌}
use Rattle.std.proofs.{Common.{arith, length-append, rules}, lemmas.List.length-map}
use Rattle.std.specs.{Prelude.filter, List.AllByRecursion}
use Rattle.aout_core.specs.{declared.symbol.Segment.Segment, Contents.Contents}
use Rattle.aout_core.specs.declared.symbol.Segment.TheVariants as segments
use Rattle.link_session.specs.Mentions.{Mention, mentions, mentions_in, externals, names_by_first_mention}
use Rattle.link_session.specs.{Image.{named_states, image, Named, state_at}, Bounds.{is_defined_by, waiting_in, most_marks}}
use Rattle.link_session.specs.{internal.Chains.{Link, Waits, cell_at, marks_of}, internal.Counts.{to_bind, NotesWaiting, NotesBound}}
use Rattle.link_session.specs.{declared.cell.Cell.Cell, declared.state.State.TheVariants.Defined, declared.mark.Mark.Mark}
use Rattle.link_session.specs.{declared.mark.Mark.TheVariants.CellWas, declared.mark.Place.Place, States.Definition, Cells.cells}
use Rattle.link_session.specs.{Sessions.IsObject, internal.Additions.next_named, internal.Settled.settled_at, internal.Restores.TakesBack}
use Rattle.link_session.proofs.AdditionLemmas.{WaitsAmong, rebinding, cells_wait, binding-awaited, next_named-states, well_formed}
use Rattle.link_session.proofs.{WellFormedLemmas.objects_refer, BoundLemmas.is_defined_by-awaited, MarkLemmas.awaited}
use Rattle.link_session.proofs.{CountLemmas.chain_counted, CountLemmas.fewer_to_bind}

-- the marks of a chain
pub chain_noted : (ts ds : List Link) (head : Link) (texts datas : List Cell) (k : ℕ) (w : Waits ts ds head texts datas k)
    (old new : List Mark) → new ≡ old ++ marks_of texts datas w.places → NotesWaiting k texts datas old new
chain_noted ts ds head texts datas k w old new e =
    ap (λ (ks : List Mark). length ks) e
    ∙ length-append old (marks_of texts datas w.places)
    ∙ ap (λ (n : ℕ). length old + n)
    (length-map w.places (λ (p : Place). CellWas p (cell_at texts datas p)) ∙ chain_counted ts ds head texts datas k w)

-- of a defined name these are the cells that it binds
pub defined_noted : (es : Named) (k : ℕ) (segment : Segment) (offset : ℕ) → state_at es k ≡ Defined segment offset →
    (texts datas new_texts new_datas : List Cell) (old new : List Mark) →
    new_texts ≡ map (settled_at es k) texts → new_datas ≡ map (settled_at es k) datas →
    NotesWaiting k texts datas old new → NotesBound es texts datas new_texts new_datas old new
defined_noted es k segment offset at texts datas new_texts new_datas old new t d e = search (rules, fewer_to_bind)

-- to be bound are the cells that wait for a name of the object
to_bind_wait : (ms : List Mention) (os : List Contents) (o : Contents) (cs : List Cell) → AllByRecursion (λ c. WaitsAmong ms c.target) cs →
    length (to_bind (named_states (ms ++ mentions_in os o)) cs) ≡ waiting_in (names_by_first_mention ms) o cs
to_bind_wait ms os o [] h = refl
to_bind_wait ms os o (c ∷ cs) h =
    ap (λ (b : Option Cell). length (cond (is_some b) (c ∷ rest) rest)) (binding-awaited ms (mentions_in os o) c h.0)
    ∙ by_definition (to_bind_wait ms os o cs h.1) (awaited (names_by_first_mention ms) (mentions_in os o) c.target)
    ∙ ap (λ (t : Bool). length (cond t (c ∷ waiting) waiting)) (is_defined_by-awaited (names_by_first_mention ms) os o c.target)
  where
    rest : List Cell
    rest = to_bind (named_states (ms ++ mentions_in os o)) cs

    waiting : List Cell
    waiting = filter (λ c. is_defined_by (names_by_first_mention ms) o c.target) cs

    by_definition : length rest ≡ length waiting → (d : Option Definition) →
        length (cond (is_some (rebinding d c)) (c ∷ rest) rest) ≡ length (cond (is_some d) (c ∷ waiting) waiting)
    by_definition e None = e
    by_definition e (Some d) = omega (arith, e)

-- marks that take an object back are no more than it may leave
pub taken_few : (forced : List (List ℕ)) (os : List Contents) (o : Contents) (heads : List Link) (marks : List Mark) →
    AllByRecursion IsObject os → TakesBack (image forced os) o heads marks → length marks ≤ most_marks forced os o
taken_few forced os o heads marks h b = let few = b.few in omega (arith, waiting segments.TextSeg, waiting segments.DataSeg)
  where
    waiting : (segment : Segment) → length (to_bind (next_named (image forced os) o) (cells (mentions forced os) segment os))
        ≡ waiting_in (externals forced os) o (cells (mentions forced os) segment os)
    waiting segment =
        ap (λ (es : Named). length (to_bind es (cells (mentions forced os) segment os))) (next_named-states forced os o h)
        ∙ to_bind_wait (mentions forced os) os o (cells (mentions forced os) segment os)
        (cells_wait (mentions forced os) segment os (objects_refer forced segment os (well_formed os h)))
