-- What marks hold of one place: those of chains and of mentions, and of two lists of marks together.
use Rattle.std.proofs.Common.{◌≡◌, ℕ, Bool, true, cond, List, [], ◌∷◌, ◌++◌, nat_eq, refl, rules}
use Rattle.aout_core.specs.declared.symbol.Segment.{Segment}
use Rattle.link_session.specs.{Marks.{cells_marked, states_marked}, internal.Additions.{with_mention, state_marks}}
use Rattle.link_session.specs.{internal.Chains.{is_on, AreApart, bound_to, cell_at, marks_of}, internal.Restores.HoldBound}
use Rattle.link_session.specs.{declared.cell.Cell.Cell, declared.cell.Target.TheVariants.External, declared.mark.Mark.Mark}
use Rattle.link_session.specs.{declared.mark.Mark.TheVariants.{CellWas, StateWas}, declared.mark.Place.Place, Image.Named, Mentions.Mention}
use Rattle.link_session.proofs.ChainLemmas.{same_is}

-- Two lists of marks together.

-- the marks of a cell, in two lists in a row
pub cells_marked-append : (p : Place) (ks ls : List Mark) → cells_marked p (ks ++ ls) ≡ cells_marked p ks ++ cells_marked p ls
cells_marked-append p [] ls = refl
cells_marked-append p (StateWas i s ∷ ks) ls = cells_marked-append p ks ls
cells_marked-append p (CellWas q c ∷ ks) ls = search (rules, cells_marked-append p ks ls)

-- the marks of a name, in two lists in a row
pub states_marked-append : (i : ℕ) (ks ls : List Mark) → states_marked i (ks ++ ls) ≡ states_marked i ks ++ states_marked i ls
states_marked-append i [] ls = refl
states_marked-append i (CellWas q c ∷ ks) ls = states_marked-append i ks ls
states_marked-append i (StateWas j s ∷ ks) ls = search (rules, nat_eq, states_marked-append i ks ls)

-- Marks of mentions hold no cells, and those of chains no states.

-- the marks of mentions are of no cell
pub no_cells : (p : Place) (kept : ℕ) (es : Named) (ms : List Mention) → cells_marked p (state_marks kept es ms) ≡ []
no_cells p kept es [] = refl
no_cells p kept es (m ∷ ms) = search (rules, cells_marked-append, no_cells p kept (with_mention es m) ms)

-- the marks of a chain are of no name
pub no_states : (i : ℕ) (texts datas : List Cell) (ps : List Place) → states_marked i (marks_of texts datas ps) ≡ []
no_states i texts datas [] = refl
no_states i texts datas (p ∷ ps) = no_states i texts datas ps

-- Marks of a chain.

-- the marks of a chain have each of its cells once, as it was
pub chain_marked : (texts datas : List Cell) (ps : List Place) → AreApart ps → (p : Place) →
    cells_marked p (marks_of texts datas ps) ≡ cond (is_on ps p) (cell_at texts datas p ∷ []) []
chain_marked texts datas [] apart p = refl
chain_marked texts datas (q ∷ ps) apart p = search (rules, same_is, chain_marked texts datas ps apart.1 p)

-- Cells that get bound.

-- a cell that waits is bound, or it stays
pub bound_held : (k : ℕ) (segment : Segment) (offset : ℕ) (c : Cell) (is_bound : Bool) → (is_bound ≡ true → c.target ≡ External k) →
    HoldBound c (cond is_bound (bound_to segment offset c) c) (cond is_bound (c ∷ []) [])
bound_held k segment offset c is_bound waits = search rules

-- one change after another
pub held_then : (a b c : Cell) (ks ls : List Cell) → HoldBound a b ks → HoldBound b c ls → HoldBound a c (ks ++ ls)
held_then a b c ks ls r s = search rules
