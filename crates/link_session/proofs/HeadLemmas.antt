-- The heads of chains while names are bound, while externals are added, and while they are cut to an earlier length.
use Rattle.std.proofs.Common.{◌≡◌, ◌≤◌, ◌+◌, ◌-◌, ℕ, zero, suc, List, [], ◌∷◌, ◌++◌, map, take, length, replicate, Some, None}
use Rattle.std.proofs.Common.{refl, sym, ap, ◌∙◌, subst, arith, length-append, append-nil, append_assoc, rules}
use Rattle.std.proofs.lemmas.List.{length-replicate, take_at}
use Rattle.link_session.specs.internal.Chains.{Link, with_head, threaded, heads_back, AreChained}
use Rattle.link_session.specs.{internal.Settled.{settled_at, settled_over}, internal.Threads.{cut_by_state, cut_heads, grown_heads}}
use Rattle.link_session.specs.{declared.cell.Cell.Cell, declared.state.State.State, declared.state.State.TheVariants.{Defined, Wanted}}
use Rattle.link_session.specs.{declared.mark.Mark.Mark, declared.mark.Mark.TheVariants.{CellWas, StateWas}, declared.mark.Place.Place}
use Rattle.link_session.specs.Image.{Named, state_at}
use Rattle.link_session.proofs.{ChainedLemmas.{cut_named, one_more_head, length-with_head}, NamesLemmas.{unsettled, all_one, none_left}}

-- Names that are bound.

length-cut_by_state : (s : State) (k : ℕ) (heads : List Link) → length (cut_by_state s k heads) ≡ length heads
length-cut_by_state s k heads = search rules

-- a head is cut in its place: there is still one for each external
pub length-cut_heads : (es : Named) (ks : List ℕ) (heads : List Link) → length (cut_heads es ks heads) ≡ length heads
length-cut_heads es [] heads = refl
length-cut_heads es (k ∷ ks) heads = cc (length-cut_heads es ks (cut_by_state (state_at es k) k heads), length-cut_by_state (state_at es k) k heads)

-- the chains of several names are bound, and cut
pub cut_all : (es : Named) (ks : List ℕ) (texts datas : List Cell) (ts ds heads : List Link) → AreChained texts datas ts ds heads →
    AreChained (map (settled_over es ks) texts) (map (settled_over es ks) datas) ts ds (cut_heads es ks heads)
cut_all es [] texts datas ts ds heads a = search (rules, none_left)
cut_all es (k ∷ ks) texts datas ts ds heads a =
    subst (λ (P : Type 0). P) (λ i. AreChained (sym (all_one es k ks texts) i) (sym (all_one es k ks datas) i) ts ds
    (cut_heads es ks (cut_by_state (state_at es k) k heads)))
    (cut_all es ks (map (settled_at es k) texts) (map (settled_at es k) datas) ts ds
    (cut_by_state (state_at es k) k heads) (one (state_at es k) refl))
  where
    one : (s : State) → state_at es k ≡ s →
        AreChained (map (settled_at es k) texts) (map (settled_at es k) datas) ts ds (cut_by_state s k heads)
    one (Defined segment offset) e = cut_named texts datas ts ds heads a es k segment offset e
    one (Wanted size) e =
        subst (λ (P : Type 0). P) (λ i. AreChained (unsettled es k size e texts i) (unsettled es k size e datas i) ts ds heads) a

-- Names that are added.

-- an external that is new has no chain, and the others keep theirs
pub more_heads : (n : ℕ) (texts datas : List Cell) (ts ds heads : List Link) → AreChained texts datas ts ds heads →
    AreChained texts datas ts ds (heads ++ replicate n None)
more_heads zero texts datas ts ds heads a = subst (λ (hs : List Link). AreChained texts datas ts ds hs) (sym (append-nil heads)) a
more_heads (suc n) texts datas ts ds heads a = search (
  rules,
  append_assoc,
  one_more_head,
  more_heads n texts datas ts ds (heads ++ None ∷ [])
      (one_more_head texts datas ts ds heads a),
)

-- the same, if there are enough heads already
pub grown_chained : (n : ℕ) (texts datas : List Cell) (ts ds heads : List Link) → AreChained texts datas ts ds heads →
    AreChained texts datas ts ds (grown_heads n heads)
grown_chained n texts datas ts ds heads a = more_heads (n - length heads) texts datas ts ds heads a

-- after growing there is a head for each external
pub length-grown_heads : (n : ℕ) (heads : List Link) → length heads ≤ n → length (grown_heads n heads) ≡ n
length-grown_heads n heads h = search (rules, length-append, length-replicate)

-- externals without heads before
pub grown_none : (n : ℕ) → grown_heads n [] ≡ replicate n None
grown_none n = ap (λ (k : ℕ). let hs : List Link = replicate k None in hs) (let e : n - 0 ≡ n = omega arith in e)

-- heads cut to the length that they had
pub cut_grown : (n k : ℕ) (heads : List Link) → length heads ≡ k → take k (grown_heads n heads) ≡ heads
cut_grown n k heads e = take_at heads (replicate (n - length heads) None) k e

-- Cells that are put in front.

-- cells that are put in front of their chains add no head
pub length-threaded_heads : (at : ℕ → Place) (n : ℕ) (cs : List Cell) (heads : List Link) → length (threaded at n cs heads).1 ≡ length heads
length-threaded_heads at n [] heads = refl
length-threaded_heads at n (c ∷ cs) heads = search (rules, length-with_head, length-threaded_heads at (n + 1) cs (with_head c.target (Some (at n)) heads))

-- Heads that are put back.

-- nor do marks that are put back
pub length-heads_back : (ks : List Mark) (heads : List Link) → length (heads_back ks heads) ≡ length heads
length-heads_back [] heads = refl
length-heads_back (CellWas p c ∷ ks) heads = length-with_head (heads_back ks heads) c.target (Some p) ∙ length-heads_back ks heads
length-heads_back (StateWas i s ∷ ks) heads = length-heads_back ks heads
