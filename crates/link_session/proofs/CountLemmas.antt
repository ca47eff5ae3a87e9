-- A chain has as many places as cells that wait for its external, and each name that is bound leaves so many fewer cells to bind.
use Rattle.std.proofs.Common.{◌≡◌, ◌≢◌, ◌<◌, ◌+◌, ℕ, zero, suc, Bool, true, false, cond, ◌||◌, List, [], ◌∷◌, map, length}
use Rattle.std.proofs.Common.{is_some, refl, sym, ap, ◌∙◌, arith, rules}
use Rattle.std.specs.List.{AllByRecursion}
use Rattle.aout_core.specs.declared.symbol.Segment.{Segment}
use Rattle.link_session.specs.internal.Additions.{binding_at}
use Rattle.link_session.specs.{internal.Chains.{Link, is_on, AreApart, IsWithin, waits_at, FindsWaiting, Waits}, declared.cell.Cell.Cell}
use Rattle.link_session.specs.{declared.cell.Target.Target, declared.state.State.TheVariants.Defined, declared.mark.Place.Place}
use Rattle.link_session.specs.{declared.mark.Place.TheVariants.{InText, InData}, Cells.segment_target, Image.{Named, state_at}}
use Rattle.link_session.specs.{internal.Counts.{waiting_for, to_bind}, internal.Settled.settled_at}
use Rattle.link_session.specs.declared.cell.Target.TheVariants as targets
use Rattle.link_session.proofs.ChainLemmas.{own_number, other_number}

-- how many indices of cells pass the test
abbrev pub count_where : (ℕ → Bool) → List Cell → ℕ
count_where test [] = 0
count_where test (c ∷ cs) = cond (test 0) 1 0 + count_where (λ i. test (suc i)) cs

count_one : (f g : ℕ → Bool) (i : ℕ) (cs : List Cell) → i < length cs → f i ≡ false → g i ≡ true →
    ((j : ℕ) → i ≢ j → f j ≡ g j) → count_where g cs ≡ 1 + count_where f cs
count_one f g i [] lt off on others = absurd (omega arith)
count_one f g zero (c ∷ cs) lt off on others = search rules
count_one f g (suc i) (c ∷ cs) lt off on others =
    let rest = count_one (λ n. f (suc n)) (λ n. g (suc n)) i cs (omega arith) off on (λ j ne. others (suc j) (λ e. ne (omega arith))) in
    let first = ap (λ (t : Bool). let n : ℕ = cond t 1 0 in n) (others 0 (λ e. omega arith)) in
    omega arith

count_none : (cs : List Cell) → count_where (λ i. false) cs ≡ 0
count_none [] = refl
count_none (c ∷ cs) = let rest = count_none cs in omega arith

-- places apart and within the cells are so many
pub places_counted : (ps : List Place) (texts datas : List Cell) → AreApart ps →
    AllByRecursion (IsWithin (length texts) (length datas)) ps →
    length ps ≡ count_where (λ i. is_on ps (InText i)) texts + count_where (λ i. is_on ps (InData i)) datas
places_counted [] texts datas a h = let t = count_none texts in let d = count_none datas in omega arith
places_counted (InText i ∷ ps) texts datas a h =
    let rest = places_counted ps texts datas a.1 h.1 in
    let one = count_one (λ j. is_on ps (InText j)) (λ j. is_on (InText i ∷ ps) (InText j)) i texts h.0 a.0
    (ap (λ (t : Bool). t || is_on ps (InText i)) (own_number i))
    (λ j ne. ap (λ (t : Bool). t || is_on ps (InText j)) (sym (other_number j i (λ e. ne (sym e))))) in
    omega arith
places_counted (InData i ∷ ps) texts datas a h =
    let rest = places_counted ps texts datas a.1 h.1 in
    let one = count_one (λ j. is_on ps (InData j)) (λ j. is_on (InData i ∷ ps) (InData j)) i datas h.0 a.0
    (ap (λ (t : Bool). t || is_on ps (InData i)) (own_number i))
    (λ j ne. ap (λ (t : Bool). t || is_on ps (InData j)) (sym (other_number j i (λ e. ne (sym e))))) in
    omega arith

waiting_counted : (test : ℕ → Bool) (k : ℕ) (cs : List Cell) → FindsWaiting test k cs → count_where test cs ≡ length (waiting_for k cs)
waiting_counted test k [] h = refl
waiting_counted test k (c ∷ cs) h =
    let rest = waiting_counted (λ i. test (suc i)) k cs h.1 in
    ap (λ (t : Bool). cond t 1 0 + count_where (λ i. test (suc i)) cs) h.0 ∙ by_test (waits_at k c.target) rest
  where
    by_test : (t : Bool) → count_where (λ i. test (suc i)) cs ≡ length (waiting_for k cs) →
        cond t 1 0 + count_where (λ i. test (suc i)) cs ≡ length (cond t (c ∷ waiting_for k cs) (waiting_for k cs))
    by_test true h = omega arith
    by_test false h = omega arith

-- a chain has as many places as cells that wait
pub chain_counted : (ts ds : List Link) (head : Link) (texts datas : List Cell) (k : ℕ) →
    (w : Waits ts ds head texts datas k) → length w.places ≡ length (waiting_for k texts) + length (waiting_for k datas)
chain_counted ts ds head texts datas k w = search (rules, places_counted, waiting_counted)

segment_stays : (es : Named) (segment : Segment) (c : Cell) → is_some (binding_at es (segment_target segment) c) ≡ false
segment_stays es segment c = search rules

-- what the test whether a cell waits decides
pub waits_is : (k : ℕ) (t : Target) → waits_at k t ≡ true → t ≡ targets.External k
waits_is k t e = search rules

-- once the chain of a defined name is bound, so many fewer cells are to be bound
pub fewer_to_bind : (es : Named) (k : ℕ) (segment : Segment) (offset : ℕ) → state_at es k ≡ Defined segment offset → (cs : List Cell) →
    length (to_bind es cs) ≡ length (waiting_for k cs) + length (to_bind es (map (settled_at es k) cs))
fewer_to_bind es k segment offset at [] = refl
fewer_to_bind es k segment offset at (c ∷ cs) = search (rules, waits_is, segment_stays, fewer_to_bind es k segment offset at cs)
