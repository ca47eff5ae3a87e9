-- Marks put back in turn, the prefixes of lists that grow, and what cells await.
use Rattle.std.proofs.Common.{◌≡◌, ℕ, zero, suc, ◌≤◌, List, [], ◌∷◌, ◌++◌, map, take, length, Option, None, refl, ap, arith, rules}
use Rattle.std.proofs.lemmas.List.{length-map, take_at}
use Rattle.std.specs.Prelude.{slice_index_or}
use Rattle.link_session.specs.{declared.cell.Cell.Cell, declared.cell.Target.Target, declared.state.State.State, declared.mark.Mark.Mark}
use Rattle.link_session.specs.{Mentions.Mention, States.Definition, States.first_definition, Image.Image, Undo.with_state, Undo.put_back}
use Rattle.link_session.specs.{Undo.put_all_back}
use Rattle.link_session.specs.declared.cell.Target.TheVariants as targets
use Rattle.link_session.proofs.CellLemmas.{rebound, bound}

-- marks are put back one part after the other
pub put_all_back-append : (ks ls : List Mark) (m : Image) → put_all_back (ks ++ ls) m ≡ put_all_back ks (put_all_back ls m)
put_all_back-append [] ls m = refl
put_all_back-append (k ∷ ks) ls m = ap (λ (n : Image). put_back k n) (put_all_back-append ks ls m)

-- a list that grows, or whose states change, after its first n elements
pub take_grown : {A : Type 0} (xs ys : List A) (n : ℕ) → n ≤ length xs → take n (xs ++ ys) ≡ take n xs
take_grown xs ys zero h = refl
take_grown [] ys (suc n) h = absurd (omega arith)
take_grown {A = A} (x ∷ xs) ys (suc n) h = ap (λ (zs : List A). x ∷ zs) (take_grown xs ys n (omega arith))

-- a state that is written after the first n entries leaves these alone
pub take_with_state : (es : List (List ℕ × State)) (n i : ℕ) (s : State) → n ≤ i → take n (with_state es i s) ≡ take n es
take_with_state [] n i s h = refl
take_with_state (e ∷ es) zero i s h = refl
take_with_state (e ∷ es) (suc n) zero s h = absurd (omega arith)
take_with_state (e ∷ es) (suc n) (suc i) s h = ap (λ (zs : List (List ℕ × State)). e ∷ zs) (take_with_state es n i s (omega arith))

-- what an addition defines for a cell with this target
abbrev pub awaited : List (List ℕ) → List Mention → Target → Option Definition
awaited names later (targets.External i) = first_definition later (slice_index_or names i [])
awaited names later _ = None

-- what later mentions make of a cell depends only on what they define for its target
pub bound-awaited : (names : List (List ℕ)) (later : List Mention) (c : Cell) →
    bound names later c ≡ rebound (awaited names later c.target) c
bound-awaited names later c = search rules

-- the first elements of a longer list, each changed
pub cut_front : {A : Type 0} (f : A → A) (xs ys : List A) → take (length xs) (map f xs ++ ys) ≡ map f xs
cut_front f xs ys = take_at (map f xs) ys (length xs) (length-map xs f)
