-- The marks of one addition, and lists of marks near them that are not its marks.
use Rattle.std.proofs.Common.{◌≡◌, ◌≢◌, ◌<◌, List, [], ◌∷◌, ◌++◌, false, true, refl, ap, arith}
use Rattle.aout_core.specs.Contents.{Contents}
use Rattle.link_session.specs.{declared.state.State.TheVariants.Wanted, declared.mark.Mark.Mark}
use Rattle.link_session.specs.{declared.cell.Cell.Cell, declared.cell.Target.TheVariants.{Absolute, DataSeg, External}}
use Rattle.link_session.specs.{declared.mark.Mark.TheVariants.{CellWas, StateWas}, declared.mark.Place.TheVariants.InText, Image.image}
use Rattle.link_session.specs.{Marks.{IsDifference, states_changed}, Mentions.{mentions, mentions_in}, Undo.{undo, AreMarksOf, IsJournal}}
use Rattle.laws.proofs.{examples.Samples.{sym as entry_of, object, _f, _x, c_o, e_o, k_o}, examples.NearLaws.different}

-- `_x` is wanted at 4 bytes, and two words wait for it; the object wants it at 10 bytes, and then defines it
abbrev earlier : List Contents
earlier = c_o ∷ k_o ∷ []

abbrev grows_o : Contents
grows_o = object [] [] (1 ∷ 2 ∷ []) (0 ∷ 0 ∷ []) 0 (entry_of _x 0o40 10 ∷ entry_of _x 0o43 2 ∷ [])

abbrev first_was : Cell
first_was = record { value = 2; target = External 1; pc = false }

abbrev second_was : Cell
second_was = record { value = 0o177764; target = External 1; pc = true }

abbrev first_is : Cell
first_is = record { value = 4; target = DataSeg; pc = false }

abbrev untouched : Cell
untouched = record { value = 0o4767; target = Absolute; pc = false }

abbrev cell_marks : List Mark
cell_marks = CellWas (InText 3) second_was ∷ CellWas (InText 2) first_was ∷ []

abbrev its_marks : List Mark
its_marks = StateWas 1 (Wanted 4) ∷ StateWas 1 (Wanted 10) ∷ CellWas (InText 3) second_was ∷ CellWas (InText 2) first_was ∷ []

-- the marks take the addition back
abbrev Undo : List Mark → Type 0
Undo marks = undo marks (image [] (earlier ++ grows_o ∷ [])) (image [] earlier) ≡ image [] earlier

abbrev AreExact : List Mark → Type 0
AreExact marks = IsDifference [] earlier grows_o marks

its_marks_undo : Undo its_marks
its_marks_undo = refl

states_of_x : states_changed (mentions [] earlier) (mentions_in earlier grows_o) _x ≡ Wanted 4 ∷ Wanted 10 ∷ []
states_of_x = refl

states_of_f : states_changed (mentions [] earlier) (mentions_in earlier grows_o) _f ≡ []
states_of_f = refl

-- A mark of a cell, or of a name, that did not change: it does no harm to a withdrawal.

unchanged_cell_undoes : Undo (CellWas (InText 0) untouched ∷ its_marks)
unchanged_cell_undoes = refl

unchanged_cell_marked : AreExact (CellWas (InText 0) untouched ∷ its_marks) → ⊥
unchanged_cell_marked d = let bad : untouched ∷ [] ≡ [] = (d.text 0 untouched untouched refl refl).same refl in absurd (cc)

unchanged_name_undoes : Undo (StateWas 0 (Wanted 0) ∷ its_marks)
unchanged_name_undoes = refl

unchanged_name_marked : AreExact (StateWas 0 (Wanted 0) ∷ its_marks) → ⊥
unchanged_name_marked d = let bad : Wanted 0 ∷ [] ≡ [] = d.names 0 _f refl in absurd (cc)

-- A cell that is marked twice, and a state in between that never was.

cell_twice_undoes : Undo (CellWas (InText 2) first_was ∷ its_marks)
cell_twice_undoes = refl

first_changed : first_is ≢ first_was
first_changed e = let bad : DataSeg ≡ External 1 = ap (λ (c : Cell). c.target) e in absurd (cc)

cell_twice_marked : AreExact (CellWas (InText 2) first_was ∷ its_marks) → ⊥
cell_twice_marked d =
    let bad : first_was ∷ first_was ∷ [] ≡ first_was ∷ [] = (d.text 2 first_was first_is refl refl).changed first_changed in
    absurd (cc)

made_up_state_undoes : Undo (StateWas 1 (Wanted 4) ∷ StateWas 1 (Wanted 7) ∷ cell_marks)
made_up_state_undoes = refl

made_up_state : AreExact (StateWas 1 (Wanted 4) ∷ StateWas 1 (Wanted 7) ∷ cell_marks) → ⊥
made_up_state d = let bad : Wanted 4 ∷ Wanted 7 ∷ [] ≡ Wanted 4 ∷ Wanted 10 ∷ [] = d.names 1 _x refl in different 7 10 refl (cc)

-- A mark that is missing, which may be one that a withdrawal does without.

missing_state_undoes : Undo (StateWas 1 (Wanted 4) ∷ cell_marks)
missing_state_undoes = refl

missing_state : AreExact (StateWas 1 (Wanted 4) ∷ cell_marks) → ⊥
missing_state d = let bad : Wanted 4 ∷ [] ≡ Wanted 4 ∷ Wanted 10 ∷ [] = d.names 1 _x refl in absurd (cc)

missing_cell : AreExact (StateWas 1 (Wanted 4) ∷ StateWas 1 (Wanted 10) ∷ CellWas (InText 3) second_was ∷ []) → ⊥
missing_cell d = let bad : [] ≡ first_was ∷ [] = (d.text 2 first_was first_is refl refl).changed first_changed in absurd (cc)

-- The content after the change in place of that before, and two marks of one place in the wrong order.

content_after : AreExact (StateWas 1 (Wanted 4) ∷ StateWas 1 (Wanted 10) ∷ CellWas (InText 3) second_was ∷
    CellWas (InText 2) first_is ∷ []) → ⊥
content_after d =
    let bad : first_is ∷ [] ≡ first_was ∷ [] = (d.text 2 first_was first_is refl refl).changed first_changed in
    first_changed (cc)

wrong_order : AreExact (StateWas 1 (Wanted 10) ∷ StateWas 1 (Wanted 4) ∷ cell_marks) → ⊥
wrong_order d = let bad : Wanted 10 ∷ Wanted 4 ∷ [] ≡ Wanted 4 ∷ Wanted 10 ∷ [] = d.names 1 _x refl in different 10 4 refl (cc)

-- A mark of a name that was not there: it is not inside.

new_name_marked : AreMarksOf [] earlier grows_o (StateWas 2 (Wanted 0) ∷ its_marks) → ⊥
new_name_marked are = let bad : 2 < 2 = are.inside.0 in omega (arith, bad)

-- A journal in which the marks of an object that changes nothing are not empty.

idle_mark_undoes : undo (CellWas (InText 0) untouched ∷ []) (image [] (c_o ∷ e_o ∷ [])) (image [] (c_o ∷ [])) ≡ image [] (c_o ∷ [])
idle_mark_undoes = refl

idle_mark_in_journal : IsJournal [] (c_o ∷ e_o ∷ []) ([] ∷ (CellWas (InText 0) untouched ∷ []) ∷ []) → ⊥
idle_mark_in_journal j =
    let are = j.undoes 1 (omega arith) e_o refl in
    let bad : untouched ∷ [] ≡ [] = (are.difference.text 0 untouched untouched refl refl).same refl in absurd (cc)
