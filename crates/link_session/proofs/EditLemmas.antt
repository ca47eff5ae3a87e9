-- What an addition and a withdrawal leave.
use Rattle.std.proofs.Common.{◌≡◌, List, [], ◌∷◌, ◌++◌, Some, refl, ap}
use Rattle.link_session.specs.{Labelled.Labelled, Edits.last_of, Edits.without_last}

-- the last of what is kept after an addition
pub last_of-put_last : (es : List Labelled) (e : Labelled) → last_of (es ++ e ∷ []) ≡ Some e
last_of-put_last [] e = refl
last_of-put_last (d ∷ []) e = refl
last_of-put_last (d ∷ (c ∷ es)) e = last_of-put_last (c ∷ es) e

-- what is kept after an addition and a withdrawal
pub without_last-put_last : (es : List Labelled) (e : Labelled) → without_last (es ++ e ∷ []) ≡ es
without_last-put_last [] e = refl
without_last-put_last (d ∷ []) e = refl
without_last-put_last (d ∷ (c ∷ es)) e = ap (λ fs. d ∷ fs) (without_last-put_last (c ∷ es) e)
