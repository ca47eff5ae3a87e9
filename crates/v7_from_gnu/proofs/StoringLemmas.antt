-- Objects that are stored one after another.
use Rattle.std.proofs.Common.{◌≡◌, ℕ, ◌<◌, List, [], ◌∷◌, length, drop, get_or, drop-cons, suc, false, refl, sym, ap, ◌∙◌, subst}
use Rattle.aout_core.specs.Contents.{Contents}
use Rattle.std.specs.Prelude.{Result}
use Rattle.host.specs.{Answer.Answer, Events.History, Events.Extends, Events.stored, Answers.EndsOr, Programs.either, Sources.is_kept}
use Rattle.host.specs.{declared.answer.Fault.Fault, declared.file_system.Stored.Stored}
use Rattle.v7_from_gnu.specs.{Runs.IsStoring, Jobs.Target}

-- one is not stored
stores_none : (old new : History) (t : Target) (ts : List Target) (what : Stored)
    (result : Result Answer Fault) → Extends old new (stored t.source.to t.object what ∷ []) →
    is_kept what ≡ false → EndsOr 2 result → IsStoring (t ∷ ts) old new result
stores_none old new t ts what result asked is h =
    (what, new, asked, subst (λ kept. either kept (IsStoring ts new new result) ((new ≡ new) × EndsOr 2 result)) (sym is) (refl, h))

-- what comes of the objects that are left comes of all, and one of them is not stored
pub stops_storing : (old mid new : History) (all : List Target) (i : ℕ) (t : Target) (path : List ℕ)
    (file : Contents) (what : Stored) (result : Result Answer Fault) →
    ((next : History) (end : Result Answer Fault) → IsStoring (drop i all) mid next end →
    IsStoring all old next end) → i < length all → t ≡ get_or all i t →
    Extends mid new (stored path file what ∷ []) → path ≡ t.source.to → file ≡ t.object → is_kept what ≡ false →
    EndsOr 2 result → IsStoring all old new result
stops_storing old mid new all i t path file what result inv within at asked p f is h =
    let left = drop-cons all i t within ∙ ap (λ (x : Target). x ∷ drop (suc i) all) (sym at) in
    let stores = subst (λ (one : List ℕ). Extends mid new (stored one t.object what ∷ [])) p
    (subst (λ (one : Contents). Extends mid new (stored path one what ∷ [])) f asked) in
    inv new result (subst (λ (ts : List Target). IsStoring ts mid new result) (sym left)
    (stores_none mid new t (drop (suc i) all) what result stores is h))
