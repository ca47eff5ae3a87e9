-- What is done at each of some paths, from what comes of those that are left.
use Rattle.std.proofs.Common.{◌≡◌, ℕ, ◌<◌, ◌+◌, List, [], ◌∷◌, ◌++◌, Some, false, length, drop, get_or, map, refl, sym, ap, ◌∙◌, subst, inl, inr}
use Rattle.std.proofs.lemmas.List.{drop_more}
use Rattle.std.specs.Prelude.{Result, Ok, Err}
use Rattle.aout_core.specs.Refusals.{refused}
use Rattle.host.specs.{Events.History, Programs.Step, declared.answer.Fault.Fault, declared.answer.Fault.TheVariants.Memory}
use Rattle.v7_origin.specs.{Runs.{Each, EndsFor, ReadsFor, Takes, taken}, Whole.Source, internal.Lists.after}
use Rattle.v7_origin.specs.{declared.reading.PathFrom.PathFrom, declared.reading.PathFrom.TheVariants.{Arguments, Folder}}

-- the next of some items
pub one_left : {A : Type 0} (all : List A) (i : ℕ) (x : A) → i < length all → x ≡ get_or all i x → drop i all ≡ x ∷ drop (i + 1) all
one_left all i x within is = drop_more all i x within ∙ ap (λ y. y ∷ drop (i + 1) all) (sym is)

module _ {A : Type 0} (Does : List ℕ → A → Step A) (all : List (List ℕ)) (start : A) (old : History) where
  -- what comes of the paths that are left comes of all
  abbrev pub GoesOn : History → A → List (List ℕ) → Type 0
  GoesOn mid so left = (new : History) → (result : Result A Fault) → Each Does left so mid new result → Each Does all start old new result

  pub each_ends : (mid new : History) (so : A) (left later : List (List ℕ)) (path : List ℕ) (fault : Fault) → GoesOn mid so left →
      left ≡ path ∷ later → Does path so mid new (Err fault) → Each Does all start old new (Err fault)
  each_ends mid new so left later path fault inv e h =
      inv new (Err fault) (subst (λ paths. Each Does paths so mid new (Err fault)) (sym e) (inl (fault, h, refl)))

  pub each_more : (mid next : History) (so more : A) (left later : List (List ℕ)) (path : List ℕ) → GoesOn mid so left →
      left ≡ path ∷ later → Does path so mid next (Ok more) → GoesOn next more later
  each_more mid next so more left later path inv e h new result k =
      inv new result (subst (λ paths. Each Does paths so mid new result) (sym e) (inr (more, next, h, k)))

  pub each_all : (mid : History) (so : A) (left : List (List ℕ)) → GoesOn mid so left → left ≡ [] → Each Does all start old mid (Ok so)
  each_all mid so left inv e = inv mid (Ok so) (subst (λ paths. Each Does paths so mid mid (Ok so)) (sym e) (refl, refl))

-- ---- one file

-- there is no memory for it
not_taken : (from : PathFrom) (old new : History) (path bytes : List ℕ) → ReadsFor from old new path bytes → EndsFor from old new path (Memory refused)
not_taken Arguments old new path bytes h = inl (Some h.0, false, h.1, tt)
not_taken Folder old new path bytes h = (Some h.0, false, h.1, tt)

module _ (from : PathFrom) (old new : History) (path : List ℕ) (so more : List Source) (result : Result (Unit {0}) Fault) where
  pub take_ends : (fault : Fault) → EndsFor from old new path fault → result ≡ Err fault → Takes from path so old new (after more result)
  take_ends fault h is = rw is h

  pub take_stops : (bytes : List ℕ) → ReadsFor from old new path bytes → result ≡ Err (Memory refused) →
      Takes from path so old new (after more result)
  take_stops bytes h is = rw is (not_taken from old new path bytes h)

  pub takes : (bytes : List ℕ) → ReadsFor from old new path bytes → more ≡ so ++ taken from path bytes → result ≡ Ok tt →
      Takes from path so old new (after more result)
  takes bytes h e is = rw is (bytes, h, e)

pub ruleset by_taken = (take_ends, take_stops, takes)
