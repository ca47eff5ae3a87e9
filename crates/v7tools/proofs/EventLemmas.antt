-- Histories that grow.
use Rattle.std.proofs.Common.{rules, ◌≡◌, ℕ, List, [], ◌∷◌, ◌++◌, map, Option, Some, None, Result, Ok, Err, refl, sym, ap, ◌∙◌}
use Rattle.std.proofs.lemmas.List.{append_assoc, append-nil, map-append}
use Rattle.std.specs.{declared.alloc.Global.Global, Prelude.IsErrAnd, Prelude.String, Prelude.string_bytes}
use Rattle.v7tools.specs.{declared.fault.CliFault.CliFault, internal.Openings.sources, LinkRuns.StopsAt}
use Rattle.aout_core.specs.{Wires.Latched, Contents.Contents}
use Rattle.host.proofs.EventLemmas.{asked_after}
use Rattle.host.specs.{Events.{History, Extends, opened, opens, paths_of, stored}, declared.file_system.Stored.Stored}

-- none are left
pub no_more : {A : Type 0} (all before left : List A) → all ≡ before ++ left → left ≡ [] → all ≡ before
no_more {A} all before left h e = h ∙ ap (λ (l : List A). before ++ l) e ∙ append-nil before

-- a list so far, and what is left after one more of its items
pub one_more : {A : Type 0} (all before left later : List A) (x : A) → all ≡ before ++ left → left ≡ x ∷ later →
    all ≡ (before ++ x ∷ []) ++ later
one_more {A} all before left later x order split = order ∙ ap (λ (l : List A). before ++ l) split ∙ sym (append_assoc before (x ∷ []) later)

module _ {R : Type 0} (remaining : R → Option (List ℕ)) where
  -- one more file is opened
  pub opens_more : (a b c : History) (inputs : List (String Global × Latched R)) (i : String Global × Latched R) →
      Extends a b (opens (sources remaining inputs)) →
      Extends b c (opened (string_bytes i.0) (Some (remaining i.1.device)) ∷ []) →
      Extends a c (opens (sources remaining (inputs ++ i ∷ [])))
  opens_more a b c inputs i h k = search (rules, map-append, asked_after)

  -- the paths of the files that were opened
  pub paths_opened : (inputs : List (String Global × Latched R)) →
      map string_bytes (map (λ i. i.0) inputs) ≡ paths_of (sources remaining inputs)
  paths_opened [] = refl
  paths_opened (i ∷ is) = ap (λ (l : List (List ℕ)). string_bytes i.0 ∷ l) (paths_opened is)

  pub stops_at : (a b c : History) (files left later : List (String Global)) (path : String Global)
      (inputs : List (String Global × Latched R)) → Extends a b (opens (sources remaining inputs)) →
      files ≡ map (λ i. i.0) inputs ++ left → left ≡ path ∷ later → Extends b c (opened (string_bytes path) None ∷ []) →
      StopsAt a c (map string_bytes files) (string_bytes path)
  stops_at a b c files left later path inputs h order e k = search (rules, map-append, paths_opened, asked_after)

pub opened_at : (b c : History) (at path : List ℕ) (came known : Option (Option (List ℕ))) →
    Extends b c (opened at came ∷ []) → at ≡ path → came ≡ known → Extends b c (opened path known ∷ [])
opened_at b c at path came known h p k = rw (sym p, sym k) h

pub stored_at : (b c : History) (at path : List ℕ) (file : Contents) (what : Stored) →
    Extends b c (stored at file what ∷ []) → at ≡ path → Extends b c (stored path file what ∷ [])
stored_at b c at path file what h p = rw (sym p) h

-- a fault that is passed on as it is
pub passed_on : {A : Type 0} (r : Result A CliFault) (fault : CliFault) → IsErrAnd r (λ e. e ≡ fault) → r ≡ Err fault
passed_on (Ok x) fault h = absurd h
passed_on {A} (Err e) fault h = ap (λ (f : CliFault). let err : Result A CliFault = Err f in err) h
