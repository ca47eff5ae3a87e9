-- Files that are read and stored one after another, and lists of them, from their parts.
use Rattle.std.proofs.Common.{rules, ◌≡◌, ◌↔◌, ℕ, Bool, true, false, List, [], ◌∷◌, ◌++◌, map, Option, Some, None, Result, Ok, Err, refl, sym, ap, ◌∙◌, subst, inr}
use Rattle.std.proofs.lemmas.{List.{map-append}, Grind.flat_map-append}
use Rattle.std.specs.{declared.alloc.Global.Global, Prelude.String, Prelude.string_bytes, Prelude.IfSome, Prelude.IsTrue}
use Rattle.aout_core.specs.{Contents.Contents, Decoding.decode, Reading.IsReadOf, Reading.LeavesAfter, Refusals.{device_fault, refused}}
use Rattle.aout_core.specs.{Strip.stripped, declared.file.ReadFault.ReadFault}
use Rattle.aout_core.specs.declared.file.ReadFault.TheVariants as reads
use Rattle.host.specs.{Events.{Event, History, Extends, Opened, closed, opened, stored}, Sources.reading, declared.file_system.Stored.Stored}
use Rattle.host.specs.declared.file_system.Stored.TheVariants.{Kept}
use Rattle.v7tools.specs.FileRuns.{AreRead, IsStored, IsLoadAt, IsStripping, Loaded, Reads, ReadsNotAll, readings, strips}
use Rattle.v7tools.specs.Loads.{IsAtPath, read_of}
use Rattle.v7tools.specs.declared.fault.CliFault.TheVariants as faults
use Rattle.v7tools.specs.declared.fault.CliFault.{CliFault}
use Rattle.host.proofs.EventLemmas.{asked_after}
use Rattle.v7tools.proofs.EventLemmas.{one_more}

read_after : (found : List Opened) (loaded : List Loaded) (known : Option (List ℕ)) (l : Loaded) → AreRead found loaded →
    IfSome known (λ bytes. decode bytes ≡ Ok l.1) → AreRead (found ++ (string_bytes l.0, known) ∷ []) (loaded ++ l ∷ [])
read_after [] [] known l h k = ((refl, k), tt)
read_after [] (m ∷ ms) known l h k = absurd h
read_after (f ∷ fs) [] known l h k = absurd h
read_after (f ∷ fs) (m ∷ ms) known l h k = (h.0, read_after fs ms _ l h.1 k)

-- one more file is read
pub reads_more : (a b c : History) (loaded : List Loaded) (path : String Global) (l : Loaded) → Reads a b loaded →
    IsLoadAt b c path (Ok l) → Reads a c (loaded ++ l ∷ [])
reads_more a b c loaded path l h (same, (known, grows, holds)) =
    let at = subst (λ (p : String Global). Extends b c (reading (string_bytes p) (Some known) false)) (sym same) grows in
    let joined = flat_map-append (λ (f : Opened). reading f.0 (Some f.1) false) h.found ((string_bytes l.0, known) ∷ []) in
    record {
      found = h.found ++ (string_bytes l.0, known) ∷ [];
      read = read_after h.found loaded known l h.read holds;
      asked = subst (Extends a c) (sym joined)
          (asked_after a b c (readings h.found) (reading (string_bytes l.0) (Some known) false) h.asked at);
    }

-- what was read of a file that was then closed
of_bytes : (known : Option (List ℕ)) (result : Result Contents ReadFault) (left : Option (List ℕ)) →
    IfSome known (λ bytes. IsReadOf result bytes × LeavesAfter result bytes left) → IfSome known (IsReadOf result)
of_bytes None result left h = tt
of_bytes (Some bytes) result left h = h.0

module _ (a b c : History) (path : String Global) (known left : Option (List ℕ))
    (opens : Extends a b (opened (string_bytes path) (Some known) ∷ [])) where
  read_and_closed : (failed : Bool) → Extends b c (closed failed ∷ []) → Extends a c (reading (string_bytes path) (Some known) failed)
  read_and_closed failed closes =
      asked_after a b c (opened (string_bytes path) (Some known) ∷ []) (closed failed ∷ []) opens closes

  pub load_closed : (failed : Bool) (result : Result Loaded CliFault) → Extends b c (closed failed ∷ []) → IsAtPath path result →
      ((read_of result ≡ Err (reads.Device device_fault)) ↔ IsTrue failed) →
      IfSome known (λ bytes. IsReadOf (read_of result) bytes × LeavesAfter (read_of result) bytes left) → IsLoadAt a c path result
  load_closed false (Ok loaded) closes at device holds =
      (at, (known, read_and_closed false closes, of_bytes known (Ok loaded.1) left holds))
  load_closed true (Ok loaded) closes at device holds = absurd (let e = device.1 refl in cc)
  load_closed true (Err (faults.BadFile p (reads.Device f))) closes at device holds =
      (at.0, at.1, (known, read_and_closed true closes, of_bytes known (Err (reads.Device f)) left holds))
  load_closed false (Err (faults.BadFile p (reads.Device f))) closes at device holds = absurd (let e = device.0 refl in cc)
  load_closed false (Err (faults.BadFile p fault)) closes at device holds =
      (at.0, at.1, (known, read_and_closed false closes, of_bytes known (Err fault) left holds))
  load_closed true (Err (faults.BadFile p fault)) closes at device holds = absurd (let e = device.1 refl in cc)
  load_closed false (Err (faults.Memory r)) closes at device holds =
      (known, read_and_closed false closes, of_bytes known (Err (reads.Memory refused)) left holds)
  load_closed true (Err (faults.Memory r)) closes at device holds = absurd (let e = device.1 refl in cc)
  load_closed failed (Err fault) closes at device holds = absurd at

-- the paths of what was read and those that are left
pub paths_more : (files left later : List (String Global)) (loaded : List Loaded) (path : String Global) (l : Loaded) →
    files ≡ map (λ f. f.0) loaded ++ left → left ≡ path ∷ later → l.0 ≡ path →
    files ≡ map (λ f. f.0) (loaded ++ l ∷ []) ++ later
paths_more files left later loaded path l h e same = search (rules, map-append, one_more)

-- one is not read
pub stops_reading : (a b c : History) (files left later : List (String Global)) (loaded : List Loaded) (path : String Global)
    (fault : CliFault) → Reads a b loaded → files ≡ map (λ f. f.0) loaded ++ left → left ≡ path ∷ later →
    IsLoadAt b c path (Err fault) → ReadsNotAll a c files fault
stops_reading a b c files left later loaded path fault h order e k = inr (record {
  loaded = loaded;
  path = path;
  rest = later;
  order = order ∙ ap (λ (l : List (String Global)). map (λ f. f.0) loaded ++ l) e;
  between = b;
  before = h;
  last = k;
})

-- ---- strip

abbrev pub strips_all : List Loaded → List Event
strips_all loaded = map (λ l. strips l Kept) loaded

-- one more file is stored
pub strips_more : (a b c : History) (done : List Loaded) (l : Loaded) (what : Stored) → Extends a b (strips_all done) →
    Extends b c (strips l what ∷ []) → IsStored l.0 what (Ok tt) → Extends a c (strips_all (done ++ l ∷ []))
strips_more a b c done l Kept h k is = subst (Extends a c) (sym (map-append _ done (l ∷ []))) (asked_after a b c _ _ h k)
strips_more a b c done l what h k is = absurd (cc)

-- one is not stored
pub stops_storing : (a b c : History) (loaded done left later : List Loaded) (l : Loaded) (what : Stored) (fault : CliFault) →
    loaded ≡ done ++ left → left ≡ l ∷ later → Extends a b (strips_all done) → Extends b c (strips l what ∷ []) →
    IsStored l.0 what (Err fault) → IsStripping a c loaded (Err fault)
stops_storing a b c loaded done left later l what fault order e h k is = record {
  front = done;
  last = l;
  rest = later;
  what = what;
  order = order ∙ ap (λ (xs : List Loaded). done ++ xs) e;
  asked = asked_after a b c _ _ h k;
  fails = is;
}

pub strip_at : (b c : History) (at : List ℕ) (file : Contents) (l : Loaded) (what : Stored) →
    Extends b c (stored at file what ∷ []) → at ≡ string_bytes l.0 → file ≡ stripped l.1 → Extends b c (strips l what ∷ [])
strip_at b c at file l what h p f = rw (sym p, sym f) h
