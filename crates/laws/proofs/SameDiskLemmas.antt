-- The files that a session has left, on its disk and on another.
use Rattle.std.proofs.Common.{rules, ◌≡◌, ℕ, Bool, true, List, [], ◌∷◌, ◌++◌, Option, Some, None, refl, sym, ◌∙◌, subst}
use Rattle.std.proofs.{lemmas.List.append-nil, lemmas.List.append_assoc}
use Rattle.std.specs.{List.AllByRecursion, Prelude.◌≢◌, Prelude.IfSome, Prelude.eqb}
use Rattle.command_words.specs.Scripts.{Asked, to_add, to_withdraw}
use Rattle.link_session.specs.Edits.{without_last}
use Rattle.link_session.proofs.ListLemmas.{all_append}
use Rattle.host.specs.Events.{Event, Opened, closed, looked, opened, stored, written}
use Rattle.v7tools.specs.{LineRuns.LineRun, SessionRuns.events_of}
use Rattle.aout_core.specs.Encoding.{encoding}
use Rattle.laws.specs.Disks.{Disk, IsOn, disk_after, text_left, with_file}
use Rattle.laws.specs.SessionsByCommands.{AreThere, IsSameOn, SameDiskLaw, StoresNot, files_left, left_after, left_by, opened_by}

-- a file that is stored elsewhere changes nothing at a path
pub elsewhere : (disk : Disk) (at path : List ℕ) (bytes : Option (List ℕ)) → at ≢ path → with_file disk at bytes path ≡ disk path
elsewhere disk at path bytes other = search rules

-- after events that store nothing at a path its bytes are those before
untouched : (disk : Disk) (path : List ℕ) (events : List Event) → AllByRecursion (StoresNot path) events →
    disk_after disk events path ≡ disk path
untouched disk path [] h = refl
untouched disk path (opened at found ∷ events) h = untouched disk path events h.1
untouched disk path (closed failed ∷ events) h = untouched disk path events h.1
untouched disk path (stored at file what ∷ events) h =
    untouched (with_file disk at (text_left (encoding file) what)) path events h.1 ∙ elsewhere disk at path (text_left (encoding file) what) h.0
untouched disk path (written at text what ∷ events) h =
    untouched (with_file disk at (text_left text what)) path events h.1 ∙ elsewhere disk at path (text_left text what) h.0
untouched disk path (looked at found ∷ events) h = untouched disk path events h.1

-- later events are on the disk that the earlier ones left
later_on : (disk : Disk) (first then : List Event) → IsOn disk (first ++ then) → IsOn (disk_after disk first) then
later_on disk [] then h = h
later_on disk (opened path None ∷ events) then h = later_on disk events then h
later_on disk (opened path (Some known) ∷ events) then h = later_on disk events then h.1
later_on disk (closed failed ∷ events) then h = later_on disk events then h
later_on disk (stored path file what ∷ events) then h = later_on (with_file disk path (text_left (encoding file) what)) events then h
later_on disk (written path text what ∷ events) then h = later_on (with_file disk path (text_left text what)) events then h
later_on disk (looked path found ∷ events) then h = later_on disk events then h

all_but_last : {A : Type 0} (P : A → Type 0) (xs : List A) → AllByRecursion P xs → AllByRecursion P (without_last xs)
all_but_last P (x ∷ (y ∷ ys)) h = (h.0, all_but_last P (y ∷ ys) h.1)
all_but_last P _ h = tt

module _ (disk : Disk) (all : List Event) where
  -- if nothing is stored at the path of a file, it gave the bytes that the disk had there
  abbrev Gave : Opened → Type 0
  Gave f = AllByRecursion (StoresNot f.0) all → IfSome (disk f.0) (λ bytes. f.1 ≡ Some bytes)

  -- a disk on which only paths were changed at which something is stored
  abbrev Agrees : Disk → Type 0
  Agrees now = (path : List ℕ) → AllByRecursion (StoresNot path) all → now path ≡ disk path

  -- events that are among them
  abbrev AreAmong : List Event → Type 0
  AreAmong events = (path : List ℕ) → AllByRecursion (StoresNot path) all → AllByRecursion (StoresNot path) events

  opened_gave : (now : Disk) (events more : List Event) → Agrees now → IsOn now (events ++ more) →
      AllByRecursion Gave (opened_by events)
  opened_gave now (opened path (Some known) ∷ events) more agrees on =
      (λ h. subst (λ (d : Option (List ℕ)). IfSome d (λ bytes. known ≡ Some bytes)) (agrees path h) on.0, tt)
  opened_gave now _ more agrees on = tt

  line_gave : (a : Asked) (b : Bool) (events : List Event) (left : List Opened) → AllByRecursion Gave left →
      AllByRecursion Gave (opened_by events) → AllByRecursion Gave (left_by a b events left)
  line_gave (to_add path) true events left h k = all_append Gave left (opened_by events) h k
  line_gave to_withdraw true events left h k = all_but_last Gave left h
  line_gave _ _ events left h k = h

  lines_gave : (now : Disk) (left : List Opened) (runs : List LineRun) (more : List Event) → Agrees now → AreAmong (events_of runs) →
      IsOn now (events_of runs ++ more) → AllByRecursion Gave left → AllByRecursion Gave (left_after left runs)
  lines_gave now left [] more agrees among on h = h
  lines_gave now left (r ∷ rs) more agrees among on h =
      let on_all : IsOn now (r.events ++ (events_of rs ++ more)) =
      subst (λ (es : List Event). IsOn now es) (append_assoc r.events (events_of rs) more) on in
      let both = λ (path : List ℕ) (h : AllByRecursion (StoresNot path) all). split path r.events (events_of rs) (among path h) in
      lines_gave (disk_after now r.events) (left_by r.line (eqb r.status 0) r.events left) rs more
      (λ path h. untouched now path r.events (both path h).0 ∙ agrees path h) (λ path h. (both path h).1)
      (later_on now r.events (events_of rs ++ more) on_all)
      (line_gave r.line (eqb r.status 0) r.events left h (opened_gave now r.events (events_of rs ++ more) agrees on_all))
    where
      split : (path : List ℕ) (first then : List Event) → AllByRecursion (StoresNot path) (first ++ then) →
          AllByRecursion (StoresNot path) first × AllByRecursion (StoresNot path) then
      split path [] then h = (tt, h)
      split path (e ∷ es) then h = let both = split path es then h.1 in ((h.0, both.0), both.1)

  same_there : (other : Disk) (files : List Opened) → AllByRecursion Gave files → AllByRecursion (IsSameOn disk other all) files →
      AreThere other files
  same_there other [] h k = tt
  same_there other (f ∷ fs) h k = search (rules, (same_there other fs h.1 k.1))

pub same_disk : SameDiskLaw
same_disk before one other on same =
    same_there one (events_of before) other (files_left before)
    (lines_gave one (events_of before) one [] before [] (λ path h. refl) (λ path h. h)
    (subst (λ (es : List Event). IsOn one es) (sym (append-nil (events_of before))) on) tt) same
