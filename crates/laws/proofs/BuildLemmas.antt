-- Builds, step by step: what the file at each path stands for.
use Rattle.std.proofs.Common.{◌≡◌, ◌⊎◌, ℕ, ◌≤◌, Bool, true, false, cond, List, [], ◌∷◌, ◌++◌, map, length, Option, Some, None}
use Rattle.std.proofs.Common.{Result, Ok, Err, IsErr, append-nil, refl, sym, ap, ◌∙◌, subst, inl, inr, arith}
use Rattle.std.specs.{Prelude.{bytes_eq, eqb, if◌then◌else◌, is_err}, List.{AllByRecursion, flat_map}}
use Rattle.aout_core.specs.{Contents.{Contents, IsSound}, Decoding.decode, Encoding.encoding, WellFormed.IsWellFormed, Words.AreBytes}
use Rattle.aout_core.proofs.{EncodingLemmas.decode-encoding, EncodesLemmas.decoded_sound}
use Rattle.link_session.specs.{Limits.limit_passed, Labelled.{Labelled, objects}, Mentions.mentions, States.multiple_names}
use Rattle.link_session.proofs.ListLemmas.{all_split}
use Rattle.laws.proofs.BuildObjects.{was_read, AreFrom, AreInto, AreObjects, GroupInto, group_both, linked_alike, none_within, not_both}
use Rattle.laws.proofs.{LeftLemmas.same_value, BuildRuns.{Did, IsNone, Stores, StoredLink, answer_by_bytes, did, refusal_line, stored_link}}
use Rattle.laws.proofs.BuildObjects.{object_read, objects_append, objects_split, same_fault, same_objects, taken}
use Rattle.laws.proofs.SameDiskLemmas.{elsewhere as untouched}
use Rattle.laws.proofs.{BuildObjects.{all_well_formed, linked_too, none_too, taken_too}, BuildSounds.{forced_are_names, partial_is_sound}}
use Rattle.link_out.specs.{declared.linked.LinkFault.LinkFault, Outcomes.outcome_of, laws.PartialLinks.IsPartialLink}
use Rattle.link_out.specs.{Inputs.{Refusal, linked, not_linked, object_in, with_inputs}, Steps.{and_then, refused_as}}
use Rattle.link_out.specs.{function.Link.{Outcome, link}, function.Reports.{ReportNames, report_text, status_of}}
use Rattle.link_out.proofs.partial_links.PartialTheorem.{relocatable_is_object}
use Rattle.tool_options.specs.{declared.options.Keep.Keep, Choices.Choices}
use Rattle.host.specs.{Events.{Opened, opens, stored}, declared.file_system.Stored.TheVariants.Kept}
use Rattle.laws.specs.Builds.{AreLdRuns, BuildsLaw, Command, EndAlike, IsBuild, NoneIsMultiple, OnceLaw, ElsewhereLaw, Holds, IsLdRun}
use Rattle.laws.specs.Builds.{Leaves, MayReplace, SayAlike, StoreAlike, at_once, disk_left, itself, leaves_after, leaves_of}
use Rattle.laws.specs.{PartialLinksAmongOthers.grouped, Disks.{Disk, Run, IsOn, Writes, disk_after, with_file}, SessionsByCommands.Says}

-- ---- lists of files

abbrev Known : Type 0
Known = List ℕ × List ℕ

abbrev paths : List Known → List (List ℕ)
paths files = map (λ (f : Known). f.0) files

record Halves (files : List Known) (ps qs : List (List ℕ)) : Type 0 where
  front : List Known
  rest : List Known
  is : files ≡ front ++ rest
  first : paths front ≡ ps
  second : paths rest ≡ qs

halves : (files : List Known) (ps qs : List (List ℕ)) → paths files ≡ ps ++ qs → Halves files ps qs
halves files [] qs e = record { front = []; rest = files; is = refl; first = refl; second = e }
halves [] (p ∷ ps) qs e = absurd (cc)
halves (f ∷ fs) (p ∷ ps) qs e =
    let rest : paths fs ≡ ps ++ qs = cc in
    let at : f.0 ≡ p = cc in
    one_more f fs p ps qs at (halves fs ps qs rest)
  where
    one_more : (f : Known) (fs : List Known) (p : List ℕ) (ps qs : List (List ℕ)) → f.0 ≡ p → Halves fs ps qs → Halves (f ∷ fs) (p ∷ ps) qs
    one_more f fs p ps qs at h = record {
      front = f ∷ h.front;
      rest = h.rest;
      is = λ i. f ∷ h.is i;
      first = λ i. at i ∷ h.first i;
      second = h.second;
    }

abbrev AreOfBytes : List Known → Type 0
AreOfBytes files = AllByRecursion (λ (f : Known). AreBytes f.1) files

holds_split : (disk : Disk) (front rest : List Known) → Holds disk (front ++ rest) → Holds disk front × Holds disk rest
holds_split disk [] rest h = (tt, h)
holds_split disk (f ∷ fs) rest h = let s = holds_split disk fs rest h.1 in ((h.0, s.0), s.1)

-- another disk that has the same at these paths
holds_there : (one other : Disk) (files : List Known) → AllByRecursion (λ (path : List ℕ). other path ≡ one path) (paths files) →
    Holds one files → Holds other files
holds_there one other [] same h = tt
holds_there one other (f ∷ fs) same h = (same.0 ∙ h.0, holds_there one other fs same.1 h.1)

-- ---- what stands at a path

module _ (forced : List (List ℕ)) (less : Keep) (disk : Disk) where
  -- the bytes of a partial link of the objects in these files, perhaps of partial links of them
  record IsLinkOfThem (files : List Known) (bytes : List ℕ) : Type 0 where
    os : List Contents
    are : AreObjects files os
    object : Contents
    is : object_in (decode bytes) ≡ Ok object
    groups : GroupInto forced less os (object ∷ [])

  -- at a path is a file that was there before, alone, or a link of these files
  record IsAtPath (now : Disk) (path : List ℕ) (files : List Known) : Type 0 where
    bytes : List ℕ
    there : now path ≡ Some bytes
    how : (files ≡ (path, bytes) ∷ []) ⊎ IsLinkOfThem files bytes
    sound : (c : Contents) → object_in (decode bytes) ≡ Ok c → IsSound c

  abbrev AllAreAt : Disk → Leaves → Type 0
  AllAreAt now of =
      (path : List ℕ) (files : List Known) → paths files ≡ of path → Holds disk files → AreOfBytes files → IsAtPath now path files

  all_are_at : AllAreAt disk itself
  all_are_at path [] e h small = absurd (cc)
  all_are_at path (f ∷ []) e h small =
      let at : f.0 ≡ path = cc in
      record {
        bytes = f.1;
        there = ap disk (sym at) ∙ h.0;
        how = inl (λ i. (at i, f.1) ∷ []);
        sound = λ c e. decoded_sound f.1 c small.0 (was_read (decode f.1) c e);
      }
  all_are_at path (f ∷ (g ∷ fs)) e h small = absurd (cc)

  -- ---- inputs

  -- the inputs at these paths, and the files for which they stand
  record Ready (now : Disk) (ps : List (List ℕ)) (files : List Known) : Type 0 where
    ins : List Known
    at : paths ins ≡ ps
    there : Holds now ins
    forward : (cs : List Contents) → AreObjects ins cs → AreFrom forced less files cs
    backward : (os : List Contents) → AreObjects files os → AreInto forced less ins os
    sound : (cs : List Contents) → AreObjects ins cs → AllByRecursion IsSound cs

  from_one : (now : Disk) (path : List ℕ) (files : List Known) (s : IsAtPath now path files) (c : Contents) →
      object_in (decode s.bytes) ≡ Ok c → AreFrom forced less files (c ∷ [])
  from_one now path files s c e = by_how s.how
    where
      by_how : (files ≡ (path, s.bytes) ∷ []) ⊎ IsLinkOfThem files s.bytes → AreFrom forced less files (c ∷ [])
      by_how (inl same) = record {
        os = c ∷ [];
        are = subst (λ (fs : List Known). AreObjects fs (c ∷ [])) (sym same) (e, tt);
        groups = λ whole before after g. g;
      }
      by_how (inr m) = record {
        os = m.os;
        are = m.are;
        groups = subst (λ (x : Contents). GroupInto forced less m.os (x ∷ [])) (same_value m.object c (sym m.is ∙ e)) m.groups;
      }

  -- an object for which these stand
  record OneInto (bytes : List ℕ) (os : List Contents) : Type 0 where
    object : Contents
    is : object_in (decode bytes) ≡ Ok object
    groups : GroupInto forced less os (object ∷ [])

  only_object : (f : Known) (os : List Contents) → AreObjects (f ∷ []) os → OneInto f.1 os
  only_object f [] h = absurd h
  only_object f (o ∷ []) h = record { object = o; is = h.0; groups = λ whole before after g. g }
  only_object f (o ∷ (p ∷ ps)) h = absurd h.1

  into_one : (now : Disk) (path : List ℕ) (files : List Known) (s : IsAtPath now path files) (os : List Contents) →
      AreObjects files os → OneInto s.bytes os
  into_one now path files s os are = by_how s.how
    where
      by_how : (files ≡ (path, s.bytes) ∷ []) ⊎ IsLinkOfThem files s.bytes → OneInto s.bytes os
      by_how (inl same) = only_object (path, s.bytes) os (subst (λ (fs : List Known). AreObjects fs os) same are)
      by_how (inr m) = record {
        object = m.object;
        is = m.is;
        groups =
            subst (λ (xs : List Contents). GroupInto forced less xs (m.object ∷ [])) (same_objects files m.os os m.are are) m.groups;
      }

  ready : (now : Disk) (of : Leaves) → AllAreAt now of → (ps : List (List ℕ)) (files : List Known) → paths files ≡ flat_map of ps →
      Holds disk files → AreOfBytes files → Ready now ps files
  ready now of all [] [] e h small = record {
    ins = [];
    at = refl;
    there = tt;
    forward = nothing_from;
    backward = nothing_into;
    sound = nothing_sound;
  }
    where
      nothing_from : (cs : List Contents) → AreObjects [] cs → AreFrom forced less [] cs
      nothing_from [] k = record { os = []; are = tt; groups = λ whole before after g. g }
      nothing_from (c ∷ cs) k = absurd k

      nothing_sound : (cs : List Contents) → AreObjects [] cs → AllByRecursion IsSound cs
      nothing_sound [] k = tt
      nothing_sound (c ∷ cs) k = absurd k

      nothing_into : (os : List Contents) → AreObjects [] os → AreInto forced less [] os
      nothing_into [] k = record { cs = []; are = tt; groups = λ whole before after g. g }
      nothing_into (c ∷ cs) k = absurd k
  ready now of all [] (f ∷ fs) e h small = absurd (cc)
  ready now of all (p ∷ ps) files e h small =
      let s = halves files (of p) (flat_map of ps) e in
      let held = holds_split disk s.front s.rest (subst (λ (fs : List Known). Holds disk fs) s.is h) in
      let bytes =
      all_split (λ (f : Known). AreBytes f.1) s.front s.rest (subst (λ (fs : List Known). AreOfBytes fs) s.is small) in
      let one = all p s.front s.first held.0 bytes.0 in
      let more = ready now of all ps s.rest s.second held.1 bytes.1 in
      subst (λ (fs : List Known). Ready now (p ∷ ps) fs) (sym s.is) (record {
        ins = (p, one.bytes) ∷ more.ins;
        at = ap (λ (qs : List (List ℕ)). p ∷ qs) more.at;
        there = (one.there, more.there);
        forward = both_from s.front s.rest one more;
        backward = both_into s.front s.rest one more;
        sound = both_sound s.front s.rest one more;
      })
    where
      both_from : (front rest : List Known) (one : IsAtPath now p front) (more : Ready now ps rest) (cs : List Contents) →
          AreObjects ((p, one.bytes) ∷ more.ins) cs → AreFrom forced less (front ++ rest) cs
      both_from front rest one more [] k = absurd k
      both_from front rest one more (c ∷ cs) k =
          let a = from_one now p front one c k.0 in
          let b = more.forward cs k.1 in
          record {
            os = a.os ++ b.os;
            are = objects_append front rest a.os b.os a.are b.are;
            groups = group_both forced less a.os (c ∷ []) b.os cs a.groups b.groups;
          }

      both_sound : (front rest : List Known) (one : IsAtPath now p front) (more : Ready now ps rest) (cs : List Contents) →
          AreObjects ((p, one.bytes) ∷ more.ins) cs → AllByRecursion IsSound cs
      both_sound front rest one more [] k = absurd k
      both_sound front rest one more (c ∷ cs) k = (one.sound c k.0, more.sound cs k.1)

      both_into : (front rest : List Known) (one : IsAtPath now p front) (more : Ready now ps rest) (os : List Contents) →
          AreObjects (front ++ rest) os → AreInto forced less ((p, one.bytes) ∷ more.ins) os
      both_into front rest one more os k =
          let s = objects_split front rest os k in
          let a = into_one now p front one s.front s.first in
          let b = more.backward s.rest s.second in
          record {
            cs = a.object ∷ b.cs;
            are = (a.is, b.are);
            groups =
                subst (λ (xs : List Contents). GroupInto forced less xs (a.object ∷ b.cs)) (sym s.is)
                (group_both forced less s.front (a.object ∷ []) s.rest b.cs a.groups b.groups);
          }

-- ---- a step

opens_nothing : (disk : Disk) (found : List Opened) (out : List ℕ) (file : Contents) →
    disk_after disk (opens found ++ stored out file Kept ∷ []) ≡ with_file disk out (Some (encoding file))
opens_nothing disk [] out file = refl
opens_nothing disk (f ∷ fs) out file = opens_nothing disk fs out file

-- a file that is stored is read back
read_back : (file : Contents) → IsSound file → decode (encoding file) ≡ Ok file
read_back file sound = ap decode (sym (append-nil (encoding file))) ∙ decode-encoding file [] sound

-- what a link that was made linked
record WasTaken (forced : List (List ℕ)) (files : List Known) (o : Choices) (x : Outcome) : Type 0 where
  kept : List Labelled
  is : with_inputs forced [] files ≡ Ok kept
  link : link forced (objects kept) o ≡ Ok x

was_taken : (forced : List (List ℕ)) (files : List Known) (o : Choices) (x : Outcome) → linked forced files o ≡ Ok x →
    WasTaken forced files o x
was_taken forced files o x h = by_taken (with_inputs forced [] files) refl h
  where
    by_link : (kept : List Labelled) → with_inputs forced [] files ≡ Ok kept → (y : Result Outcome LinkFault) →
        link forced (objects kept) o ≡ y → (let made : Result Outcome Refusal = Ok x in refused_as not_linked y ≡ made) →
        WasTaken forced files o x
    by_link kept is (Ok y) link e = record { kept = kept; is = is; link = link ∙ ap (λ (z : Outcome). Ok z) (same_value y x e) }
    by_link kept is (Err fault) link e = absurd (not_both x _ (sym e))

    by_taken : (t : Result (List Labelled) Refusal) → with_inputs forced [] files ≡ t →
        (let made : Result Outcome Refusal = Ok x in
        and_then t (λ (kept : List Labelled). refused_as not_linked (link forced (objects kept) o)) ≡ made) →
        WasTaken forced files o x
    by_taken (Ok kept) is e = by_link kept is (link forced (objects kept) o) refl e
    by_taken (Err why) is e = absurd (not_both x _ (sym e))

link_of_new : (forced : List (List ℕ)) (kept new : List Labelled) (o : Choices) (x : Outcome) → kept ≡ new →
    link forced (objects kept) o ≡ Ok x → link forced (objects new) o ≡ Ok x
link_of_new forced kept new o x same h = ap (λ (es : List Labelled). link forced (objects es) o) (sym same) ∙ h

within_new : (forced : List (List ℕ)) (kept new : List Labelled) → kept ≡ new → limit_passed forced (objects kept) ≡ None →
    limit_passed forced (objects new) ≡ None
within_new forced kept new same h = ap (λ (es : List Labelled). limit_passed forced (objects es)) (sym same) ∙ h

module _ {W E : Type 0} (out_contents : W → Option (List ℕ)) (error_contents : E → Option (List ℕ)) where
  abbrev Runs : Disk → Command → Run W E → Type 0
  Runs disk c r = IsLdRun out_contents error_contents disk c r

  few : (disk : Disk) (c : Command) (r : Run W E) → Runs disk c r → length c.forced ≤ 64
  few disk c r h = h.asks.asks.whole.2.0

  module _ (last : Command) (disk : Disk) where
    abbrev All : Disk → Leaves → Type 0
    All now of = AllAreAt last.forced last.options.keep disk now of

    step : (now : Disk) (of : Leaves) (s : Command) (r : Run W E) → All now of → Runs now s r → r.status ≤ 1 → MayReplace last s →
        All (disk_after now r.events) (λ (path : List ℕ). cond (bytes_eq path s.out) (flat_map of s.inputs) (of path))
    step now of s r all ran small may path files e h of_bytes = by_path (bytes_eq path s.out) refl e
      where
        did_store : StoredLink out_contents error_contents s r
        did_store = stored_link out_contents error_contents now s r ran small

        file : Contents
        file = did_store.made.file

        after : disk_after now r.events ≡ with_file now s.out (Some (encoding file))
        after = ap (disk_after now) did_store.events ∙ opens_nothing now did_store.found s.out file

        at : (b : Bool) → bytes_eq path s.out ≡ b → disk_after now r.events path ≡ cond b (Some (encoding file)) (now path)
        at b is = ap (λ (d : Disk). d path) after ∙ ap (λ (b : Bool). cond b (Some (encoding file)) (now path)) is

        x : Outcome
        x = outcome_of did_store.made

        made : Ready last.forced last.options.keep disk now s.inputs files →
            IsLinkOfThem last.forced last.options.keep disk files (encoding file)
            × ((c : Contents) → object_in (decode (encoding file)) ≡ Ok c → IsSound c)
        made q =
            let there : Holds r.disk q.ins =
            holds_there now r.disk q.ins
            (subst (λ (ps : List (List ℕ)). AllByRecursion (λ (path : List ℕ). r.disk path ≡ now path) ps) (sym q.at) ran.inputs) q.there in
            let is : linked s.forced q.ins s.options ≡ Ok x =
            answer_by_bytes out_contents error_contents s r q.ins q.at there ran.on_disk did_store.found (Ok did_store.made)
            (stored s.out file Kept ∷ []) did_store.events did_store.answer in
            let w = was_taken s.forced q.ins s.options x is in
            let k = taken s.forced [] w.kept q.ins (none_within s.forced (few now s r ran)) w.is in
            let f = q.forward (objects k.new) k.are in
            let link_is : link s.forced (objects k.new) s.options ≡ Ok x =
            link_of_new s.forced w.kept k.new s.options x k.whole w.link in
            let partial : IsPartialLink s.forced (objects k.new) s.options x =
            record { allowed = ran.asks.asks.whole.1; relocatable = may.relocatable; no_commons = may.no_commons; linked = link_is } in
            let well : IsWellFormed file =
            relocatable_is_object s.forced (objects k.new) s.options x (all_well_formed q.ins (objects k.new) k.are)
            ran.asks.asks.whole.1 may.relocatable link_is in
            let within : limit_passed s.forced (objects k.new) ≡ None =
            within_new s.forced w.kept k.new k.whole k.within in
            let sound : IsSound file =
            partial_is_sound s.forced (objects k.new) s.options
            (forced_are_names r.words s.forced s.options ran.asks.output ran.asks.files ran.asks.asks may.bytes)
            (q.sound (objects k.new) k.are) may.relocatable may.no_commons (all_well_formed q.ins (objects k.new) k.are) within x link_is in
            let is_read : object_in (decode (encoding file)) ≡ Ok file = object_read (encoding file) file (read_back file sound) well in (
              record {
                os = f.os;
                are = f.are;
                object = file;
                is = is_read;
                groups =
                    λ whole before after g. grouped s.forced before (objects k.new) after s.options x (f.groups whole before after g)
                    may.forces partial may.keeps;
              },
              λ c e. subst (λ (f : Contents). IsSound f) (same_value file c (sym is_read ∙ e)) sound,
            )

        by_path : (b : Bool) → bytes_eq path s.out ≡ b → paths files ≡ cond b (flat_map of s.inputs) (of path) →
            IsAtPath last.forced last.options.keep disk (disk_after now r.events) path files
        by_path false is e =
            let old = all path files e h of_bytes in
            record { bytes = old.bytes; there = at false is ∙ old.there; how = old.how; sound = old.sound }
        by_path true is e =
            let it = made (ready last.forced last.options.keep disk now of all s.inputs files e h of_bytes) in
            record { bytes = encoding file; there = at true is; how = inr it.0; sound = it.1 }

    after_steps : (now : Disk) (of : Leaves) (steps : List Command) (runs : List (Run W E)) → All now of →
        AreLdRuns out_contents error_contents now steps runs → AllByRecursion (MayReplace last) steps →
        All (disk_left out_contents error_contents now runs) (leaves_after of steps)
    after_steps now of [] [] all h may = all
    after_steps now of (s ∷ ss) (r ∷ rs) all h may =
        after_steps (disk_after now r.events) (λ (path : List ℕ). cond (bytes_eq path s.out) (flat_map of s.inputs) (of path)) ss rs
        (step now of s r all h.0 h.1 may.0) h.2 may.1
    after_steps now of [] (r ∷ rs) all h may = absurd h
    after_steps now of (s ∷ ss) [] all h may = absurd h

  -- ---- two runs

  small_status : (f : ReportNames) → status_of f ≤ 1
  small_status f = by_test (eqb (length (report_text f)) 0)
    where
      by_test : (silent : Bool) → (if silent then 0 else 1) ≤ 1
      by_test true = omega arith
      by_test false = omega arith

  -- two links are the same, or files are not taken, and then neither is made
  abbrev Alike : Command → Command → List Known → List Known → List Known → Type 0
  Alike c d ins those files =
      (linked c.forced ins c.options ≡ linked d.forced those d.options)
      ⊎ (IsErr (linked c.forced ins c.options) × IsErr (linked d.forced those d.options) × IsErr (with_inputs c.forced [] files))

  module _ (c d : Command) (r t : Run W E) (ins those files : List Known)
      (ins_at : paths ins ≡ c.inputs) (those_at : paths those ≡ d.inputs) (ins_there : Holds r.disk ins) (those_there : Holds t.disk those)
      (ins_on : IsOn r.disk r.events) (those_on : IsOn t.disk t.events) where
    abbrev First : Type 0
    First = Did out_contents error_contents c r ins ins_at ins_there ins_on

    abbrev Second : Type 0
    Second = Did out_contents error_contents d t those those_at those_there those_on

    abbrev FirstStores : Type 0
    FirstStores = Stores out_contents error_contents c r ins ins_at ins_there ins_on

    abbrev SecondStores : Type 0
    SecondStores = Stores out_contents error_contents d t those those_at those_there those_on

    abbrev FirstIsNone : Type 0
    FirstIsNone = IsNone out_contents error_contents c r ins ins_at ins_there ins_on

    abbrev SecondIsNone : Type 0
    SecondIsNone = IsNone out_contents error_contents d t those those_at those_there those_on

    store_both : (a : FirstStores) (b : SecondStores) → a.outcome ≡ b.outcome → StoreAlike out_contents error_contents c d r t
    store_both a b same = record {
      file = a.outcome.file;
      first_found = a.found;
      second_found = b.found;
      first_inputs = a.inputs;
      second_inputs = b.inputs;
      first = a.events;
      second = b.events ∙ ap (λ (x : Outcome). opens b.found ++ stored d.out x.file Kept ∷ []) (sym same);
      report = report_text a.outcome.report;
      first_reports = a.reports;
      second_reports = subst (λ (x : Outcome). Writes out_contents t (report_text x.report)) (sym same) b.reports;
      first_silent = a.silent;
      second_silent = b.silent;
      no_fault = subst (λ (n : ℕ). n ≤ 1) (sym a.status) (small_status a.outcome.report);
      status = a.status ∙ ap (λ (x : Outcome). status_of x.report) same ∙ sym b.status;
    }

    not_linked_here : (x : Result Outcome Refusal) (y : Outcome) → IsErr x → x ≡ Ok y → ⊥
    not_linked_here x y bad e = let no : true ≡ false = sym bad ∙ ap (λ (x : Result Outcome Refusal). is_err x) e in cc

    both_stored : (a : FirstStores) (b : SecondStores) → Alike c d ins those files → a.outcome ≡ b.outcome
    both_stored a b (inl e) = same_value a.outcome b.outcome (sym a.is_link ∙ e ∙ b.is_link)
    both_stored a b (inr n) = absurd (not_linked_here _ a.outcome n.0 a.is_link)

    only_first : (a : FirstStores) (b : SecondIsNone) → Alike c d ins those files → ⊥
    only_first a b (inl e) = not_both a.outcome b.why (sym a.is_link ∙ e ∙ b.none)
    only_first a b (inr n) = not_linked_here _ a.outcome n.0 a.is_link

    only_second : (a : FirstIsNone) (b : SecondStores) → Alike c d ins those files → ⊥
    only_second a b (inl e) = not_both b.outcome a.why (sym b.is_link ∙ sym e ∙ a.none)
    only_second a b (inr n) = not_linked_here _ b.outcome n.1 b.is_link

    say_both : (a : FirstIsNone) (b : SecondIsNone) → Alike c d ins those files →
        SayAlike out_contents error_contents r t ⊎ IsErr (with_inputs c.forced [] files)
    say_both a b (inl e) =
        let same : a.why ≡ b.why = same_fault a.why b.why (sym a.none ∙ e ∙ b.none) in
        inl (
          refusal_line a.why,
          a.says,
          subst (λ (why : Refusal). Says out_contents error_contents t (refusal_line why)) (sym same) b.says,
        )
    say_both a b (inr n) = inr n.2

    end_alike : Alike c d ins those files → First → Second → EndAlike out_contents error_contents c d files r t
    end_alike alike (inr (inr a)) b = inr (inr (inl a))
    end_alike alike (inl a) (inr (inr b)) = inr (inr (inr b))
    end_alike alike (inr (inl a)) (inr (inr b)) = inr (inr (inr b))
    end_alike alike (inl a) (inl b) = inl (store_both a b (both_stored a b alike))
    end_alike alike (inl a) (inr (inl b)) = absurd (only_first a b alike)
    end_alike alike (inr (inl a)) (inl b) = absurd (only_second a b alike)
    end_alike alike (inr (inl a)) (inr (inl b)) = inr (inl (a.refused, b.refused, say_both a b alike))

  -- ---- the laws

  -- the inputs of the last command of a build, with what its disk has there
  record LastInputs (files : List Known) (last : Command) (r : Run W E) : Type 0 where
    ins : List Known
    at : paths ins ≡ last.inputs
    there : Holds r.disk ins
    alike : (linked last.forced ins last.options ≡ linked last.forced files last.options)
        ⊎ (IsErr (linked last.forced ins last.options) × IsErr (with_inputs last.forced [] files))

  last_inputs : (disk : Disk) (files : List Known) (steps : List Command) (runs : List (Run W E)) (last : Command) (r : Run W E) →
      IsBuild out_contents error_contents disk files steps runs last r → NoneIsMultiple last.forced files → LastInputs files last r
  last_inputs disk files steps runs last r b single =
      let now : Disk = disk_left out_contents error_contents disk runs in
      let all = after_steps last disk disk itself steps runs (all_are_at last.forced last.options.keep disk) b.steps_ran b.may_replace in
      let q = ready last.forced last.options.keep disk now (leaves_after itself steps) all last.inputs files b.leaves b.held b.bytes in
      record {
        ins = q.ins;
        at = q.at;
        there =
            holds_there now r.disk q.ins
            (subst (λ (ps : List (List ℕ)). AllByRecursion (λ (path : List ℕ). r.disk path ≡ now path) ps) (sym q.at) b.last_ran.inputs)
            q.there;
        alike = linked_alike last.forced last.options q.ins files (few now last r b.last_ran) q.forward q.backward single;
      }

  -- what is not taken is not linked
  none_linked : (forced : List (List ℕ)) (files : List Known) (o : Choices) → IsErr (with_inputs forced [] files) →
      IsErr (linked forced files o)
  none_linked forced files o h = by_taken (with_inputs forced [] files) h
    where
      by_taken : (x : Result (List Labelled) Refusal) → IsErr x →
          IsErr (and_then x (λ (kept : List Labelled). refused_as not_linked (link forced (objects kept) o)))
      by_taken (Ok kept) bad = absurd (let no : false ≡ true = bad in cc)
      by_taken (Err why) bad = refl

  pub builds_law : BuildsLaw out_contents error_contents
  builds_law one other files copies steps others runs more last final r t a b bytes names options single =
      let small : length last.forced ≤ 64 = few (disk_left out_contents error_contents one runs) last r a.last_ran in
      let single_too : NoneIsMultiple last.forced copies = λ kept h. let k = taken_too last.forced small copies files (sym bytes) kept h in
      ap (λ (os : List Contents). multiple_names (mentions last.forced os)) (sym k.same) ∙ single k.more k.is in
      let twice : NoneIsMultiple final.forced copies =
      subst (λ (ns : List (List ℕ)). NoneIsMultiple ns copies) (sym names) single_too in
      let p = last_inputs one files steps runs last r a single in
      let q = last_inputs other copies others more final t b twice in
      end_alike last final r t p.ins q.ins files p.at q.at p.there q.there a.last_ran.on_disk b.last_ran.on_disk
      (by_both p.ins q.ins p.alike (of_files small q.ins q.alike (linked_too last.forced small files copies last.options bytes)))
      (did out_contents error_contents last r p.ins p.at p.there a.last_ran.on_disk
      (disk_left out_contents error_contents one runs) a.last_ran)
      (did out_contents error_contents final t q.ins q.at q.there b.last_ran.on_disk
      (disk_left out_contents error_contents other more) b.last_ran)
    where
      same : linked final.forced copies final.options ≡ linked last.forced copies last.options
      same = λ i. linked (names i) copies (options i)

      same_inputs : with_inputs final.forced [] copies ≡ with_inputs last.forced [] copies
      same_inputs = ap (λ (ns : List (List ℕ)). with_inputs ns [] copies) names

      of_files : length last.forced ≤ 64 → (those : List Known) →
          (linked final.forced those final.options ≡ linked final.forced copies final.options)
          ⊎ (IsErr (linked final.forced those final.options) × IsErr (with_inputs final.forced [] copies)) →
          (linked last.forced copies last.options ≡ linked last.forced files last.options)
          ⊎ (IsErr (with_inputs last.forced [] files) × IsErr (with_inputs last.forced [] copies)) →
          (linked final.forced those final.options ≡ linked last.forced files last.options)
          ⊎ (IsErr (linked final.forced those final.options) × IsErr (with_inputs last.forced [] files))
      of_files small those (inl f) (inl g) = inl (f ∙ same ∙ g)
      of_files small those (inl f) (inr n) = inr (
        subst (λ (x : Result Outcome Refusal). IsErr x) (sym (f ∙ same)) (none_linked last.forced copies last.options n.1),
        n.0,
      )
      of_files small those (inr k) g = inr (
        k.0,
        none_too last.forced small copies files (sym bytes)
            (subst (λ (x : Result (List Labelled) Refusal). IsErr x) same_inputs k.1),
      )

      by_both : (ins those : List Known) →
          (linked last.forced ins last.options ≡ linked last.forced files last.options)
          ⊎ (IsErr (linked last.forced ins last.options) × IsErr (with_inputs last.forced [] files)) →
          (linked final.forced those final.options ≡ linked last.forced files last.options)
          ⊎ (IsErr (linked final.forced those final.options) × IsErr (with_inputs last.forced [] files)) →
          Alike last final ins those files
      by_both ins those (inl e) (inl f) = inl (e ∙ sym f)
      by_both ins those (inr n) (inr k) = inr (n.0, k.0, n.1)
      by_both ins those (inl e) (inr k) =
          inr (subst (λ (x : Result Outcome Refusal). IsErr x) (sym e) (none_linked last.forced files last.options k.1), k.0, k.1)
      by_both ins those (inr n) (inl f) =
          inr (n.0, subst (λ (x : Result Outcome Refusal). IsErr x) (sym f) (none_linked last.forced files last.options n.1), n.1)

  pub once_law : OnceLaw out_contents error_contents
  once_law disk files steps runs last out r t b once single =
      builds_law disk disk files files steps [] runs [] last (at_once steps last out) r t b
      (record {
        steps_ran = tt;
        may_replace = tt;
        last_ran = once;
        leaves = b.leaves ∙ sym (all_itself (leaves_of steps last));
        held = b.held;
        bytes = b.bytes;
      })
      refl refl refl single
    where
      all_itself : (ps : List (List ℕ)) → flat_map itself ps ≡ ps
      all_itself [] = refl
      all_itself (p ∷ ps) = ap (λ (qs : List (List ℕ)). p ∷ qs) (all_itself ps)

  pub elsewhere : ElsewhereLaw out_contents error_contents
  elsewhere disk [] [] path are other = refl
  elsewhere disk (s ∷ ss) (r ∷ rs) path are other =
      let d = stored_link out_contents error_contents disk s r are.0 are.1 in
      elsewhere (disk_after disk r.events) ss rs path are.2 other.1
      ∙ ap (λ (now : Disk). now path) (ap (disk_after disk) d.events ∙ opens_nothing disk d.found s.out d.made.file)
      ∙ untouched disk s.out path (Some (encoding d.made.file)) other.0
  elsewhere disk [] (r ∷ rs) path are other = absurd are
  elsewhere disk (s ∷ ss) [] path are other = absurd are
