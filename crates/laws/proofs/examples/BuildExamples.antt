-- The law of builds at a sample, and without one of its premises: `ld -r -o m a b` and `ld -o q m`, against `ld -o q a b`.
use Rattle.std.specs.{Prelude.{String, Vec, bytes_eq, codes, cond}, declared.alloc.Global.Global, List.{AllByRecursion, flat_map}}
use Rattle.std.proofs.Common.{◌≡◌, ◌≤◌, ℕ, List, [], ◌∷◌, map, get_or, Some, None, Ok, refl, sym, ap, ◌∙◌, arith, inl, inr, subst}
use Rattle.clap.proofs.OnLiterals.{clap_on_literals}
use Rattle.aout_core.specs.{Contents.Contents, Words.AreBytes, Encoding.encoding}
use Rattle.command_words.specs.declared.words.Call.TheVariants.{Ld}
use Rattle.link_session.specs.{Labelled.Labelled, Labelled.objects, Mentions.mentions, States.multiple_names}
use Rattle.link_out.specs.{declared.linked.Linked.Linked, function.Link.link, Inputs.with_inputs, Outcomes.outcome_of as result_of}
use Rattle.v7tools.specs.CommandRuns.{AsksFor}
use Rattle.laws.specs.Builds.{AreLdRuns, BuildsLaw, Command, ElsewhereLaw, EndAlike, Holds, IsLdRun, MayReplace, NoneIsMultiple, OnceLaw}
use Rattle.laws.specs.{Builds.{StoreAlike, at_once, disk_left, itself, leaves_of}, Disks.Disk, Disks.Run, Disks.disk_after}
use Rattle.laws.proofs.examples.Samples.{_f, c_o, d_o, d2_o, plain, relocatable}
use Rattle.laws.proofs.examples.LdRuns.{Links, a, b, m, q, m_path, q_path, both_asks, both_paths, both_words, contents, labelled, links}
use Rattle.laws.proofs.examples.{LdRuns.{made_of, rows_read, run_of, vector}, LawExamples.below, NeededPremises.{counts, link_of}}

abbrev step : Command
step = record { forced = []; options = relocatable; out = m; inputs = a ∷ b ∷ [] }

abbrev last : Command
last = record { forced = []; options = plain; out = q; inputs = m ∷ [] }

abbrev once : Command
once = at_once (step ∷ []) last q

abbrev alone : Vec (String Global) Global
alone = vector (m_path ∷ []) (omega arith)

abbrev step_words : List (List ℕ)
step_words = codes "ld" ∷ codes "-r" ∷ codes "-o" ∷ m ∷ a ∷ b ∷ []

abbrev last_words : List (List ℕ)
last_words = codes "ld" ∷ codes "-o" ∷ q ∷ m ∷ []

step_asks : AsksFor step_words (Ld relocatable [] m_path both_paths)
unfolding clap_on_literals
step_asks = record {
  whole = (omega arith, refl, (omega arith, refl));
  asked = (refl, rows_read step_words, refl, (refl, refl, refl, refl));
  dashes = refl;
}

last_asks : AsksFor last_words (Ld plain [] q_path alone)
unfolding clap_on_literals
last_asks = record {
  whole = (omega arith, refl, (omega arith, refl));
  asked = (refl, rows_read last_words, refl, (refl, refl, refl, refl));
  dashes = refl;
}

abbrev Named : Type 0
Named = List (List ℕ × List ℕ)

-- the law, by other premises on what the disk holds, and on names
abbrev OnceIf : (Disk → Named → Type 0) → (List (List ℕ) → Named → Type 0) → Type 0
OnceIf IsHeld IsFit =
    (disk : Disk) (files : Named) (steps : List Command) (runs : List (Run (List ℕ) (List ℕ))) (last : Command) (out : List ℕ)
    (r t : Run (List ℕ) (List ℕ)) → AreLdRuns contents contents disk steps runs → AllByRecursion (MayReplace last) steps →
    IsLdRun contents contents (disk_left contents contents disk runs) last r → map (λ (f : List ℕ × List ℕ). f.0) files ≡ leaves_of steps last →
    IsHeld disk files → AllByRecursion (λ (f : List ℕ × List ℕ). AreBytes f.1) files →
    IsLdRun contents contents disk (at_once steps last out) t → IsFit last.forced files →
    EndAlike contents contents last (at_once steps last out) files r t

is_ld : (disk : Disk) (k : Command) (r : Run (List ℕ) (List ℕ)) → Links k.forced k.options k.out k.inputs r →
    AllByRecursion (λ (path : List ℕ). r.disk path ≡ disk path) k.inputs → IsLdRun contents contents disk k r
is_ld disk k r l same = record { asks = l.asks; performs = l.performs; on_disk = l.on_disk; inputs = same }

-- two files
abbrev leaves_of_two : Contents → Contents → Named
leaves_of_two x y = (a, encoding x) ∷ (b, encoding y) ∷ []

abbrev disk_of_two : Contents → Contents → Disk
disk_of_two x y at = cond (bytes_eq at a) (Some (encoding x)) (cond (bytes_eq at b) (Some (encoding y)) None)

-- the files at a and b, and what the three commands make
module _ (x y : Contents) (part whole all : Linked) where
  abbrev leaves : Named
  leaves = leaves_of_two x y

  abbrev files : Disk
  files = disk_of_two x y

  abbrev kept : List Labelled
  kept = labelled a x ∷ labelled b y ∷ []

  abbrev step_run : Run (List ℕ) (List ℕ)
  step_run = run_of step_words files leaves m_path part

  abbrev last_run : Run (List ℕ) (List ℕ)
  last_run = run_of last_words (disk_after files step_run.events) ((m, encoding part.file) ∷ []) q_path whole

  abbrev once_run : Run (List ℕ) (List ℕ)
  once_run = run_of both_words files leaves q_path all

  -- if these are their links, they store alike by the law for some files at a and b, since no fault ended one
  stored : with_inputs [] [] leaves ≡ Ok kept → link [] (x ∷ y ∷ []) relocatable ≡ Ok (result_of part) →
      with_inputs [] [] ((m, encoding part.file) ∷ []) ≡ Ok (labelled m part.file ∷ []) →
      link [] (part.file ∷ []) plain ≡ Ok (result_of whole) → link [] (x ∷ y ∷ []) plain ≡ Ok (result_of all) →
      (IsHeld : Disk → Named → Type 0) (IsFit : List (List ℕ) → Named → Type 0) (first second : List ℕ) → AreBytes first → AreBytes second →
      OnceIf IsHeld IsFit → IsHeld files ((a, first) ∷ (b, second) ∷ []) → IsFit [] ((a, first) ∷ (b, second) ∷ []) →
      StoreAlike contents contents last once last_run once_run
  stored takes part_is last_takes whole_is all_is IsHeld IsFit first second small then_small law held fit =
      alike (law files ((a, first) ∷ (b, second) ∷ []) (step ∷ []) (step_run ∷ []) last q last_run once_run
      (is_ld files step step_run step_ran (refl, (refl, tt)), step_ran.no_fault, tt)
      (record { relocatable = refl; no_commons = refl; keeps = λ name k. k; forces = λ name k. k; bytes = tt }, tt)
      (is_ld (disk_after files step_run.events) last last_run last_ran (refl, tt)) refl held (small, (then_small, tt))
      (is_ld files once once_run once_ran (refl, (refl, tt))) fit)
    where
      step_ran : Links [] relocatable m (a ∷ b ∷ []) step_run
      step_ran = links step_words files leaves m_path part [] relocatable both_paths step_asks kept refl takes part_is (refl, (refl, tt))

      last_ran : Links [] plain q (m ∷ []) last_run
      last_ran =
          links last_words (disk_after files step_run.events) ((m, encoding part.file) ∷ []) q_path whole [] plain alone last_asks
          (labelled m part.file ∷ []) refl last_takes whole_is (refl, tt)

      once_ran : Links [] plain q (a ∷ b ∷ []) once_run
      once_ran = links both_words files leaves q_path all [] plain both_paths both_asks kept refl takes all_is (refl, (refl, tt))

      no_two : (n : ℕ) → n ≤ 1 → n ≡ 2 → ⊥
      no_two n small two = omega arith

      alike : EndAlike contents contents last once ((a, first) ∷ (b, second) ∷ []) last_run once_run →
          StoreAlike contents contents last once last_run once_run
      alike (inl e) = e
      alike (inr (inl e)) = absurd (no_two last_run.status last_ran.no_fault e.0.status)
      alike (inr (inr (inl (inl e)))) = absurd (no_two last_run.status last_ran.no_fault e.0)
      alike (inr (inr (inl (inr e)))) = absurd (no_two last_run.status last_ran.no_fault e.0)
      alike (inr (inr (inr (inl e)))) = absurd (no_two once_run.status once_ran.no_fault e.0)
      alike (inr (inr (inr (inr e)))) = absurd (no_two once_run.status once_ran.no_fault e.0)

none_twice : NoneIsMultiple [] (leaves_of_two c_o d_o)
none_twice others e =
    let same : labelled a c_o ∷ labelled b d_o ∷ [] ≡ others = cc in
    subst (λ (es : List Labelled). multiple_names (mentions [] (objects es)) ≡ []) same refl

-- ---- a call, and a file that defines its name: the build stores the program of the two

abbrev part : Linked
part = made_of (link_of (c_o ∷ d_o ∷ []) relocatable).file

abbrev program : Linked
program = made_of (link_of (c_o ∷ d_o ∷ []) plain).file

build_says : OnceLaw contents contents →
    StoreAlike contents contents last once (last_run c_o d_o part program program) (once_run c_o d_o part program program)
build_says law =
    stored c_o d_o part program program refl refl refl refl refl Holds NoneIsMultiple (encoding c_o) (encoding d_o)
    (below (encoding c_o) refl) (below (encoding d_o) refl)
    (λ disk files steps runs last out r t ran may last_ran at held bytes once_ran fit. law disk files steps runs last out r t
    (record { steps_ran = ran; may_replace = may; last_ran = last_ran; leaves = at; held = held; bytes = bytes }) once_ran fit)
    (refl, (refl, tt)) none_twice

-- a build of no step is one command
singles : (paths : List (List ℕ)) → flat_map itself paths ≡ paths
singles [] = refl
singles (path ∷ paths) = ap (λ (ps : List (List ℕ)). path ∷ ps) (singles paths)

-- the law of two builds, of which the other has no step
builds_say : BuildsLaw contents contents →
    StoreAlike contents contents last once (last_run c_o d_o part program program) (once_run c_o d_o part program program)
builds_say law =
    build_says (λ disk files steps runs last out r t build once_ran fit. law disk disk files files steps [] runs [] last
    (at_once steps last out) r t build (record {
      steps_ran = tt;
      may_replace = tt;
      last_ran = once_ran;
      leaves = build.leaves ∙ sym (singles (leaves_of steps last));
      held = build.held;
      bytes = build.bytes;
    }) refl refl refl fit)

-- the step stores at m, so the file at a is as before
elsewhere_says : ElsewhereLaw contents contents →
    disk_left contents contents (disk_of_two c_o d_o) (step_run c_o d_o part program program ∷ []) a ≡ Some (encoding c_o)
elsewhere_says law =
    law (disk_of_two c_o d_o) (step ∷ []) (step_run c_o d_o part program program ∷ []) a
    (is_ld (disk_of_two c_o d_o) step (step_run c_o d_o part program program) ran (refl, (refl, tt)), ran.no_fault, tt)
    (counts (λ (l : List ℕ). get_or l 0 0) m a refl, tt)
  where
    ran : Links [] relocatable m (a ∷ b ∷ []) (step_run c_o d_o part program program)
    ran =
        links step_words (disk_of_two c_o d_o) (leaves_of_two c_o d_o) m_path part [] relocatable both_paths step_asks
        (labelled a c_o ∷ labelled b d_o ∷ []) refl refl refl (refl, (refl, tt))

-- ---- two files that define the same name: only the command without the step reports it

abbrev reported : Contents → Linked
reported file = record (made_of file) { report = record (made_of file).report { multiples = vector (_f ∷ []) (omega arith) } }

abbrev part_twice : Linked
part_twice = reported (link_of (d_o ∷ d2_o ∷ []) relocatable).file

-- the law would say that both report it
apart : (IsHeld : Disk → Named → Type 0) (IsFit : List (List ℕ) → Named → Type 0) (x y : Contents) → AreBytes (encoding x) →
    AreBytes (encoding y) → OnceIf IsHeld IsFit → IsHeld (disk_of_two d_o d2_o) (leaves_of_two x y) → IsFit [] (leaves_of_two x y) → ⊥
apart IsHeld IsFit x y small then_small law held fit =
    counts (λ (n : ℕ). n) 0 1 refl (stored d_o d2_o part_twice (made_of (link_of (part_twice.file ∷ []) plain).file)
    (reported (link_of (d_o ∷ d2_o ∷ []) plain).file) refl refl refl refl refl IsHeld IsFit (encoding x) (encoding y) small then_small law
    held fit).status

build_needs_names_defined_once : OnceIf Holds (λ forced files. Unit {0}) → ⊥
build_needs_names_defined_once law =
    apart Holds _ d_o d2_o (below (encoding d_o) refl) (below (encoding d2_o) refl) law (refl, (refl, tt)) tt

build_needs_the_files_on_its_disk : OnceIf (λ disk files. Unit {0}) NoneIsMultiple → ⊥
build_needs_the_files_on_its_disk law = apart _ NoneIsMultiple c_o d_o (below (encoding c_o) refl) (below (encoding d_o) refl) law tt none_twice
