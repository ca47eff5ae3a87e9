-- What one run of ld did, by the bytes of its inputs.
use Rattle.std.proofs.Common.{◌≡◌, ◌⊎◌, ◌↔◌, ℕ, ◌≤◌, Bool, true, List, [], ◌∷◌, ◌++◌, map, Option, Some, None, Result, Ok, Err, refl, sym, ap}
use Rattle.std.proofs.{Common.{◌∙◌, subst, inl, inr, arith}, lemmas.List.append_cancel_left}
use Rattle.std.specs.{Prelude.{string_bytes, codes}, List.AllByRecursion}
use Rattle.aout_core.specs.Refusals.{device_fault, refused}
use Rattle.aout_core.specs.declared.file.ReadFault.TheVariants as reads
use Rattle.link_out.specs.{declared.linked.Linked.Linked, FaultTexts.link_text, Outcomes.outcome_of, Outcomes.report_names}
use Rattle.link_out.specs.{Results.Outcome, function.Reports.report_text, function.Reports.status_of}
use Rattle.link_out.specs.Inputs.{Refusal, linked, of_input, not_linked, bad_file, bad_object, not_added}
use Rattle.link_out.specs.declared.linked.LinkFault.TheVariants as links
use Rattle.host.specs.declared.file_system.Stored.TheVariants.{Kept, NotCreated, Failed}
use Rattle.host.specs.{Events.{Event, Extends, Opened, opened, opens, path_fault, paths_of, stored}, declared.file_system.Stored.Stored}
use Rattle.v7tools.specs.LinkRuns.{IsLinkOfFiles, Refuses, Reports, ReportsIf, closings}
use Rattle.v7tools.specs.{CommandRuns.Ends, FaultTexts.cause_text, FaultTexts.cli_text, FaultTexts.fault_line}
use Rattle.v7tools.specs.{LinkAnswers.{IsDeviceFault, IsLinkOfBytes, IsTrueOf, said_by}, declared.fault.CliFault.CliFault}
use Rattle.v7tools.specs.declared.fault.CliFault.TheVariants as faults
use Rattle.laws.specs.Builds.{Command, Holds, IsDisturbed, EndsInRefusal, IsLdRun}
use Rattle.laws.specs.{Disks.{Disk, IsOn, Run, Writes}, SessionsByCommands.{AreThere, CannotRead, CannotWrite, IsOpening, RunsLd, Says}}
use Rattle.laws.proofs.{LeftLemmas.bytes_of, CallLemmas.link_call, LinkLineLemmas.{IsBroken, bytes_say, cannot_read as cannot_read_by, openings}}
use Rattle.link_session.specs.declared.entry.AddFault.TheVariants as adds

-- ---- files with known bytes

abbrev pub known : List (List ℕ × List ℕ) → List Opened
known files = map (λ (f : List ℕ × List ℕ). (f.0, Some f.1)) files

known_bytes : (files : List (List ℕ × List ℕ)) → bytes_of (known files) ≡ files
known_bytes [] = refl
known_bytes (f ∷ fs) = ap (λ (gs : List (List ℕ × List ℕ)). f ∷ gs) (known_bytes fs)

known_paths : (files : List (List ℕ × List ℕ)) → paths_of (known files) ≡ map (λ f. f.0) files
known_paths [] = refl
known_paths (f ∷ fs) = ap (λ (ps : List (List ℕ)). f.0 ∷ ps) (known_paths fs)

known_there : (disk : Disk) (files : List (List ℕ × List ℕ)) → Holds disk files → AreThere disk (known files)
known_there disk [] h = tt
known_there disk (f ∷ fs) h = (record { bytes = f.1; read = refl; there = h.0 }, known_there disk fs h.1)

-- ---- refusals

abbrev refusal_text : Refusal → List ℕ
refusal_text (of_input path cause) = cause_text path cause
refusal_text (not_linked fault) = link_text fault

abbrev pub refusal_line : Refusal → List ℕ
refusal_line why = codes "v7: " ++ refusal_text why ++ 10 ∷ []

-- why no link was made: an input could not be read, or the bytes are refused
record IsRefusal (fault : CliFault) (answer : Result Outcome Refusal) : Type 0 where
  why : Refusal
  is : answer ≡ Err why
  text : cli_text fault ≡ refusal_text why

why_none : (fault : CliFault) (answer : Result Outcome Refusal) → IsTrueOf (said_by fault) answer → IsBroken fault ⊎ IsRefusal fault answer
why_none (faults.CannotOpen path) answer h = absurd h
why_none (faults.Memory _) answer h = inl tt
why_none (faults.BadFile path (reads.Device _)) answer h = inl tt
why_none (faults.BadFile path (reads.Memory _)) answer h = absurd h
why_none (faults.BadFile path reads.ShortHeader) answer h =
    inr (record { why = of_input (string_bytes path) (bad_file reads.ShortHeader); is = h; text = refl })
why_none (faults.BadFile path reads.BadMagic) answer h =
    inr (record { why = of_input (string_bytes path) (bad_file reads.BadMagic); is = h; text = refl })
why_none (faults.BadFile path reads.OddSize) answer h =
    inr (record { why = of_input (string_bytes path) (bad_file reads.OddSize); is = h; text = refl })
why_none (faults.BadFile path reads.Truncated) answer h =
    inr (record { why = of_input (string_bytes path) (bad_file reads.Truncated); is = h; text = refl })
why_none (faults.BadObject path fault) answer h =
    inr (record { why = of_input (string_bytes path) (bad_object fault); is = h; text = refl })
why_none (faults.NotAdded path (adds.Memory _)) answer h = absurd h
why_none (faults.NotAdded path adds.TextFull) answer h =
    inr (record { why = of_input (string_bytes path) (not_added adds.TextFull); is = h; text = refl })
why_none (faults.NotAdded path adds.DataFull) answer h =
    inr (record { why = of_input (string_bytes path) (not_added adds.DataFull); is = h; text = refl })
why_none (faults.NotAdded path adds.BssFull) answer h =
    inr (record { why = of_input (string_bytes path) (not_added adds.BssFull); is = h; text = refl })
why_none (faults.NotAdded path adds.NamesFull) answer h =
    inr (record { why = of_input (string_bytes path) (not_added adds.NamesFull); is = h; text = refl })
why_none (faults.NotLinked (links.Memory _)) answer h = absurd h
why_none (faults.NotLinked links.DoesNotFit) answer h =
    inr (record { why = not_linked links.DoesNotFit; is = h; text = refl })
why_none (faults.NotLinked links.TooManySymbols) answer h =
    inr (record { why = not_linked links.TooManySymbols; is = h; text = refl })
why_none (faults.NotLinked links.SymbolNumber) answer h =
    inr (record { why = not_linked links.SymbolNumber; is = h; text = refl })
why_none _ answer h = absurd h

module _ {W E : Type 0} (out_contents : W → Option (List ℕ)) (error_contents : E → Option (List ℕ)) where
  abbrev IsRun : Disk → Command → Run W E → Type 0
  IsRun disk c r = IsLdRun out_contents error_contents disk c r

  -- what the contract of `perform` says of a link
  abbrev Ran : Command → Run W E → Type 0
  Ran c r = RunsLd out_contents error_contents c.forced c.options c.out c.inputs r

  ran : (disk : Disk) (c : Command) (r : Run W E) → IsRun disk c r → Ran c r
  ran disk c r h = link_call out_contents error_contents c.forced c.options c.out c.inputs r h.performs h.asks

  -- a fault ends a run with 2 and its line
  ended : (c : Command) (r : Run W E) (d : Ran c r) (fault : CliFault) → d.did.0 ≡ Err fault →
      (r.status ≡ 2) × Says out_contents error_contents r (fault_line fault)
  ended c r d fault is = subst (λ (x : Result ℕ CliFault). Ends error_contents x r.status r.error_before r.error_after) is d.did.2

  -- ---- a step

  -- a run that stored its link
  pub record StoredLink (c : Command) (r : Run W E) : Type 0 where
    pub made : Linked
    pub found : List Opened
    pub answer : IsLinkOfFiles c.forced c.options c.inputs found (Ok made)
    pub events : r.events ≡ opens found ++ stored c.out made.file Kept ∷ []

  no_fault : (c : Command) (r : Run W E) (d : Ran c r) → r.status ≤ 1 → (fault : CliFault) → d.did.0 ≡ Err fault → ⊥
  no_fault c r d small fault is = let two : r.status ≡ 2 = (ended c r d fault is).0 in omega arith

  pub stored_link : (disk : Disk) (c : Command) (r : Run W E) → IsRun disk c r → r.status ≤ 1 → StoredLink c r
  stored_link disk c r h small = by_ran (ran disk c r h).did.1
    where
      d : Ran c r
      d = ran disk c r h

      by_what : (made : Linked) (found : List Opened) (what : Stored) → IsLinkOfFiles c.forced c.options c.inputs found (Ok made) →
          Extends (Some r.earlier) (Some (r.earlier ++ r.events)) (opens found ++ stored (string_bytes d.output) made.file what ∷ []) →
          ReportsIf out_contents what d.output (report_names made.report) d.did.0 r.output_before r.output_after → StoredLink c r
      by_what made found Kept answer asked reports = record {
        made = made;
        found = found;
        answer = answer;
        events = append_cancel_left r.earlier r.events (opens found ++ stored (string_bytes d.output) made.file Kept ∷ []) asked
            ∙ ap (λ (path : List ℕ). opens found ++ stored path made.file Kept ∷ []) d.out_path;
      }
      by_what made found (NotCreated _) answer asked reports = absurd (no_fault c r d small (faults.CannotCreate d.output) reports.0)
      by_what made found (Failed _) answer asked reports = absurd (no_fault c r d small (faults.WriteFailed device_fault) reports.0)

      by_ran : Rattle.v7tools.specs.LinkRuns.IsLinkRun out_contents c.forced c.options d.output c.inputs (Some r.earlier)
          (Some (r.earlier ++ r.events)) d.did.0 r.output_before r.output_after → StoredLink c r
      by_ran (inl h) = absurd (no_fault c r d small (faults.Memory refused) h.1.refusal)
      by_ran (inr (inl h)) = absurd (no_fault c r d small (faults.CannotOpen h.path) h.refuses.refusal)
      by_ran (inr (inr (inl h))) = absurd (no_fault c r d small h.fault h.refuses.refusal)
      by_ran (inr (inr (inr h))) = by_what h.linked h.found h.what h.answer h.asked h.reports

  -- ---- by the bytes of the inputs

  module _ (c : Command) (r : Run W E) (files : List (List ℕ × List ℕ)) (paths : map (λ f. f.0) files ≡ c.inputs)
      (there : Holds r.disk files) (on_disk : IsOn r.disk r.events) where
    pub answer_by_bytes : (found : List Opened) (answer : Result Linked CliFault) (more : List Event) → r.events ≡ opens found ++ more →
        IsLinkOfFiles c.forced c.options c.inputs found answer → IsLinkOfBytes c.forced c.options files answer
    answer_by_bytes found answer more events h =
        subst (λ (fs : List (List ℕ × List ℕ)). IsLinkOfBytes c.forced c.options fs answer) (known_bytes files)
        (bytes_say out_contents error_contents r c.forced c.options (known files) (known_there r.disk files there) on_disk found answer more
        events (subst (λ (ps : List (List ℕ)). IsLinkOfFiles c.forced c.options ps found answer) (sym paths ∙ sym (known_paths files)) h))

    -- it stored the link of the bytes
    pub record Stores : Type 0 where
      pub outcome : Outcome
      pub is_link : linked c.forced files c.options ≡ Ok outcome
      pub found : List Opened
      pub inputs : paths_of found ≡ c.inputs
      pub events : r.events ≡ opens found ++ stored c.out outcome.file Kept ∷ []
      pub reports : Writes out_contents r (report_text outcome.report)
      pub status : r.status ≡ status_of outcome.report
      pub silent : r.error_after ≡ r.error_before

    -- the bytes are refused
    pub record IsNone : Type 0 where
      pub why : Refusal
      pub none : linked c.forced files c.options ≡ Err why
      pub refused : EndsInRefusal out_contents error_contents r
      pub says : Says out_contents error_contents r (refusal_line why)

    abbrev pub Did : Type 0
    Did = Stores ⊎ (IsNone ⊎ IsDisturbed out_contents error_contents r)

    module _ (d : Ran c r) where
      cannot_read : (fault : CliFault) → d.did.0 ≡ Err fault → CannotRead r fault → Did
      cannot_read fault is such = let e = ended c r d fault is in inr (inr (inl (e.0, fault, such, e.1)))

      cannot_write : (fault : CliFault) → d.did.0 ≡ Err fault → CannotWrite r fault → Did
      cannot_write fault is such = let e = ended c r d fault is in inr (inr (inr (e.0, fault, such, e.1)))

      not_made : (fault : CliFault) → Refuses fault d.did.0 r.output_before r.output_after → AllByRecursion IsOpening r.events →
          CannotRead r fault ⊎ IsRefusal fault (linked c.forced files c.options) → Did
      not_made fault refuses openings (inl such) = cannot_read fault refuses.refusal such
      not_made fault refuses openings (inr h) =
          let e = ended c r d fault refuses.refusal in
          inr (inl (record {
            why = h.why;
            none = h.is;
            refused = record { status = e.0; stores_nothing = openings; writes_nothing = refuses.silent };
            says = subst (λ (text : List ℕ). Says out_contents error_contents r (codes "v7: " ++ text ++ 10 ∷ [])) h.text e.1;
          }))

      reported : (made : Linked) (found : List Opened) → paths_of found ≡ c.inputs → linked c.forced files c.options ≡ Ok (outcome_of made) →
          r.events ≡ opens found ++ stored c.out made.file Kept ∷ [] → (result : Result ℕ CliFault) → d.did.0 ≡ result →
          Reports out_contents (report_names made.report) result r.output_before r.output_after → Did
      reported made found all is events (Err fault) e h =
          cannot_write (faults.WriteFailed device_fault) (e ∙ ap (λ (f : CliFault). Err f) h.write_failed) (inl (h.writes.fault.0 refl))
      reported made found all is events (Ok status) e h =
          let ends = subst (λ (x : Result ℕ CliFault). Ends error_contents x r.status r.error_before r.error_after) e d.did.2 in
          inl (record {
            outcome = outcome_of made;
            is_link = is;
            found = found;
            inputs = all;
            events = events;
            reports = h.writes.bytes;
            status = ends.0 ∙ h.status;
            silent = ends.1;
          })

      by_what : (made : Linked) (found : List Opened) (what : Stored) → IsLinkOfFiles c.forced c.options c.inputs found (Ok made) →
          r.events ≡ opens found ++ stored c.out made.file what ∷ [] →
          ReportsIf out_contents what d.output (report_names made.report) d.did.0 r.output_before r.output_after → Did
      by_what made found Kept answer events reports =
          reported made found answer.all
          (answer_by_bytes found (Ok made) (stored c.out made.file Kept ∷ []) events answer) events d.did.0 refl reports
      by_what made found (NotCreated _) answer events reports =
          let at = ap (λ (path : List ℕ). opens found ++ stored path made.file (NotCreated path_fault) ∷ []) (sym d.out_path) in
          cannot_write (faults.CannotCreate d.output) reports.0 (made.file, (opens found, events ∙ at))
      by_what made found (Failed fault) answer events reports =
          cannot_write (faults.WriteFailed device_fault) reports.0 (inr (c.out, made.file, fault, (opens found, events)))

      by_reason : (fault : CliFault) (found : List Opened) (stopped : Option Bool) → (IsDeviceFault fault ↔ (stopped ≡ Some true)) →
          r.events ≡ opens found ++ closings stopped → IsBroken fault ⊎ IsRefusal fault (linked c.forced files c.options) →
          CannotRead r fault ⊎ IsRefusal fault (linked c.forced files c.options)
      by_reason fault found stopped told events (inl broken) = inl (cannot_read_by r fault found stopped told events broken)
      by_reason fault found stopped told events (inr h) = inr h

      by_ran : Rattle.v7tools.specs.LinkRuns.IsLinkRun out_contents c.forced c.options d.output c.inputs (Some r.earlier)
          (Some (r.earlier ++ r.events)) d.did.0 r.output_before r.output_after → Did
      by_ran (inl h) = cannot_read (faults.Memory refused) h.1.refusal tt
      by_ran (inr (inl h)) =
          cannot_read (faults.CannotOpen h.path) h.refuses.refusal
          (opens h.stops.found, append_cancel_left r.earlier r.events (opens h.stops.found ++ opened (string_bytes h.path) None ∷ []) h.stops.asked)
      by_ran (inr (inr (inl h))) =
          let events : r.events ≡ opens h.found ++ closings h.stopped =
          append_cancel_left r.earlier r.events (opens h.found ++ closings h.stopped) h.asked in
          not_made h.fault h.refuses (subst (λ (es : List Event). AllByRecursion IsOpening es) (sym events) (openings h.found h.stopped))
          (by_reason h.fault h.found h.stopped h.told events (why_none h.fault (linked c.forced files c.options)
          (answer_by_bytes h.found (Err h.fault) (closings h.stopped) events h.answer)))
      by_ran (inr (inr (inr h))) =
          let events : r.events ≡ opens h.found ++ stored c.out h.linked.file h.what ∷ [] =
          append_cancel_left r.earlier r.events (opens h.found ++ stored (string_bytes d.output) h.linked.file h.what ∷ []) h.asked
          ∙ ap (λ (path : List ℕ). opens h.found ++ stored path h.linked.file h.what ∷ []) d.out_path in
          by_what h.linked h.found h.what h.answer events h.reports

    -- what it did
    pub did : (disk : Disk) → IsRun disk c r → Did
    did disk h = by_ran (ran disk c r h) (ran disk c r h).did.1
