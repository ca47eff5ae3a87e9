-- What `ld` does with the files that a session has left, and what a line of the session did.
use Rattle.aout_core.specs.{Refusals.{device_fault, refused}, Contents.Contents}
use Rattle.aout_core.specs.declared.file.ReadFault.TheVariants as reads
use Rattle.std.proofs.Common.{rules, ◌≡◌, ◌↔◌, ℕ, Bool, true, List, [], ◌∷◌, ◌++◌, Option, Some, None, Result, Ok, Err, refl, sym, ap, ◌∙◌, inl, inr, subst}
use Rattle.std.proofs.{Common.◌⊎◌, lemmas.List.{append_cancel_left}}
use Rattle.std.specs.{Prelude.{IfSome, String, string_bytes}, declared.alloc.Global.Global, List.AllByRecursion}
use Rattle.command_words.specs.Scripts.{Asked, to_link}
use Rattle.link_session.specs.Labelled.{Labelled, objects}
use Rattle.link_session.specs.declared.entry.AddFault.TheVariants as adds
use Rattle.link_session.proofs.ListLemmas.{all_append}
use Rattle.link_out.specs.{declared.linked.Linked.Linked, declared.linked.LinkFault.LinkFault, FaultTexts.link_text, Outcomes.outcome_of}
use Rattle.link_out.specs.{Outcomes.report_names, Results.Outcome, Steps.and_then, Steps.refused_as, function.Link.link}
use Rattle.link_out.specs.{function.Reports.line, function.Reports.status_of, Inputs.Refusal, Inputs.linked, Inputs.not_linked}
use Rattle.link_out.specs.declared.linked.LinkFault.TheVariants as links
use Rattle.tool_options.specs.Choices.{Choices}
use Rattle.host.specs.declared.file_system.Stored.TheVariants.{Kept, NotCreated, Failed}
use Rattle.host.specs.{Events.{Event, Extends, Opened, opened, opens, paths_of, stored}, declared.file_system.Stored.Stored}
use Rattle.v7tools.specs.{LinkRuns.{IsLinkOfFiles, IsLinkRun, Refuses, Reports, ReportsIf, closings, inputs_opened}, Answers.link_answer_text}
use Rattle.v7tools.specs.{CommandRuns.Ends, FaultTexts.{cli_text, no_memory}, LineRuns.{IsLineOf, LineRun}}
use Rattle.v7tools.specs.{LinkAnswers.{IsDeviceFault, IsLinkOfBytes, IsTrueOf, known_inputs, said_by}, declared.fault.CliFault.CliFault}
use Rattle.v7tools.specs.declared.fault.CliFault.TheVariants as faults
use Rattle.laws.specs.SessionsByCommands.{AreThere, CannotRead, CannotWrite, DoesAsLd, FailsBy, IsOpening, IsRefusedAsLd, LinkLineLaw}
use Rattle.laws.specs.{SessionsByCommands.{RefusedLineLaw, files_left}, Disks.{Disk, IsOn, Run}}
use Rattle.laws.proofs.LeftLemmas.{IsAt, IsLeft, all_known, at_line, bytes_of, left_lines, same_value, taken_bytes}

-- ---- the files that ld opened are those that are left

-- the files gave what is at their paths
abbrev pub AreGiven : Disk → List Opened → Type 0
AreGiven disk found = AllByRecursion (λ (f : Opened). IfSome (disk f.0) (λ bytes. f.1 ≡ Some bytes)) found

-- files that a run opened are those on the disk
pub given : (disk : Disk) (found : List Opened) (events : List Event) → IsOn disk (opens found ++ events) → AreGiven disk found
given disk [] events h = tt
given disk (f ∷ fs) events h = (h.0, given disk fs events h.1)

found_bytes : (disk : Disk) (f g : Opened) (bytes : List ℕ) → f.0 ≡ g.0 → g.1 ≡ Some bytes → disk g.0 ≡ Some bytes →
    IfSome (disk f.0) (λ bytes. f.1 ≡ Some bytes) → f ≡ g
found_bytes disk f g bytes at read there given = search rules

pub same_found : (disk : Disk) (found left : List Opened) → paths_of found ≡ paths_of left → AreGiven disk found →
    AreThere disk left → found ≡ left
same_found disk [] [] paths gives there = refl
same_found disk (f ∷ fs) (g ∷ gs) paths gives there =
    let at : f.0 ≡ g.0 = cc in
    let rest : paths_of fs ≡ paths_of gs = cc in
    search (rules, found_bytes, (same_found disk fs gs rest gives.1 there.1))
same_found disk _ _ paths gives there = absurd (cc)

-- the bytes that are left link as the objects that the session keeps do
linked_left : (disk : Disk) (forced : List (List ℕ)) (o : Choices) (left : List Opened) (kept : List Labelled) → AreThere disk left →
    IsLeft forced left kept → linked forced (bytes_of left) o ≡ refused_as not_linked (link forced (objects kept) o)
linked_left disk forced o left kept there is =
    ap (λ (x : Result (List Labelled) Refusal). and_then x (λ es. refused_as not_linked (link forced (objects es) o)))
    (taken_bytes disk forced left [] kept there is)

-- ---- what the line did

-- a line that stored its link
record StoredLink (forced : List (List ℕ)) (o : Choices) (kept : List Labelled) (p : List ℕ) (file : Contents)
    (r : LineRun) : Type 0 where
  outcome : Outcome
  is_link : link forced (objects kept) o ≡ Ok outcome
  same : outcome.file ≡ file
  answer : r.answer ≡ link_answer_text outcome.report p Kept
  status : r.status ≡ status_of outcome.report

stored_link : (forced : List (List ℕ)) (o : Choices) (kept : List Labelled) (p : List ℕ) (file : Contents) (r : LineRun) →
    IsLineOf forced o kept r (to_link p) → r.events ≡ stored p file Kept ∷ [] → StoredLink forced o kept p file r
stored_link forced o kept p file r (inl h) e = absurd (let none : r.events ≡ [] = h.does.events in cc)
stored_link forced o kept p file r (inr h) e = search rules

-- a line whose link was refused
record RefusedLink (forced : List (List ℕ)) (o : Choices) (kept : List Labelled) (r : LineRun) : Type 0 where
  cause : LinkFault
  is_none : link forced (objects kept) o ≡ Err cause
  answer : r.answer ≡ line (link_text cause)

refused_link : (forced : List (List ℕ)) (o : Choices) (kept : List Labelled) (p : List ℕ) (r : LineRun) →
    IsLineOf forced o kept r (to_link p) → r.events ≡ [] → (r.answer ≡ line no_memory → ⊥) → RefusedLink forced o kept r
refused_link forced o kept p r (inr h) e memory = absurd (let some : r.events ≡ stored p h.outcome.file h.what ∷ [] = h.events in cc)
refused_link forced o kept p r (inl h) e memory = search rules

-- ---- what ld did

pub all_openings : (found : List Opened) → AllByRecursion IsOpening (opens found)
all_openings [] = tt
all_openings (f ∷ fs) = (tt, all_openings fs)

closing : (stopped : Option Bool) → AllByRecursion IsOpening (closings stopped)
closing None = tt
closing (Some failed) = (tt, tt)

pub openings : (found : List Opened) (stopped : Option Bool) → AllByRecursion IsOpening (opens found ++ closings stopped)
openings found stopped = all_append IsOpening (opens found) (closings stopped) (all_openings found) (closing stopped)

-- memory ran out, or a device failed
abbrev pub IsBroken : CliFault → Type 0
IsBroken (faults.Memory _) = Unit {0}
IsBroken (faults.BadFile path (reads.Device _)) = Unit {0}
IsBroken _ = ⊥

-- then that was the last that was asked
pub cannot_read : {W E : Type 0} (r : Run W E) (fault : CliFault) (found : List Opened) (stopped : Option Bool) →
    (IsDeviceFault fault ↔ (stopped ≡ Some true)) → r.events ≡ opens found ++ closings stopped → IsBroken fault → CannotRead r fault
cannot_read r (faults.Memory _) found stopped told events h = tt
cannot_read r (faults.BadFile path (reads.Device _)) found stopped told events h =
    (opens found, events ∙ ap (λ (s : Option Bool). opens found ++ closings s) (told.0 tt))
cannot_read r fault found stopped told events h = absurd h

-- why ld is refused, if its bytes do not link
abbrev Reason : LinkFault → CliFault → Type 0
Reason cause fault = (cli_text fault ≡ link_text cause) ⊎ IsBroken fault

reason : (cause : LinkFault) (fault : CliFault) →
    (let answer : Result Outcome Refusal = Err (not_linked cause) in IsTrueOf (said_by fault) answer) → Reason cause fault
reason cause (faults.BadFile path (reads.Device _)) h = inr tt
reason cause (faults.BadFile path reads.ShortHeader) h = absurd (cc)
reason cause (faults.BadFile path reads.BadMagic) h = absurd (cc)
reason cause (faults.BadFile path reads.OddSize) h = absurd (cc)
reason cause (faults.BadFile path reads.Truncated) h = absurd (cc)
reason cause (faults.BadObject path fault) h = absurd (cc)
reason cause (faults.NotAdded path adds.TextFull) h = absurd (cc)
reason cause (faults.NotAdded path adds.DataFull) h = absurd (cc)
reason cause (faults.NotAdded path adds.BssFull) h = absurd (cc)
reason cause (faults.NotAdded path adds.NamesFull) h = absurd (cc)
reason cause (faults.NotLinked links.DoesNotFit) h = let same : cause ≡ links.DoesNotFit = cc in inl (ap link_text (sym same))
reason cause (faults.NotLinked links.TooManySymbols) h = let same : cause ≡ links.TooManySymbols = cc in inl (ap link_text (sym same))
reason cause (faults.NotLinked links.SymbolNumber) h = let same : cause ≡ links.SymbolNumber = cc in inl (ap link_text (sym same))
reason cause (faults.Memory _) h = inr tt
reason cause _ h = absurd h

module _ {W E : Type 0} (out_contents : W → Option (List ℕ)) (error_contents : E → Option (List ℕ)) where
  -- ---- any ld

  module _ (l : Run W E) (forced : List (List ℕ)) (o : Choices) (left : List Opened) (there : AreThere l.disk left)
      (on_disk : IsOn l.disk l.events) where
    -- the events of the run
    events_are : (more : List Event) → Extends (Some l.earlier) (Some (l.earlier ++ l.events)) more → l.events ≡ more
    events_are more h = append_cancel_left l.earlier l.events more h

    found_left : (found : List Opened) (more : List Event) → l.events ≡ opens found ++ more → paths_of found ≡ paths_of left → found ≡ left
    found_left found more events all =
        same_found l.disk found left all (given l.disk found more (subst (λ (es : List Event). IsOn l.disk es) events on_disk)) there

    pub bytes_say : (found : List Opened) (answer : Result Linked CliFault) (more : List Event) → l.events ≡ opens found ++ more →
        IsLinkOfFiles forced o (paths_of left) found answer → IsLinkOfBytes forced o (bytes_of left) answer
    bytes_say found answer more events h =
        subst (λ (k : Option (List (List ℕ × List ℕ))). IfSome k (λ bytes. IsLinkOfBytes forced o bytes answer))
        (ap (λ (fs : List Opened). known_inputs (inputs_opened fs)) (found_left found more events h.all) ∙ all_known l.disk left there)
        h.link.bytes

  -- ---- a line that stored its link

  module _ (l : Run W E) (forced : List (List ℕ)) (o : Choices) (left : List Opened) (there : AreThere l.disk left)
      (on_disk : IsOn l.disk l.events) (p q : List ℕ) (file : Contents) (r : LineRun) (kept : List Labelled) (did : StoredLink forced o kept p file r)
      (some : linked forced (bytes_of left) o ≡ Ok did.outcome) (result : Result ℕ CliFault)
      (ends : Ends error_contents result l.status l.error_before l.error_after) where
    abbrev Ended : Type 0
    Ended =
        DoesAsLd out_contents error_contents p q file left r l
        ⊎ (FailsBy out_contents error_contents CannotRead l ⊎ FailsBy out_contents error_contents CannotWrite l)

    failed : (IsSuch : Run W E → CliFault → Type 0) (fault : CliFault) → result ≡ Err fault → IsSuch l fault → FailsBy out_contents error_contents IsSuch l
    failed IsSuch fault is such = search rules

    reported : (made : Linked) → made.file ≡ file → report_names made.report ≡ did.outcome.report →
        l.events ≡ opens left ++ stored q made.file Kept ∷ [] →
        (it : Result ℕ CliFault) → result ≡ it →
        Reports out_contents (report_names made.report) it l.output_before l.output_after → Ended
    reported made same report events (Err fault) is h =
        inr (inr (failed CannotWrite (faults.WriteFailed device_fault) (is ∙ ap (λ (f : CliFault). Err f) h.write_failed)
        (inl (h.writes.fault.0 refl))))
    reported made same report events (Ok status) is h = search rules

    stored_by : (output : String Global) → string_bytes output ≡ q → (made : Linked) → outcome_of made ≡ did.outcome → (what : Stored) →
        l.events ≡ opens left ++ stored (string_bytes output) made.file what ∷ [] →
        ReportsIf out_contents what output (report_names made.report) result l.output_before l.output_after → Ended
    stored_by output at made same Kept events h = search rules
    stored_by output at made same (NotCreated _) events h =
        inr (inr (failed CannotWrite (faults.CannotCreate output) h.0 (made.file, (opens left, events))))
    stored_by output at made same (Failed fault) events h =
        inr (inr (failed CannotWrite (faults.WriteFailed device_fault) h.0 (inr (string_bytes output, made.file, fault, (opens left, events)))))

    no_reason : (fault : CliFault) → (let answer : Result Outcome Refusal = Ok did.outcome in IsTrueOf (said_by fault) answer) → IsBroken fault
    no_reason faults.Usage h = absurd h
    no_reason (faults.CannotOpen path) h = absurd h
    no_reason (faults.BadFile path (reads.Device _)) h = tt
    no_reason (faults.BadFile path (reads.Memory _)) h = absurd h
    no_reason (faults.NotAdded path (adds.Memory _)) h = absurd h
    no_reason (faults.NotLinked (links.Memory _)) h = absurd h
    no_reason (faults.CannotCreate path) h = absurd h
    no_reason (faults.WriteFailed _) h = absurd h
    no_reason (faults.Memory _) h = tt
    no_reason faults.LongLine h = absurd h
    no_reason faults.ManyLines h = absurd h
    no_reason faults.ScriptFailed h = absurd h
    no_reason _ h = absurd (cc)

    ended_by : (output : String Global) → string_bytes output ≡ q → IsLinkRun out_contents forced o output (paths_of left) (Some l.earlier)
        (Some (l.earlier ++ l.events)) result l.output_before l.output_after → Ended
    ended_by output at (inl h) = inr (inl (failed CannotRead (faults.Memory refused) h.1.refusal tt))
    ended_by output at (inr (inl h)) =
        inr (inl (failed CannotRead (faults.CannotOpen h.path) h.refuses.refusal
        (opens h.stops.found, events_are l forced o left there on_disk _ h.stops.asked)))
    ended_by output at (inr (inr (inl h))) =
        let events : l.events ≡ opens h.found ++ closings h.stopped = events_are l forced o left there on_disk _ h.asked in
        inr (inl (failed CannotRead h.fault h.refuses.refusal (cannot_read l h.fault h.found h.stopped h.told events (no_reason h.fault
        (subst (λ (x : Result Outcome Refusal). IsTrueOf (said_by h.fault) x) some
        (bytes_say l forced o left there on_disk h.found (Err h.fault) (closings h.stopped) events h.answer))))))
    ended_by output at (inr (inr (inr h))) =
        let events = events_are l forced o left there on_disk _ h.asked in
        let ok = bytes_say l forced o left there on_disk h.found (Ok h.linked) _ events h.answer in
        search (rules, found_left, stored_by, same_value)

  -- ---- a line whose link was refused

  module _ (l : Run W E) (forced : List (List ℕ)) (o : Choices) (left : List Opened) (there : AreThere l.disk left)
      (on_disk : IsOn l.disk l.events) (r : LineRun) (cause : LinkFault) (answer : r.answer ≡ line (link_text cause))
      (none : linked forced (bytes_of left) o ≡ Err (not_linked cause)) (result : Result ℕ CliFault)
      (ends : Ends error_contents result l.status l.error_before l.error_after) where
    refused_by : (fault : CliFault) → Refuses fault result l.output_before l.output_after → AllByRecursion IsOpening l.events →
        (cli_text fault ≡ link_text cause) ⊎ CannotRead l fault → IsRefusedAsLd out_contents error_contents r l
    refused_by fault refuses openings why = search rules

    abbrev asked : (more : List Event) → Extends (Some l.earlier) (Some (l.earlier ++ l.events)) more → l.events ≡ more
    asked more h = events_are l forced o left there on_disk more h

    abbrev say : (found : List Opened) (answer : Result Linked CliFault) (more : List Event) → l.events ≡ opens found ++ more →
        IsLinkOfFiles forced o (paths_of left) found answer → IsLinkOfBytes forced o (bytes_of left) answer
    say found answer more events h = bytes_say l forced o left there on_disk found answer more events h

    by_ran : (output : String Global) → IsLinkRun out_contents forced o output (paths_of left) (Some l.earlier)
        (Some (l.earlier ++ l.events)) result l.output_before l.output_after → IsRefusedAsLd out_contents error_contents r l
    by_ran output (inl h) =
        refused_by (faults.Memory refused) h.1 (subst (λ (es : List Event). AllByRecursion IsOpening es) (sym (asked [] h.0)) tt) (inr tt)
    by_ran output (inr (inl h)) =
        refused_by (faults.CannotOpen h.path) h.refuses
        (subst (λ (es : List Event). AllByRecursion IsOpening es) (sym (asked _ h.stops.asked))
        (all_append IsOpening (opens h.stops.found) (opened (string_bytes h.path) None ∷ []) (all_openings h.stops.found) (tt, tt)))
        (inr (opens h.stops.found, asked _ h.stops.asked))
    by_ran output (inr (inr (inl h))) =
        let events : l.events ≡ opens h.found ++ closings h.stopped = asked _ h.asked in
        refused_by h.fault h.refuses (subst (λ (es : List Event). AllByRecursion IsOpening es) (sym events) (openings h.found h.stopped))
        (by_reason (reason cause h.fault (subst (λ (x : Result Outcome Refusal). IsTrueOf (said_by h.fault) x) none
        (say h.found (Err h.fault) (closings h.stopped) events h.answer))))
      where
        by_reason : Reason cause h.fault → (cli_text h.fault ≡ link_text cause) ⊎ CannotRead l h.fault
        by_reason (inl text) = inl text
        by_reason (inr broken) = inr (cannot_read l h.fault h.found h.stopped h.told (asked _ h.asked) broken)
    by_ran output (inr (inr (inr h))) =
        absurd (let ok = say h.found (Ok h.linked) _ (asked _ h.asked) h.answer in let both = sym none ∙ ok in cc)

  pub refused_line : RefusedLineLaw out_contents error_contents
  refused_line forced o kept l before after r p q chain is_link silent memory ld =
      let at : IsAt forced o [] before r after kept = at_line forced o [] before r after kept chain in
      let left = files_left before in
      let is : IsLeft forced left at.mid = left_lines o forced [] [] before at.mid refl at.first in
      let did : RefusedLink forced o at.mid r =
      refused_link forced o at.mid p r (subst (λ (a : Asked). IsLineOf forced o at.mid r a) is_link at.line) silent memory in
      by_ran l forced o left ld.there ld.on_disk r did.cause did.answer
      (linked_left l.disk forced o left at.mid ld.there is ∙ ap (refused_as not_linked) did.is_none) ld.runs.did.0 ld.runs.did.2
      ld.runs.output ld.runs.did.1

  pub link_line : LinkLineLaw out_contents error_contents
  link_line forced o kept l before after r p q file chain is_link stores ld =
      let at : IsAt forced o [] before r after kept = at_line forced o [] before r after kept chain in
      let left = files_left before in
      let is : IsLeft forced left at.mid = left_lines o forced [] [] before at.mid refl at.first in
      let did : StoredLink forced o at.mid p file r =
      stored_link forced o at.mid p file r (subst (λ (a : Asked). IsLineOf forced o at.mid r a) is_link at.line) stores in
      ended_by l forced o left ld.there ld.on_disk p q file r at.mid did
      (linked_left l.disk forced o left at.mid ld.there is ∙ ap (refused_as not_linked) did.is_link) ld.runs.did.0 ld.runs.did.2
      ld.runs.output ld.runs.out_path ld.runs.did.1
