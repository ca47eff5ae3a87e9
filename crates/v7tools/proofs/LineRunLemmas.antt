-- A line of a script, from the step or the link that answers it.
use Rattle.aout_core.specs.{Refusals.device_fault, Wires.{AppendsPrefix, Latched, Puts}}
use Rattle.std.proofs.Common.{◌≡◌, ℕ, Bool, true, false, List, [], ◌∷◌, Option, Some, None, Result, Ok, Err, refl, sym, ap, ◌∙◌, subst, inl, inr, append-nil}
use Rattle.std.proofs.KnownBytes.{Appends-kept}
use Rattle.std.specs.Prelude.{IfErr, IfOk, IsErr, IsTrue, ◌↔◌}
use Rattle.std.specs.{Io.KnownBytes.Appends, Io.KnownBytes.Keeps}
use Rattle.link_session.specs.{Edits.last_of, Labelled.Labelled, Labelled.objects, Undo.Kept}
use Rattle.tool_options.specs.Choices.{Choices}
use Rattle.link_out.specs.Outcomes.{report_names, outcome_of}
use Rattle.link_out.specs.{declared.linked.Linked.Linked, function.Link.Outcome, function.Link.link, Inputs.Cause, Inputs.kept_with}
use Rattle.v7tools.specs.Answers.{absent, Verdict, done, refused, to_store, Stepped, add_step, input_from, failing, giving, withdraw_step}
use Rattle.v7tools.specs.{Answers.{link_answer_text, link_status}, LineRuns.{DoesStep, IsAddOf, IsLineOf, LineRun, status_after}}
use Rattle.v7tools.specs.internal.SessionParts.{AnswersLine, AnswersStep, IsAddAt, IsCommandOf, IsPlain, PassesOn, TakesAddition, TakesPlainStep}
use Rattle.v7tools.specs.internal.StepParts.{IsAddOver}
use Rattle.v7tools.specs.SessionSteps.{AddsIf, Does, GoesOut, IsStepOn, TakesStep, WithdrawsIf, verdict_of}
use Rattle.v7tools.specs.declared.session.commands.Command.TheVariants.{Add, Withdraw, Externals, Undefined, Link, Bad}
use Rattle.v7tools.specs.{FaultTexts.{cli_text, fault_of_link}, internal.StepParts.RefusesLink, declared.session.commands.Command.Command}
use Rattle.v7tools.specs.{declared.session.commands.Step.Step, declared.fault.CliFault.CliFault}
use Rattle.v7tools.specs.declared.fault.CliFault.TheVariants as faults
use Rattle.host.specs.{Events.Event, Events.History, Events.Extends, Events.stored, declared.file_system.Stored.Stored}
use Rattle.command_words.specs.Scripts.{Asked, to_add, to_withdraw, for_externals, for_undefined, to_link, for_nothing}
use Rattle.command_words.specs.{declared.lines.Line.Line, ScriptAnswers.asked_by}
use Rattle.command_words.specs.declared.lines.Line.TheVariants as lines
use Rattle.host.proofs.EventLemmas.{nothing_asked}
use Rattle.v7tools.proofs.StepLemmas.{link_refused_by, refused_as}

-- ---- a step that is no link

-- the verdict of such a step
abbrev Stores : Stepped → Type 0
Stores did = (x : Outcome) × (did.verdict ≡ to_store x)

adds_no_file : (kept : List Labelled) (path : List ℕ) (r : Result (List Labelled) Cause) → Stores (add_step kept path r) → ⊥
adds_no_file kept path (Ok more) (x, h) = cc
adds_no_file kept path (Err cause) (x, h) = cc

takes_no_file : (kept : List Labelled) (last : Option Labelled) → Stores (withdraw_step kept last) → ⊥
takes_no_file kept None (x, h) = cc
takes_no_file kept (Some e) (x, h) = cc

refused_stores : (did : Stepped) → did.verdict ≡ refused → Stores did → ⊥
refused_stores did is (x, h) = cc

done_stores : (did : Stepped) → did.verdict ≡ done → Stores did → ⊥
done_stores did is (x, h) = cc

is_no_link : (did other : Stepped) → did ≡ other → Stores did → (Stores other → ⊥) → ⊥
is_no_link did other e s never = never (subst Stores e s)

module _ {R : Type 0} (remaining : R → Option (List ℕ)) where
  pub plain_stores : (o : Choices) (old : Kept) (command : Command R) (did : Stepped) → IsPlain command →
      IsStepOn remaining old o command did → Stores did → ⊥
  plain_stores o old (Add path wire) did plain h s = absurd plain
  plain_stores o old Withdraw did plain h s = is_no_link did _ h s (takes_no_file old.entries (last_of old.entries))
  plain_stores o old Externals did plain h s = done_stores did (ap (λ (d : Stepped). d.verdict) h) s
  plain_stores o old Undefined did plain h s = done_stores did (ap (λ (d : Stepped). d.verdict) h) s
  plain_stores o old Link did plain h s = absurd plain
  plain_stores o old Bad did plain h s = refused_stores did (ap (λ (d : Stepped). d.verdict) h) s

-- an addition is no link
added_stores : (forced : List (List ℕ)) (o : Choices) (old : List Labelled) (path : List ℕ) (events : List Event) (did : Stepped) →
    IsAddAt forced o old path events did → Stores did → ⊥
added_stores forced o old path events did (inl (asked, is)) s =
    is_no_link did _ is s (adds_no_file old path (input_from forced old path absent))
added_stores forced o old path events did (inr (known, true, asked, is)) s =
    is_no_link did _ is s (adds_no_file old path (input_from forced old path failing))
added_stores forced o old path events did (inr (known, false, asked, inl h)) s = refused_stores did (ap (λ (d : Stepped). d.verdict) h.0) s
added_stores forced o old path events did (inr (Some bytes, false, asked, inr is)) s =
    is_no_link did _ is s (adds_no_file old path (input_from forced old path (giving bytes)))
added_stores forced o old path events did (inr (None, false, asked, inr (found, sound, is))) s =
    is_no_link did _ is s (adds_no_file old path (kept_with forced old path found))

-- the step on a wire that was closed then
pub added_closed : {R : Type 0} (remaining : R → Option (List ℕ)) (from to : Latched R) (forced : List (List ℕ)) (old : List Labelled)
    (path : List ℕ) (did : Stepped) → IsAddOver remaining from to forced old path did →
    IsAddOf (remaining from.device) to.has_failed forced old path did
added_closed remaining from to forced old path did (inl (failed, is)) =
    subst (λ (b : Bool). IsAddOf (remaining from.device) b forced old path did) (sym failed) is
added_closed remaining from to forced old path did (inr (after, before, is)) =
    subst (λ (b : Bool). IsAddOf (remaining from.device) b forced old path did) (sym after) is

module _ {W : Type 0} (contents : W → Option (List ℕ)) where
  -- an answer of which a prefix went out
  broke_off : (v : Verdict) (answer : List ℕ) (fault : CliFault) (before after : Latched W) →
      GoesOut contents v answer (Err fault) before after →
      IsTrue after.has_failed × AppendsPrefix (contents before.device) (contents after.device) answer
  broke_off (to_store x) answer fault before after h = absurd (cc)
  broke_off v answer fault before after h = (h.fault.0 refl, h.bytes)

  pub answers_fault : (did : Stepped) (left : Kept) (fault : CliFault) (result : Result ℕ CliFault) (before after : Latched W) →
      Does contents did left (Err fault) before after → fault ≡ faults.WriteFailed device_fault → result ≡ Err fault →
      AnswersStep contents did left result before after
  answers_fault did left fault result before after h is e =
      let out = broke_off did.verdict did.answer fault before after h.answer in
      subst (λ (r : Result ℕ CliFault). AnswersStep contents did left r before after) (sym e) (record {
        entries = h.kept;
        status = tt;
        write_failed = is;
        fault = (λ _. out.0, λ _. refl);
        bytes = out.1;
      })

  -- an answer that went out
  wrote : (v : Verdict) (answer : List ℕ) (s : Step) (status : ℕ) (before after : Latched W) →
      ((x : Outcome) → v ≡ to_store x → ⊥) → GoesOut contents v answer (Ok s) before after →
      (IsErr {E = CliFault} (Ok status) ↔ IsTrue after.has_failed)
      × Puts {E = CliFault} (Ok status) (contents before.device) (contents after.device) answer
  wrote (to_store x) answer s status before after plain h = absurd (plain x refl)
  wrote v answer s status before after plain h = (h.fault, h.bytes)

  pub answers_status : (did : Stepped) (left : Kept) (s : Step) (status : ℕ) (before after : Latched W) →
      Does contents did left (Ok s) before after → ((x : Outcome) → verdict_of s ≡ to_store x → ⊥) →
      status ≡ status_after (verdict_of s) → AnswersStep contents did left (Ok status) before after
  answers_status did left s status before after h plain is =
      let out = wrote did.verdict did.answer s status before after (λ x e. plain x (h.verdict ∙ e)) h.answer in record {
        entries = h.kept;
        status = is ∙ ap status_after h.verdict;
        write_failed = tt;
        fault = out.0;
        bytes = out.1;
      }

  -- ---- a line

  -- a line that a step answers
  abbrev run_of : Asked → List Event → Stepped → LineRun
  run_of asks events did =
      record { line = asks; events = events; answer = did.answer; status = status_after did.verdict; kept = did.kept }

  answered_by : (o : Choices) (asks : Asked) (events : List Event) (did : Stepped) (kept left : Kept)
      (old new : History) (result : Result ℕ CliFault) (before after : Latched W) →
      AnswersStep contents did left result before after → left.forced ≡ kept.forced → Extends old new events →
      IsLineOf kept.forced o kept.entries (run_of asks events did) asks →
      AnswersLine contents o asks kept left old new result before after
  answered_by o asks events did kept left old new result before after told names asked is = record {
    run = run_of asks events did;
    line = refl;
    leaves = sym told.entries;
    names = names;
    is_run = is;
    asked = asked;
    status = told.status;
    write_failed = told.write_failed;
    fault = told.fault;
    bytes = told.bytes;
  }

  -- a line that does a step
  does_line : (asks : Asked) (events : List Event) (did by : Stepped) → did ≡ by → DoesStep events by (run_of asks events did)
  does_line asks events did by e =
      subst (λ (d : Stepped). DoesStep events d (run_of asks events did)) e
      (record { events = refl; answer = refl; status = refl; kept = refl })

  -- no step changes the forced names
  add_names : (v : Verdict) (old new : Kept) → AddsIf v old new → new.forced ≡ old.forced
  add_names done old new h = h.1.forced
  add_names refused old new h = ap (λ (k : Kept). k.forced) h
  add_names (to_store x) old new h = ap (λ (k : Kept). k.forced) h

  withdraw_names : (v : Verdict) (old new : Kept) → WithdrawsIf v old new → new.forced ≡ old.forced
  withdraw_names done old new h = h.1.forced
  withdraw_names refused old new h = ap (λ (k : Kept). k.forced) h
  withdraw_names (to_store x) old new h = ap (λ (k : Kept). k.forced) h

  -- ---- a line that adds a file

  module _ (o : Choices) (path : List ℕ) (kept left : Kept) (old new : History) (before after : Latched W) where
    addition_line : (events : List Event) (did : Stepped) → IsAddAt kept.forced o kept.entries path events did →
        IsLineOf kept.forced o kept.entries (run_of (to_add path) events did) (to_add path)
    addition_line events did (inl (asked, is)) = inl (record {
      events = asked;
      answer = ap (λ (d : Stepped). d.answer) is;
      status = ap (λ (d : Stepped). status_after d.verdict) is;
      kept = ap (λ (d : Stepped). d.kept) is;
    })
    addition_line events did (inr (known, failed, asked, is)) = inr (record {
      known = known;
      failed = failed;
      did = did;
      is_add = is;
      does = record { events = asked; answer = refl; status = refl; kept = refl };
    })

    -- its answer went out whole
    pub addition_answered : (s : Step) (status : ℕ) → TakesAddition contents o path old new kept left (Ok s) before after →
        status ≡ status_after (verdict_of s) → AnswersLine contents o (to_add path) kept left old new (Ok status) before after
    addition_answered s status (events, did, asked, at, adds, does) is =
        let plain = added_stores kept.forced o kept.entries path events did at in
        answered_by o (to_add path) events did kept left old new (Ok status) before after
        (answers_status did left s status before after does (λ x e. plain (x, sym does.verdict ∙ e)) is)
        (add_names did.verdict kept left adds) asked (addition_line events did at)

    -- or only a prefix of it
    pub addition_cut_short : (fault : CliFault) (result : Result ℕ CliFault) →
        TakesAddition contents o path old new kept left (Err fault) before after → fault ≡ faults.WriteFailed device_fault →
        result ≡ Err fault → AnswersLine contents o (to_add path) kept left old new result before after
    addition_cut_short fault result (events, did, asked, at, adds, does) is e =
        answered_by o (to_add path) events did kept left old new result before after
        (answers_fault did left fault result before after does is e) (add_names did.verdict kept left adds) asked (addition_line events did at)

  -- ---- a line that opens and stores no file

  module _ {R : Type 0} (remaining : R → Option (List ℕ)) (o : Choices) (kept left : Kept) (result : Result ℕ CliFault)
      (before after : Latched W) where
    -- a line for which no file is opened
    told_line : (h : History) (asks : Asked) (did : Stepped) → IsLineOf kept.forced o kept.entries (run_of asks [] did) asks →
        left.forced ≡ kept.forced → AnswersStep contents did left result before after →
        AnswersLine contents o asks kept left h h result before after
    told_line h asks did is names told = answered_by o asks [] did kept left h h result before after told names (nothing_asked h) is

    -- a line, from the step that it asks for
    pub line_by_step : (h : History) (line : Line) (command : Command R) → IsCommandOf line command →
        TakesPlainStep remaining contents o command kept left result before after →
        AnswersLine contents o (asked_by line) kept left h h result before after
    line_by_step h (lines.Add path) command is told = absurd is
    line_by_step h lines.Withdraw command is told =
        let (did, e, changes, step) = rw is at told in
        told_line h to_withdraw did (does_line to_withdraw [] did _ e) (withdraw_names did.verdict kept left changes) step
    line_by_step h lines.Externals command is told =
        let (did, e, changes, step) = rw is at told in
        told_line h for_externals did (does_line for_externals [] did _ e) (ap (λ (k : Kept). k.forced) changes) step
    line_by_step h lines.Undefined command is told =
        let (did, e, changes, step) = rw is at told in
        told_line h for_undefined did (does_line for_undefined [] did _ e) (ap (λ (k : Kept). k.forced) changes) step
    line_by_step h (lines.Link path) command is told = absurd is
    line_by_step h lines.Bad command is told =
        let (did, e, changes, step) = rw is at told in
        told_line h for_nothing did (does_line for_nothing [] did _ e) (ap (λ (k : Kept). k.forced) changes) step

  module _ {R : Type 0} (remaining : R → Option (List ℕ)) where
    step_of_line : (line : Line) (command : Command R) → IsCommandOf line command → IsPlain command
    step_of_line (lines.Add path) command is = absurd is
    step_of_line (lines.Link path) command is = absurd is
    step_of_line line command is = rw is tt

    module _ (o : Choices) (kept left : Kept) (before after : Latched W) (h : History) (line : Line) (command : Command R)
        (asks : IsCommandOf line command) where
      -- its answer went out whole
      pub line_answered : (s : Step) (status : ℕ) → TakesStep remaining contents o command kept left (Ok s) before after →
          status ≡ status_after (verdict_of s) →
          AnswersLine contents o (asked_by line) kept left h h (Ok status) before after
      line_answered s status (did, on, changes, does) is =
          let plain = plain_stores remaining o kept command did (step_of_line line command asks) on in
          line_by_step remaining o kept left (Ok status) before after h line command asks (
            did,
            on,
            changes,
            answers_status did left s status before after does (λ x e. plain (x, sym does.verdict ∙ e)) is,
          )

      -- or only a prefix of it
      pub line_cut_short : (fault : CliFault) (result : Result ℕ CliFault) →
          TakesStep remaining contents o command kept left (Err fault) before after → fault ≡ faults.WriteFailed device_fault →
          result ≡ Err fault → AnswersLine contents o (asked_by line) kept left h h result before after
      line_cut_short fault result (did, on, changes, does) is e =
          line_by_step remaining o kept left result before after h line command asks
          (did, on, changes, answers_fault did left fault result before after does is e)

  module _ (o : Choices) (path : List ℕ) (kept : Kept) (result : Result ℕ CliFault) (before after : Latched W) where
    -- there is no link
    pub refused_link : (h : History) → RefusesLink contents (link kept.forced (objects kept.entries) o) result before after →
        IfOk result (λ status. status ≡ 1) → IfErr result (λ e. e ≡ faults.WriteFailed device_fault) →
        AnswersLine contents o (to_link path) kept kept h h result before after
    refused_link h (fault, is, written) status write_failed =
        let did = refused_as kept.entries (cli_text (fault_of_link fault)) in
        answered_by o (to_link path) [] did kept kept h h result before after
        (record { entries = refl; status = status; write_failed = write_failed; fault = written.fault; bytes = written.bytes })
        refl (nothing_asked h)
        (inl (record {
          did = did;
          is_link = link_refused_by kept.entries (link kept.forced (objects kept.entries) o) fault is;
          refuses = refl;
          does = does_line (to_link path) [] did did refl;
        }))

    -- there is a link, and it is known what became of its file
    pub stored_link : (old new : History) (made : Linked) (what : Stored) → link kept.forced (objects kept.entries) o
        ≡ Ok (outcome_of made) → Extends old new (stored path made.file what ∷ []) →
        IfOk result (λ status. status ≡ link_status (report_names made.report) what) →
        IfErr result (λ e. e ≡ faults.WriteFailed device_fault) → (IsErr result ↔ IsTrue after.has_failed) →
        Puts result (contents before.device) (contents after.device) (link_answer_text (report_names made.report) path what) →
        AnswersLine contents o (to_link path) kept kept old new result before after
    stored_link old new made what is asked status write_failed failed bytes = record {
      run = record {
        line = to_link path;
        events = stored path made.file what ∷ [];
        answer = link_answer_text (report_names made.report) path what;
        status = link_status (report_names made.report) what;
        kept = kept.entries;
      };
      line = refl;
      leaves = refl;
      names = refl;
      is_run =
          inr (record { outcome = outcome_of made; is_link = is; what = what; events = refl; answer = refl; status = refl; same = refl });
      asked = asked;
      status = status;
      write_failed = write_failed;
      fault = failed;
      bytes = bytes;
    }

  -- an answer to which nothing had been written
  pub answered_from : (o : Choices) (asks : Asked) (kept left : Kept) (old new : History) (result : Result ℕ CliFault)
      (before between after : Latched W) → between ≡ before → AnswersLine contents o asks kept left old new result
      between after → AnswersLine contents o asks kept left old new result before after
  answered_from o asks kept left old new result before between after e h =
      subst (λ (w : Latched W). AnswersLine contents o asks kept left old new result w after) e h

  -- the whole answer is after a flush that failed
  not_passed : (a b c : Option (List ℕ)) (answer : List ℕ) → Appends a b answer → Keeps b c → AppendsPrefix a c answer
  not_passed a b c answer sent kept = (answer, [], sym (append-nil answer), Appends-kept a b c answer sent kept)

  -- a line was answered, and its answer is passed on, or is not
  pub line_passed : (o : Choices) (asks : Asked) (kept left : Kept) (old new : History) (status : ℕ)
      (result : Result ℕ CliFault) (before between after : Latched W) →
      AnswersLine contents o asks kept left old new (Ok status) before between →
      PassesOn contents status result between after → AnswersLine contents o asks kept left old new result before after
  line_passed o asks kept left old new status (Ok same) before between after h passes = record {
    run = h.run;
    line = h.line;
    leaves = h.leaves;
    names = h.names;
    is_run = h.is_run;
    asked = h.asked;
    status = passes.same ∙ h.status;
    write_failed = tt;
    fault = passes.fault;
    bytes = Appends-kept (contents before.device) (contents between.device) (contents after.device) h.run.answer h.bytes passes.bytes;
  }
  line_passed o asks kept left old new status (Err fault) before between after h passes = record {
    run = h.run;
    line = h.line;
    leaves = h.leaves;
    names = h.names;
    is_run = h.is_run;
    asked = h.asked;
    status = tt;
    write_failed = passes.write_failed;
    fault = passes.fault;
    bytes = not_passed (contents before.device) (contents between.device) (contents after.device) h.run.answer h.bytes passes.bytes;
  }
