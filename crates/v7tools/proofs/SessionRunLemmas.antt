-- The lines of a script, run one after another on a session.
use Rattle.aout_core.specs.{Refusals.refused, Wires.Latched}
use Rattle.std.proofs.Common.{◌≡◌, ℕ, ◌+◌, max, List, [], ◌∷◌, ◌++◌, Option, Some, None, Result, Ok, Err, refl, sym, ap, ◌∙◌, subst, inl}
use Rattle.std.proofs.{Common.{inr, append_assoc, append-nil, arith}, KnownBytes.{Appends-nil, Appends-trans, prepend_known-nil}}
use Rattle.std.proofs.lemmas.List.{flat_map_more, map-append}
use Rattle.std.specs.{Prelude.{IfSome, IsSome, IsTrue, ◌⊎◌}, Io.KnownBytes.{Appends, prepend_known}}
use Rattle.link_session.specs.{Labelled.Labelled, Sessions.nothing_kept, Undo.Kept}
use Rattle.tool_options.specs.Choices.{Choices}
use Rattle.host.specs.Events.{History, Extends}
use Rattle.command_words.specs.Scripts.{Asked, Given, ScriptFault, long_line, many_lines, and_given, given_after}
use Rattle.command_words.specs.ScriptAnswers.{Answer, GivesNext, GivesNone, NamesPath, WhereKnown, IsNextOf, Progress, Settles, asked_by, lines_of}
use Rattle.command_words.specs.{declared.line_reader.Stop.Stop, declared.lines.Line.Line}
use Rattle.command_words.specs.declared.line_reader.Stop.TheVariants as stops
use Rattle.texts.specs.Lines.{lines_in}
use Rattle.v7tools.specs.SessionRuns.{AreFirst, AreLines, Chains, EndsAfter, IsSessionRun, Ran, StopsAfter, answers_of, events_of, given}
use Rattle.v7tools.specs.{SessionRuns.{lines_asked, worst}, LineRuns.{IsLineOf, LineRun}, internal.SessionParts.AnswersLine}
use Rattle.v7tools.specs.{ScriptCalls.returned, declared.fault.CliFault.CliFault}
use Rattle.v7tools.specs.declared.fault.CliFault.TheVariants as faults
use Rattle.host.proofs.EventLemmas.{asked_after, nothing_asked}
use Rattle.command_words.proofs.ScriptLemmas.{after_last_line}

-- ---- one more line

chains_more : (forced : List (List ℕ)) (o : Choices) (old mid new : List Labelled) (runs : List LineRun) (r : LineRun) →
    Chains forced o old runs mid → IsLineOf forced o mid r r.line → r.kept ≡ new → Chains forced o old (runs ++ r ∷ []) new
chains_more forced o old mid new [] r h is e = (subst (λ (k : List Labelled). IsLineOf forced o k r r.line) h is, sym e)
chains_more forced o old mid new (s ∷ ss) r h is e = (h.0, chains_more forced o s.kept mid new ss r h.1 is e)

worst_more : (runs : List LineRun) (r : LineRun) → worst (runs ++ r ∷ []) ≡ max (worst runs) r.status
worst_more [] r = omega arith
worst_more (s ∷ ss) r = let h : worst (ss ++ r ∷ []) ≡ max (worst ss) r.status = worst_more ss r in omega arith

-- ---- what a script gave so far

abbrev before_given : List Asked → Given → Given
before_given lines g = record { lines = lines ++ g.lines; fault = g.fault }

-- these lines were given, and these bytes are left for those after them
abbrev GivesFirst : List Asked → ℕ → List ℕ → List ℕ → Type 0
GivesFirst lines n bytes left = given bytes ≡ before_given lines (given_after n (lines_in left))

abbrev IsEmpty : List ℕ → List ℕ → Type 0
IsEmpty bytes left = left ≡ []

-- a script gave these lines, and goes on or is at its end
pub record Reading (first now : Option (List ℕ)) (n : ℕ) (settled : Option Stop) (lines : List Asked) : Type 0 where
  pub gave : WhereKnown first now (GivesFirst lines n)
  pub goes : (settled ≡ None) ⊎ ((settled ≡ Some stops.End) × WhereKnown first now IsEmpty)

reads_first : (first : Option (List ℕ)) (settled : Option Stop) → settled ≡ None → Reading first first 0 settled []
reads_first None settled e = record { gave = tt; goes = inl e }
reads_first (Some bytes) settled e = record { gave = refl; goes = inl e }

known_on : (first mid now : Option (List ℕ)) (P Q S : List ℕ → List ℕ → Type 0) →
    ((a b c : List ℕ) → P a b → Q b c → S a c) → WhereKnown first mid P → WhereKnown mid now Q → WhereKnown first now S
known_on None mid now P Q S f h k = tt
known_on (Some a) None now P Q S f h k = absurd h
known_on (Some a) (Some b) None P Q S f h k = absurd k
known_on (Some a) (Some b) (Some c) P Q S f h k = f a b c h k

known_with : (first now : Option (List ℕ)) (P Q : List ℕ → List ℕ → Type 0) (S : List ℕ → Type 0) →
    ((a b : List ℕ) → P a b → Q a b → S a) → WhereKnown first now P → WhereKnown first now Q → IfSome first S
known_with None now P Q S f h k = tt
known_with (Some a) None P Q S f h k = absurd h
known_with (Some a) (Some b) P Q S f h k = f a b h k

-- a line after others
before_and_given : (lines : List Asked) (a : Asked) (g : Given) → before_given lines (and_given a g) ≡ before_given (lines ++ a ∷ []) g
before_and_given lines a g =
    ap (λ (l : List Asked). let r : Given = record { lines = l; fault = g.fault } in r) (sym (append_assoc lines (a ∷ []) g.lines))

before_end : (lines : List Asked) (fault : Option ScriptFault) →
    before_given lines (record { lines = []; fault = fault }) ≡ record { lines = lines; fault = fault }
before_end lines fault = ap (λ (l : List Asked). let r : Given = record { lines = l; fault = fault } in r) (append-nil lines)

-- what a call gives of a script that is not settled
abbrev Next : Option (List ℕ) → Option (List ℕ) → ℕ → Option Stop → Option Stop → Answer → Type 0
Next mid now n settled later answer = settled ≡ None → WhereKnown mid now (λ bytes left. IsNextOf n bytes left later answer)

-- of one that is settled
abbrev Stays : Option Stop → Answer → Type 0
Stays settled answer = IfSome settled (λ stop. answer ≡ Err stop)

reads_front : (first mid : Option (List ℕ)) (n : ℕ) (settled : Option Stop) (lines : List Asked) →
    Reading first mid n settled lines → AreFirst first lines
reads_front first mid n settled lines h =
    known_with first mid (GivesFirst lines n) (GivesFirst lines n) (λ a. (more : List Asked) × ((given a).lines ≡ lines ++ more))
    (λ a b k _. ((given_after n (lines_in b)).lines, ap (λ (g : Given). g.lines) k)) h.gave h.gave

stays_alone : (settled : Option Stop) (answer : Answer) (same : Type 0) →
    IfSome settled (λ stop. (answer ≡ Err stop) × same) → Stays settled answer
stays_alone None answer same h = tt
stays_alone (Some stop) answer same h = h.0

module _ (first mid now : Option (List ℕ)) (n : ℕ) (settled later : Option Stop) (lines : List Asked)
    (h : Reading first mid n settled lines) where
  open_script : (answer : Answer) → Stays settled answer → (answer ≡ Err stops.End → ⊥) → settled ≡ None
  open_script answer stays other = by h.goes
    where
      by : (settled ≡ None) ⊎ ((settled ≡ Some stops.End) × WhereKnown first mid IsEmpty) → settled ≡ None
      by (inl e) = e
      by (inr (e, ended)) = absurd (other (subst (λ (s : Option Stop). Stays s answer) e stays))

  -- a line more
  pub reads_line : (it : Line) (m : ℕ) → Stays settled (Ok it) → Settles (Ok it) later →
      Next mid now n settled later (Ok it) → m ≡ n + 1 → Reading first now m later (lines ++ asked_by it ∷ [])
  reads_line it m stays settles next count = record { gave = gave; goes = goes later refl settles }
    where
      next_told : WhereKnown mid now (λ bytes left. IsNextOf n bytes left later (Ok it))
      next_told = next (open_script (Ok it) stays (λ e. cc))

      gave : WhereKnown first now (GivesFirst (lines ++ asked_by it ∷ []) m)
      gave =
          known_on first mid now (GivesFirst lines n) (λ bytes left. IsNextOf n bytes left later (Ok it))
          (GivesFirst (lines ++ asked_by it ∷ []) m)
          (λ a b c first_given is.
          let g = given_after m (lines_in c) in
          first_given ∙ ap (before_given lines) (is.0.1 ∙ ap (λ (k : ℕ). and_given (asked_by it) (given_after k (lines_in c))) (sym count))
          ∙ before_and_given lines (asked_by it) g)
          h.gave next_told

      goes : (s : Option Stop) → later ≡ s → IfSome s (λ stop. stop ≡ stops.End) →
          (later ≡ None) ⊎ ((later ≡ Some stops.End) × WhereKnown first now IsEmpty)
      goes None e settled_so = inl e
      goes (Some stop) e settled_so =
          inr (
            e ∙ ap (λ (s : Stop). let r : Option Stop = Some s in r) settled_so,
            known_on first mid now (GivesFirst lines n) (λ bytes left. IsNextOf n bytes left later (Ok it)) IsEmpty
                (λ a b c first_given is. is.0.0 ∙ after_last_line b (is.1.0 (subst (λ (o : Option Stop). IsSome o) (sym e) refl)))
                h.gave next_told,
          )

  -- the same of what a call gave, once it is known to be a line
  reads_given : (answer : Answer) (it : Line) (m : ℕ) → answer ≡ Ok it → Stays settled answer → Settles answer later →
      Next mid now n settled later answer → m ≡ n + lines_of answer → Reading first now m later (lines ++ asked_by it ∷ [])
  reads_given answer it m is stays settles next count =
      reads_line it m (subst (Stays settled) is stays) (subst (λ (a : Answer). Settles a later) is settles)
      (subst (Next mid now n settled later) is next) (subst (λ (a : Answer). m ≡ n + lines_of a) is count)

  -- a call without a line tells of the whole script
  known_of : (stop : Stop) (S : List ℕ → Type 0) →
      ((a b c : List ℕ) → GivesFirst lines n a b → IsNextOf n b c later (Err stop) → S a) →
      WhereKnown mid now (λ b c. IsNextOf n b c later (Err stop)) → IfSome first S
  known_of stop S f next =
      let told : WhereKnown first now (λ a c. S a) =
      known_on first mid now (GivesFirst lines n) (λ b c. IsNextOf n b c later (Err stop)) (λ a c. S a) f h.gave next in
      known_with first now (λ a c. S a) (λ a c. S a) S (λ a c s _. s) told told

  -- no line more
  ends_lines : (stop : Stop) (fault : Option ScriptFault) →
      ((b c : List ℕ) → IsNextOf n b c later (Err stop) → GivesNone n b fault) →
      WhereKnown mid now (λ b c. IsNextOf n b c later (Err stop)) → AreLines first lines fault
  ends_lines stop fault none next =
      known_of stop (λ a. given a ≡ record { lines = lines; fault = fault })
      (λ a b c gave is. gave ∙ ap (before_given lines) (none b c is) ∙ before_end lines fault) next

  reads_end : Stays settled (Err stops.End) → Next mid now n settled later (Err stops.End) → AreLines first lines None
  reads_end stays next = by h.goes
    where
      by : (settled ≡ None) ⊎ ((settled ≡ Some stops.End) × WhereKnown first mid IsEmpty) → AreLines first lines None
      by (inl e) = ends_lines stops.End None (λ b c is. is.1) (next e)
      by (inr (e, ended)) =
          known_with first mid (GivesFirst lines n) IsEmpty (λ a. given a ≡ record { lines = lines; fault = None })
          (λ a b gave empty. gave ∙ ap (λ (l : List ℕ). before_given lines (given_after n (lines_in l))) empty ∙ before_end lines None)
          h.gave ended

  reads_ended : (answer : Answer) → answer ≡ Err stops.End → Stays settled answer →
      Next mid now n settled later answer → AreLines first lines None
  reads_ended answer is stays next = reads_end (subst (Stays settled) is stays) (subst (Next mid now n settled later) is next)

  -- a fault after the lines
  stops_with : (stop : Stop) (fault : CliFault) → Err fault ≡ returned (Err stop) →
      WhereKnown mid now (λ bytes left. IsNextOf n bytes left later (Err stop)) → StopsAfter first lines fault
  stops_with stops.End fault e next = absurd (cc)
  stops_with stops.LongLine fault e next =
      let is : fault ≡ faults.LongLine = cc in rw is (ends_lines stops.LongLine (Some long_line) (λ b c is. is.1) next)
  stops_with stops.ManyLines fault e next =
      let is : fault ≡ faults.ManyLines = cc in rw is (ends_lines stops.ManyLines (Some many_lines) (λ b c is. is.1) next)
  stops_with stops.ReadFailed fault e next =
      let is : fault ≡ faults.ScriptFailed = cc in rw is (reads_front first mid n settled lines h)
  stops_with (stops.Memory _) fault e next =
      let is : fault ≡ faults.Memory refused = cc in
      subst (StopsAfter first lines) (sym is) (known_of (stops.Memory refused)
      (λ a. (x : Asked) × (more : List Asked) × NamesPath x × ((given a).lines ≡ lines ++ x ∷ more)) (λ a b c gave is. (
        is.0,
        (given_after (n + 1) (lines_in c)).lines,
        is.1,
        ap (λ (g : Given). g.lines) (gave ∙ ap (before_given lines) is.2.1),
      )) next)

  reads_fault : (answer : Answer) (fault : CliFault) → Err fault ≡ returned answer → Stays settled answer →
      Next mid now n settled later answer → StopsAfter first lines fault
  reads_fault (Ok it) fault e stays next = absurd (cc)
  reads_fault (Err stop) fault e stays next =
      stops_with stop fault e (next (open_script (Err stop) stays (λ same.
      let ended : Err fault ≡ returned (Err stops.End) = e ∙ ap returned same in
      cc)))

-- ---- the lines that were run

-- what a script has left: what it holds, and what its reader has
abbrev left_of : {R : Type 0} → (R → Option (List ℕ)) → Progress R → Option (List ℕ)
left_of remaining script = prepend_known script.held (remaining script.wire.device)

module _ {R W : Type 0} (remaining : R → Option (List ℕ)) (contents : W → Option (List ℕ)) where
  -- some lines of a script were run
  pub record Running (o : Choices) (start kept : Kept) (begun script : Progress R) (old new : History)
      (before after : Latched W) (status : ℕ) : Type 0 where
    pub runs : List LineRun
    pub names : kept.forced ≡ start.forced
    pub ran : Ran contents start.forced o start.entries kept.entries runs old new before after
    pub reading : Reading (left_of remaining begun) (left_of remaining script) script.line_count script.settled (lines_asked runs)
    pub worst_so_far : status ≡ worst runs

  pub runs_none : (o : Choices) (start : Kept) (begun : Progress R) (old : History) (before : Latched W) →
      begun.line_count ≡ 0 → begun.settled ≡ None → Running o start start begun begun old old before before 0
  runs_none o start begun old before none e = record {
    runs = [];
    names = refl;
    ran = record {
      chain = refl;
      asked = nothing_asked old;
      answers = Appends-nil (contents before.device);
      working = λ t. t;
      latched = λ t. (refl, refl);
    };
    reading =
        subst (λ (k : ℕ). Reading (left_of remaining begun) (left_of remaining begun) k begun.settled []) (sym none)
        (reads_first (left_of remaining begun) begun.settled e);
    worst_so_far = refl;
  }

module _ {R W : Type 0} {remaining : R → Option (List ℕ)} {contents : W → Option (List ℕ)} {o : Choices} {start mid : Kept}
    {begun script next : Progress R} {old between : History} {before during : Latched W} {status : ℕ} {answer : Answer}
    (h : Running remaining contents o start mid begun script old between before during status)
    (gives : GivesNext remaining script next answer) where
  abbrev asked_so_far : List Asked
  asked_so_far = lines_asked h.runs

  stays : Stays script.settled answer
  stays = stays_alone script.settled answer (next ≡ script) gives.stays

  -- the script with the line that a call gave
  reads : (it : Line) → answer ≡ Ok it → Reading (left_of remaining begun) (left_of remaining next) next.line_count
      next.settled (asked_so_far ++ asked_by it ∷ [])
  reads it is =
      reads_given (left_of remaining begun) (left_of remaining script) (left_of remaining next) script.line_count script.settled
      next.settled asked_so_far h.reading answer it next.line_count is stays gives.settles gives.next gives.count

  -- a line that was run on what is kept, with the first forced names
  line_is : (r : LineRun) → IsLineOf mid.forced o mid.entries r r.line → IsLineOf start.forced o mid.entries r r.line
  line_is r is = subst (λ (ns : List (List ℕ)). IsLineOf ns o mid.entries r r.line) h.names is

  -- one more line
  pub runs_more : {left : Kept} {new : History} {after : Latched W} {answered : ℕ} (it : Line) → answer ≡ Ok it →
      AnswersLine contents o (asked_by it) mid left between new (Ok answered) during after →
      (IsTrue during.has_failed → after ≡ during) →
      Running remaining contents o start left begun next old new before after (max status answered)
  runs_more {left} {new} {after} {answered} it is line kept = record {
    runs = h.runs ++ line.run ∷ [];
    names = line.names ∙ h.names;
    ran = record {
      chain =
          chains_more start.forced o start.entries mid.entries left.entries h.runs line.run h.ran.chain (line_is line.run line.is_run)
          line.leaves;
      asked =
          subst (Extends old new) (flat_map_more (λ (r : LineRun). r.events) [] h.runs line.run)
          (asked_after old between new (events_of h.runs) line.run.events h.ran.asked line.asked);
      answers =
          subst (Appends (contents before.device) (contents after.device)) (flat_map_more (λ (r : LineRun). r.answer) [] h.runs line.run)
          (Appends-trans (contents before.device) (contents during.device) (contents after.device)
          (answers_of h.runs) line.run.answer h.ran.answers line.bytes);
      working = λ t. absurd (let bad = line.fault.1 t in cc);
      latched = λ t.
          let (none, same) = h.ran.latched t in
          let failed : IsTrue during.has_failed = subst (λ (w : Latched W). IsTrue w.has_failed) (sym same) t in
          let bad = line.fault.1 (subst (λ (w : Latched W). IsTrue w.has_failed) (sym (kept failed)) failed) in
          absurd (cc);
    };
    reading =
        subst (Reading (left_of remaining begun) (left_of remaining next) next.line_count next.settled)
        (sym (map-append (λ (r : LineRun). r.line) h.runs (line.run ∷ []) ∙ ap (λ (a : Asked). asked_so_far ++ a ∷ []) line.line))
        (reads it is);
    worst_so_far = ap (λ (k : ℕ). max k answered) h.worst_so_far ∙ ap (max (worst h.runs)) line.status ∙ sym (worst_more h.runs line.run);
  }

  -- ---- how it ends

  module _ (forced : List (List ℕ)) (is : start ≡ nothing_kept forced) (held : begun.held ≡ []) (result : Result ℕ CliFault) where
    first_is : left_of remaining begun ≡ remaining begun.wire.device
    first_is =
        ap (λ (l : List ℕ). prepend_known l (remaining begun.wire.device)) held ∙ prepend_known-nil (remaining begun.wire.device)

    -- the lines so far are all that are run
    all_ran : EndsAfter (left_of remaining begun) h.runs result →
        IsSessionRun contents forced o (remaining begun.wire.device) old between result before during
    all_ran ends = inr (inl (record {
      runs = h.runs;
      kept = mid.entries;
      ran = subst (λ (k : Kept). Ran contents k.forced o k.entries mid.entries h.runs old between before during) is h.ran;
      ends = subst (λ (known : Option (List ℕ)). EndsAfter known h.runs result) first_is ends;
    }))

    pub all_run : answer ≡ Err stops.End → result ≡ Ok status →
        IsSessionRun contents forced o (remaining begun.wire.device) old between result before during
    all_run ended said =
        all_ran (subst (EndsAfter (left_of remaining begun) h.runs) (sym said) (
          reads_ended (left_of remaining begun) (left_of remaining script) (left_of remaining next) script.line_count
              script.settled next.settled asked_so_far h.reading answer ended stays gives.next,
          h.worst_so_far,
        ))

    pub run_up_to : (fault : CliFault) → Err fault ≡ returned answer → result ≡ Err fault →
        IsSessionRun contents forced o (remaining begun.wire.device) old between result before during
    run_up_to fault told said =
        all_ran (subst (EndsAfter (left_of remaining begun) h.runs) (sym said)
        (reads_fault (left_of remaining begun) (left_of remaining script) (left_of remaining next) script.line_count
        script.settled next.settled asked_so_far h.reading answer fault told stays gives.next))

    pub broke_off : {left : Kept} {new : History} {after : Latched W} (it : Line) (fault : CliFault) → answer ≡ Ok it →
        AnswersLine contents o (asked_by it) mid left between new (Err fault) during after →
        (IsTrue during.has_failed → after ≡ during) → result ≡ Err fault →
        IsSessionRun contents forced o (remaining begun.wire.device) old new result before after
    broke_off {left} {new} {after} it fault read line unchanged said =
        let (part, rest, split, sent) = line.bytes in
        inr (inr (record {
          runs = h.runs;
          kept = mid.entries;
          chain = subst (λ (k : Kept). Chains k.forced o k.entries h.runs mid.entries) is h.ran.chain;
          last = line.run;
          is_run = subst (λ (k : Kept). IsLineOf k.forced o mid.entries line.run line.run.line) is (line_is line.run line.is_run);
          first = subst (λ (known : Option (List ℕ)). AreFirst known (asked_so_far ++ line.run.line ∷ [])) first_is
              (subst (λ (a : Asked). AreFirst (left_of remaining begun) (asked_so_far ++ a ∷ [])) (sym line.line)
              (reads_front (left_of remaining begun) (left_of remaining next) next.line_count next.settled
              (asked_so_far ++ asked_by it ∷ []) (reads it read)));
          asked = asked_after old between new (events_of h.runs) line.run.events h.ran.asked line.asked;
          part = part;
          rest = rest;
          split = split;
          answers =
              Appends-trans (contents before.device) (contents during.device) (contents after.device)
              (answers_of h.runs) part h.ran.answers sent;
          failed = line.fault.0 refl;
          latched = λ t.
              let (none, same) = h.ran.latched t in
              (none, unchanged (subst (λ (w : Latched W). IsTrue w.has_failed) (sym same) t) ∙ same);
          refusal = said ∙ ap (λ (f : CliFault). let r : Result ℕ CliFault = Err f in r) line.write_failed;
        }))

-- memory is wanted before a line is read
pub no_memory : {W : Type 0} (contents : W → Option (List ℕ)) (o : Choices) (forced : List (List ℕ))
    (script : Option (List ℕ)) (old : History) (before : Latched W) (fault : CliFault) (result : Result ℕ CliFault) →
    fault ≡ faults.Memory refused → result ≡ Err fault → IsSessionRun contents forced o script old old result before before
no_memory contents o forced script old before fault result is answer =
    inl (nothing_asked old, record { refusal = answer ∙ ap (λ (f : CliFault). let r : Result ℕ CliFault = Err f in r) is; silent = refl })
