-- Two lines that add a file and withdraw it, and two runs of the same lines for which the system gave the same.
use Rattle.std.proofs.Common.{rules, ◌≡◌, ℕ, Bool, true, false, List, [], ◌∷◌, ◌++◌, Option, Some, None, Result, Ok, Err, refl, ap, ◌∙◌, arith, inl, inr}
use Rattle.std.proofs.{Common.subst, lemmas.List.append_cancel_left, lemmas.Grind.flat_map-append}
use Rattle.std.specs.{Prelude.codes}
use Rattle.aout_core.specs.{Contents.Contents}
use Rattle.command_words.specs.Scripts.{Asked, to_add, to_withdraw}
use Rattle.link_session.specs.{declared.entry.AddFault.AddFault, Edits.last_of, Labelled.Labelled, Labelled.objects, Edits.without_last, Limits.refusal}
use Rattle.link_out.specs.{Inputs.{Cause, not_added, kept_with}, Steps.unless, function.Reports.line}
use Rattle.link_session.proofs.EditLemmas.{last_of-put_last, without_last-put_last}
use Rattle.tool_options.specs.Choices.{Choices}
use Rattle.host.specs.{Events.{closed, opened}, Sources.reading}
use Rattle.v7tools.specs.Answers.{refused, Stepped, add_step, withdraw_step}
use Rattle.v7tools.specs.LineRuns.{DoesStep, IsAddOf, IsLineOf, LineRun, OpensOne, status_after}
use Rattle.v7tools.specs.SessionRuns.{Chains, answers_of, events_of, lines_asked, worst}
use Rattle.laws.specs.{Disks.{Run, Writes}, SessionsByCommands.{AreGivenTheSame, EndsWell, LeavesNoTrace, UndoLaw}}
use Rattle.laws.proofs.LeftLemmas.{IsAt, adds_found, at_line}

-- ---- an addition that is done, and the withdrawal after it

record Added (old : List Labelled) (path : List ℕ) (r : LineRun) : Type 0 where
  known : Option (List ℕ)
  events : r.events ≡ opened path (Some known) ∷ (closed false ∷ [])
  answer : r.answer ≡ line (codes "added " ++ path)
  entry : Labelled
  label : entry.label ≡ path
  keeps : r.kept ≡ old ++ entry ∷ []

module _ (forced : List (List ℕ)) (old : List Labelled) (path : List ℕ) (r : LineRun) (h : OpensOne forced old path r)
    (zero : r.status ≡ 0) where
  not_refused : h.did.verdict ≡ refused → ⊥
  not_refused e = let one : r.status ≡ 1 = h.does.status ∙ ap status_after e in omega arith

  by_limit : h.failed ≡ false → (object : Contents) (fault : Option AddFault) →
      h.did ≡ add_step old path (unless not_added fault (old ++ record { label = path; object = object } ∷ [])) → Added old path r
  by_limit works object (Some fault) e = absurd (not_refused (ap (λ (s : Stepped). s.verdict) e))
  by_limit works object None e = record {
    known = h.known;
    events = h.does.events ∙ ap (reading path (Some h.known)) works;
    answer = h.does.answer ∙ ap (λ (s : Stepped). s.answer) e;
    entry = record { label = path; object = object };
    label = refl;
    keeps = h.does.kept ∙ ap (λ (s : Stepped). s.kept) e;
  }

  by_found : h.failed ≡ false → (found : Result Contents Cause) → h.did ≡ add_step old path (kept_with forced old path found) → Added old path r
  by_found works (Err cause) e = absurd (not_refused (ap (λ (s : Stepped). s.verdict) e))
  by_found works (Ok object) e = by_limit works object (refusal forced (objects old) object) e

  by_add : (failed : Bool) → h.failed ≡ failed → IsAddOf h.known failed forced old path h.did → Added old path r
  by_add true is e = absurd (not_refused (ap (λ (s : Stepped). s.verdict) e))
  by_add false is (inl (e, wants)) = absurd (not_refused (ap (λ (s : Stepped). s.verdict) e))
  by_add false is (inr k) = let f = adds_found h.known forced old path h.did k in by_found is f.found f.did_it

added : (forced : List (List ℕ)) (o : Choices) (old : List Labelled) (path : List ℕ) (r : LineRun) →
    IsLineOf forced o old r (to_add path) → r.status ≡ 0 → Added old path r
added forced o old path r (inl does) zero = absurd (let one : r.status ≡ 1 = does.status in omega arith)
added forced o old path r (inr h) zero = by_add forced old path r h zero h.failed refl h.is_add

record TakenBack (old : List Labelled) (label : List ℕ) (r : LineRun) : Type 0 where
  events : r.events ≡ []
  answer : r.answer ≡ line (codes "withdrew " ++ label)
  status : r.status ≡ 0
  same : r.kept ≡ old

-- what is taken away right after an addition is what was added
withdrew : (old between : List Labelled) (e : Labelled) (r : LineRun) → between ≡ old ++ e ∷ [] →
    DoesStep [] (withdraw_step between (last_of between)) r → TakenBack old e.label r
withdrew old between e r adds does = record {
  events = does.events;
  answer = does.answer ∙ ap (λ (l : Option Labelled). (withdraw_step between l).answer) last;
  status = does.status ∙ ap (λ (l : Option Labelled). status_after (withdraw_step between l).verdict) last;
  same =
      does.kept ∙ ap (λ (l : Option Labelled). (withdraw_step between l).kept) last ∙ ap without_last adds ∙ without_last-put_last old e;
}
  where
    last : last_of between ≡ Some e
    last = ap last_of adds ∙ last_of-put_last old e

-- ---- two lines that ask for the same

record DoesTheSame (r t : LineRun) : Type 0 where
  events : t.events ≡ r.events
  answer : t.answer ≡ r.answer
  status : t.status ≡ r.status
  kept : t.kept ≡ r.kept

-- ---- two runs of the same lines, by induction over them

record RunTheSame (rs ts : List LineRun) : Type 0 where
  answers : answers_of ts ≡ answers_of rs
  events : events_of ts ≡ events_of rs
  status : worst ts ≡ worst rs

run_the_same : (forced : List (List ℕ)) (o : Choices) (old twin new other : List Labelled) (rs ts : List LineRun) → twin ≡ old →
    Chains forced o old rs new → Chains forced o twin ts other → lines_asked ts ≡ lines_asked rs → AreGivenTheSame rs ts → RunTheSame rs ts
run_the_same forced o old twin new other [] [] same h k lines gives = record { answers = refl; events = refl; status = refl }
run_the_same forced o old twin new other (r ∷ rs) (t ∷ ts) same h k lines gives =
    let asks : t.line ≡ r.line = cc in
    let later : lines_asked ts ≡ lines_asked rs = cc in
    let one : DoesTheSame r t = search rules in
    search (rules, (run_the_same forced o r.kept t.kept new other rs ts one.kept h.1 k.1 later gives.1))
run_the_same forced o old twin new other _ _ same h k lines gives = absurd gives

-- ---- the law: the lines before the two, the two, which give the state back, and the lines after them

chains_append : (forced : List (List ℕ)) (o : Choices) (old mid new : List Labelled) (rs ts : List LineRun) →
    Chains forced o old rs mid → Chains forced o mid ts new → Chains forced o old (rs ++ ts) new
chains_append forced o old mid new [] ts h k = subst (λ (x : List Labelled). Chains forced o x ts new) h k
chains_append forced o old mid new (r ∷ rs) ts h k = (h.0, chains_append forced o r.kept mid new rs ts h.1 k)

worst_without : (before : List LineRun) (add withdraw : LineRun) (after : List LineRun) → add.status ≡ 0 → withdraw.status ≡ 0 →
    worst (before ++ add ∷ (withdraw ∷ after)) ≡ worst (before ++ after)
worst_without [] add withdraw after a w = omega arith
worst_without (s ∷ ss) add withdraw after a w = cc (worst_without ss add withdraw after a w)

module _ {W E : Type 0} (out_contents : W → Option (List ℕ)) (error_contents : E → Option (List ℕ)) where
  -- a run is that of these lines
  record RanLines (forced : List (List ℕ)) (o : Choices) (r : Run W E) (runs : List LineRun) : Type 0 where
    kept : List Labelled
    chain : Chains forced o [] runs kept
    events : r.events ≡ events_of runs
    answers : Writes out_contents r (answers_of runs)
    status : r.status ≡ worst runs

  ran_lines : (forced : List (List ℕ)) (o : Choices) (r : Run W E) (h : EndsWell out_contents error_contents forced o r) →
      RanLines forced o r h.runs
  ran_lines forced o r h = record {
    kept = h.kept;
    chain = h.ran.chain;
    events = append_cancel_left r.earlier r.events (events_of h.runs) h.ran.asked;
    answers = h.ran.answers;
    status = h.ends.1;
  }

  -- the two lines in a run of lines
  undo_lines : (forced : List (List ℕ)) (o : Choices) (long short : Run W E) (before after others : List LineRun)
      (add withdraw : LineRun) (path : List ℕ) →
      RanLines forced o long (before ++ add ∷ (withdraw ∷ after)) → RanLines forced o short others →
      add.line ≡ to_add path → add.status ≡ 0 → withdraw.line ≡ to_withdraw →
      lines_asked others ≡ lines_asked (before ++ after) → AreGivenTheSame (before ++ after) others →
      LeavesNoTrace out_contents error_contents path long short
  undo_lines forced o long short before after others add withdraw path ran twin adds zero takes lines gives =
      let at : IsAt forced o [] before add (withdraw ∷ after) ran.kept =
      at_line forced o [] before add (withdraw ∷ after) ran.kept ran.chain in
      let a : Added at.mid path add =
      added forced o at.mid path add (subst (λ (a : Asked). IsLineOf forced o at.mid add a) adds at.line) zero in
      let w : TakenBack at.mid a.entry.label withdraw =
      withdrew at.mid add.kept a.entry withdraw a.keeps (subst (λ (a : Asked). IsLineOf forced o add.kept withdraw a) takes at.rest.0) in
      let w_answer : withdraw.answer ≡ line (codes "withdrew " ++ path) =
      w.answer ∙ ap (λ (l : List ℕ). line (codes "withdrew " ++ l)) a.label in
      let chain : Chains forced o [] (before ++ after) ran.kept = search (rules, chains_append) in
      let same : RunTheSame (before ++ after) others =
      run_the_same forced o [] [] ran.kept twin.kept (before ++ after) others refl chain twin.chain lines gives in
      search (rules, flat_map-append, worst_without)

  pub undo_law : UndoLaw out_contents error_contents
  undo_law forced o long short l s before after add withdraw path is =
      undo_lines forced o long short before after s.runs add withdraw path
      (subst (λ (rs : List LineRun). RanLines forced o long rs) is (ran_lines forced o long l)) (ran_lines forced o short s)
