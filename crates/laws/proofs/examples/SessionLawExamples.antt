-- The laws of sessions and of calls at a sample, and without one of their premises.
use Rattle.std.specs.Prelude.{String, bytes_eq, codes, cond, decimal}
use Rattle.std.specs.{declared.alloc.Global.Global, Char.encode_utf8, List.AllByRecursion, Str.chars, Str.is_utf8}
use Rattle.std.proofs.Common.{◌≡◌, ◌≢◌, ◌⊎◌, ℕ, true, false, List, [], ◌∷◌, ◌++◌, Some, None, Result, Ok, Err, refl, sym, ◌∙◌, ap, arith, inl, inr}
use Rattle.std.proofs.{lemmas.Slice.Eq.bytes_eq-Decides}
use Rattle.clap.proofs.OnLiterals.{clap_on_literals}
use Rattle.aout_core.specs.{Contents.Contents, Encoding.encoding}
use Rattle.texts.specs.Lines.{text_of}
use Rattle.command_words.specs.{declared.words.Call.TheVariants.Session, Scripts.{to_add, to_withdraw, to_link}}
use Rattle.link_session.specs.{Labelled.Labelled}
use Rattle.tool_options.specs.Choices.{Choices}
use Rattle.link_out.specs.{declared.linked.Linked.Linked, Outcomes.outcome_of as result_of, function.Reports.line, Inputs.with_input}
use Rattle.host.specs.{Events.{Event, Opened, closed, opened, opens, stored}, declared.file_system.Stored.TheVariants.Kept}
use Rattle.v7tools.specs.declared.fault.CliFault.{CliFault}
use Rattle.v7tools.specs.declared.fault.CliFault.TheVariants as faults
use Rattle.link_out.specs.declared.linked.LinkFault.TheVariants as links
use Rattle.v7tools.specs.{Answers.{Stepped, add_step, done, refused}, LineRuns.{IsLineOf, LineRun, status_after}, LinkRuns.IsLinkRun}
use Rattle.v7tools.specs.{SessionRuns.{AreLines, Chains, answers_of, events_of, lines_asked, worst}, CommandRuns.{AsksFor, Ends}}
use Rattle.laws.specs.Calls.{DoesPerform, LinkCallLaw, RunsSession, SessionCallLaw}
use Rattle.laws.specs.SessionsByCommands.{AreGivenTheSame, CannotRead, CannotWrite, DoesAsLd, EndsWell, FailsBy, IsGivenTheSame, IsKnown}
use Rattle.laws.specs.SessionsByCommands.{AreThere, IsRefusedAsLd, IsSameOn, IsThere, IsUndisturbed, LeavesNoTrace, LinkLineLaw, LinksLeft}
use Rattle.laws.specs.SessionsByCommands.{RefusedLineLaw, RunsLd, SameDiskLaw, UndoLaw, files_left}
use Rattle.laws.specs.Disks.{Disk, Run}
use Rattle.laws.proofs.examples.Samples.{b_o, e_o, object, plain}
use Rattle.laws.proofs.examples.LdRuns.{Links, a, b, q, q_path, both_asks, both_paths, both_words, contents, holding, links, made_of, took}
use Rattle.laws.proofs.examples.{LdRuns.{rows_read, run_of}, NeededPremises.{counts, link_of}}

abbrev p : List ℕ
p = codes "p"

abbrev x : List ℕ
x = codes "x"

-- ---- a script: one file can't be opened, one is added, one is added twice and withdrawn once, and then there is a link

abbrev first : Labelled
first = record { label = a; object = b_o }

abbrev again : Labelled
again = record { label = b; object = e_o }

abbrev one : List Labelled
one = first ∷ []

abbrev two : List Labelled
two = first ∷ again ∷ []

abbrev three : List Labelled
three = first ∷ again ∷ again ∷ []

abbrev missing_line : LineRun
missing_line = record {
  line = to_add x;
  events = opened x None ∷ [];
  answer = line (codes "x: cannot open");
  status = 1;
  kept = [];
}

abbrev add_line : List ℕ → Contents → List Labelled → LineRun
add_line path file kept = record {
  line = to_add path;
  events = opened path (Some (Some (encoding file))) ∷ (closed false ∷ []);
  answer = line (codes "added " ++ path);
  status = 0;
  kept = kept;
}

abbrev withdraw_line : LineRun
withdraw_line = record { line = to_withdraw; events = []; answer = line (codes "withdrew b"); status = 0; kept = two }

abbrev made : Linked
made = made_of (link_of (b_o ∷ e_o ∷ []) plain).file

abbrev link_line : LineRun
link_line = record {
  line = to_link p;
  events = stored p made.file Kept ∷ [];
  answer = line (codes "linked " ++ p ++ codes " " ++ decimal 0);
  status = 0;
  kept = two;
}

abbrev before : List LineRun
before = missing_line ∷ add_line a b_o one ∷ add_line b e_o two ∷ []

abbrev before_link : List LineRun
before_link = before ++ add_line b e_o three ∷ (withdraw_line ∷ [])

abbrev long_lines : List LineRun
long_lines = before_link ++ link_line ∷ []

abbrev short_lines : List LineRun
short_lines = before ++ link_line ∷ []

abbrev files : Disk
files at =
    cond (bytes_eq at a) (Some (encoding b_o)) (cond (bytes_eq at b) (Some (encoding e_o)) None)

abbrev session_words : List (List ℕ)
session_words = codes "session" ∷ []

-- a session of a script with these lines, which ran so
abbrev session_of : List (List ℕ) → List LineRun → Run (List ℕ) (List ℕ)
session_of script lines = record {
  words = session_words;
  script = Some (text_of script);
  disk = files;
  earlier = [];
  events = events_of lines;
  output_before = holding [];
  output_after = holding (answers_of lines);
  error_before = holding [];
  error_after = holding [];
  status = worst lines;
}

-- ---- the scripts, by their bytes

abbrev short_script : List (List ℕ)
short_script = codes "add x" ∷ codes "add a" ∷ codes "add b" ∷ codes "link p" ∷ []

abbrev long_script : List (List ℕ)
long_script = codes "add x" ∷ codes "add a" ∷ codes "add b" ∷ codes "add b" ∷ codes "withdraw" ∷ codes "link p" ∷ []

long_lines_are : AreLines (Some (text_of long_script)) (lines_asked long_lines) None
unfolding chars is_utf8 encode_utf8
long_lines_are = refl

short_lines_are : AreLines (Some (text_of short_script)) (lines_asked short_lines) None
unfolding chars is_utf8 encode_utf8
short_lines_are = refl

-- ---- the lines one by one

missing_is : IsLineOf [] plain [] missing_line (to_add x)
missing_is = inl (record { events = refl; answer = refl; status = refl; kept = refl })

adds_is : (path : List ℕ) (file : Contents) (old new : List Labelled) (did : Stepped) →
    did ≡ add_step old path (with_input [] old path (encoding file)) → did.verdict ≡ done →
    did.answer ≡ line (codes "added " ++ path) → did.kept ≡ new → IsLineOf [] plain old (add_line path file new) (to_add path)
adds_is path file old new did is verdict answer kept = inr (record {
  known = Some (encoding file);
  did = did;
  failed = false;
  is_add = inr is;
  does = record { events = refl; answer = sym answer; status = sym (ap status_after verdict); kept = sym kept };
})

first_is : IsLineOf [] plain [] (add_line a b_o one) (to_add a)
first_is = adds_is a b_o [] one (add_step [] a (with_input [] [] a (encoding b_o))) refl refl refl refl

second_is : IsLineOf [] plain one (add_line b e_o two) (to_add b)
second_is = adds_is b e_o one two (add_step one b (with_input [] one b (encoding e_o))) refl refl refl refl

third_is : IsLineOf [] plain two (add_line b e_o three) (to_add b)
third_is = adds_is b e_o two three (add_step two b (with_input [] two b (encoding e_o))) refl refl refl refl

withdraw_is : IsLineOf [] plain three withdraw_line to_withdraw
withdraw_is = record { events = refl; answer = refl; status = refl; kept = refl }

link_is : IsLineOf [] plain two link_line (to_link p)
link_is = inr (record {
  outcome = result_of made;
  is_link = refl;
  what = Kept;
  events = refl;
  answer = refl;
  status = refl;
  same = refl;
})

long_chain : Chains [] plain [] long_lines two
long_chain = (missing_is, (first_is, (second_is, (third_is, (withdraw_is, (link_is, refl))))))

short_chain : Chains [] plain [] short_lines two
short_chain = (missing_is, (first_is, (second_is, (link_is, refl))))

-- a session that ends well
abbrev Ended : List (List ℕ) → List LineRun → Type 0
Ended script runs = EndsWell contents contents [] plain (session_of script runs)

ended : (script : List (List ℕ)) (runs : List LineRun) (kept : List Labelled) → Chains [] plain [] runs kept →
    AreLines (Some (text_of script)) (lines_asked runs) None → Ended script runs
ended script runs kept chain lines = record {
  runs = runs;
  kept = kept;
  ran = record { chain = chain; asked = refl; answers = refl; working = λ e. e; latched = λ failed. absurd (cc) };
  ends = (lines, refl);
}

long_session : Ended long_script long_lines
long_session = ended long_script long_lines two long_chain long_lines_are

short_session : Ended short_script short_lines
short_session = ended short_script short_lines two short_chain short_lines_are

silent_session : Ended [] []
silent_session = ended [] [] [] refl refl

-- `perform` may run it so
session_asks : AsksFor session_words (Session plain [])
unfolding clap_on_literals
session_asks = record {
  whole = (refl, (omega arith, refl));
  asked = (refl, rows_read session_words, refl, (refl, refl, refl));
  dashes = refl;
}

performs : (script : List (List ℕ)) (runs : List LineRun) → Ended script runs →
    DoesPerform contents contents (session_of script runs)
performs script runs h =
    (Ok (worst runs), inr (record { call = Session plain []; asks = session_asks; run = inr (inl h) }), (refl, refl))

-- ---- ld of what is left

abbrev left : List Opened
left = (a, Some (encoding b_o)) ∷ (b, Some (encoding e_o)) ∷ []

-- the refused file is not among them, and the one that was added twice is there once
left_is : files_left before_link ≡ left
left_is = refl

abbrev ld_run : Run (List ℕ) (List ℕ)
ld_run = run_of both_words files ((a, encoding b_o) ∷ (b, encoding e_o) ∷ []) q_path made

ld_links : Links [] plain q (a ∷ b ∷ []) ld_run
ld_links =
    links both_words files ((a, encoding b_o) ∷ (b, encoding e_o) ∷ []) q_path made [] plain both_paths both_asks two refl refl refl
    (refl, (refl, tt))

is_there : (path : List ℕ) (file : Contents) → files path ≡ Some (encoding file) → IsThere files (path, Some (encoding file))
is_there path file at = record { bytes = encoding file; read = refl; there = at }

ld_left : LinksLeft contents contents [] plain q left ld_run
ld_left = record {
  runs = ld_links.runs;
  on_disk = ld_links.on_disk;
  there = (is_there a b_o refl, (is_there b e_o refl, tt));
}

-- ---- the laws here

calm : (answer text : List ℕ) → bytes_eq answer text ≡ false → answer ≢ text
calm answer text apart e =
    let same : bytes_eq answer text ≡ true = (bytes_eq-Decides answer text).1 e in
    let bad : true ≡ false = sym same ∙ apart in cc

-- the law of calls: this run is of the session that its arguments ask for, and it has the bytes of its script
call_says_session : SessionCallLaw contents contents → RunsSession contents contents [] plain (session_of long_script long_lines)
call_says_session law = law [] plain (session_of long_script long_lines) (performs long_script long_lines long_session) session_asks

-- and this one of the link that its arguments ask for
call_says_link : LinkCallLaw contents contents → RunsLd contents contents [] plain q (a ∷ b ∷ []) ld_run
call_says_link law = law [] plain q (a ∷ b ∷ []) ld_run ld_links.performs ld_links.asks

-- a disk with another file has what the session read
abbrev more_files : Disk
more_files at = cond (bytes_eq at x) (Some []) (files at)

is_same : (path : List ℕ) (file : Contents) → files path ≡ Some (encoding file) → more_files path ≡ Some (encoding file) →
    IsSameOn files more_files (events_of before_link) (path, Some (encoding file))
is_same path file one other =
    record { bytes = encoding file; first = one; second = other; untouched = (tt, (tt, (tt, (tt, (tt, (tt, (tt, tt))))))) }

disk_says : SameDiskLaw → AreThere more_files left
disk_says law = law before_link files more_files (refl, (refl, (refl, tt))) (is_same a b_o refl refl, (is_same b e_o refl refl, tt))

-- the law of a link gives that ld stores, writes and answers as the line did
link_of_left : LinkLineLaw contents contents →
    DoesAsLd contents contents p q made.file left link_line ld_run
    ⊎ (FailsBy contents contents CannotRead ld_run ⊎ FailsBy contents contents CannotWrite ld_run)
link_of_left law = law [] plain two ld_run before_link [] link_line p q made.file long_chain refl refl ld_left

-- nothing failed here
session_says_links : LinkLineLaw contents contents → DoesAsLd contents contents p q made.file left link_line ld_run
session_says_links law = by_end (link_of_left law)
  where
    by_end : DoesAsLd contents contents p q made.file left link_line ld_run
        ⊎ (FailsBy contents contents CannotRead ld_run ⊎ FailsBy contents contents CannotWrite ld_run) →
        DoesAsLd contents contents p q made.file left link_line ld_run
    by_end (inl h) = h
    by_end (inr (inl h)) = absurd (counts (λ (n : ℕ). n) 0 2 refl h.0)
    by_end (inr (inr h)) = absurd (counts (λ (n : ℕ). n) 0 2 refl h.0)

-- ---- a link that does not fit, in a session and by ld

abbrev large_o : Contents
large_o = object (0o207 ∷ []) (0 ∷ []) [] [] 65534 []

abbrev large : List Labelled
large = record { label = a; object = large_o } ∷ []

abbrev large_left : List Opened
large_left = (a, Some (encoding large_o)) ∷ []

abbrev large_disk : Disk
large_disk at = cond (bytes_eq at a) (Some (encoding large_o)) None

abbrev unfit_line : LineRun
unfit_line = record { line = to_link p; events = []; answer = line (codes "does not fit"); status = 1; kept = large }

unfit_chain : Chains [] plain [] (add_line a large_o large ∷ unfit_line ∷ []) large
unfit_chain = (
  adds_is a large_o [] large (add_step [] a (with_input [] [] a (encoding large_o))) refl refl refl refl,
  (
    inl (record {
      did = record { verdict = refused; answer = line (codes "does not fit"); kept = large };
      is_link = inl refl;
      refuses = refl;
      does = record { events = refl; answer = refl; status = refl; kept = refl };
    }),
    refl,
  ),
)

abbrev unfit_fault : CliFault
unfit_fault = faults.NotLinked links.DoesNotFit

abbrev unfit_run : Run (List ℕ) (List ℕ)
unfit_run = record {
  words = codes "ld" ∷ codes "-o" ∷ q ∷ a ∷ [];
  script = None;
  disk = large_disk;
  earlier = [];
  events = opens large_left;
  output_before = holding [];
  output_after = holding [];
  error_before = holding [];
  error_after = holding (codes "v7: does not fit\n");
  status = 2;
}

unfit_ran : IsLinkRun contents [] plain q_path (a ∷ []) (Some []) (Some (opens large_left)) (Err unfit_fault) (holding []) (holding [])
unfit_ran = inr (inr (inl (record {
  fault = unfit_fault;
  found = large_left;
  answer = record {
    all = refl;
    link = record {
      over = inr (record { kept = large; taken = took [] [] large ((a, encoding large_o) ∷ []) refl; none = refl });
      bytes = refl;
    };
  };
  stopped = None;
  told = (λ broken. absurd broken, λ failed. absurd (cc));
  asked = refl;
  refuses = record { refusal = refl; silent = refl };
})))

refused_says : RefusedLineLaw contents contents → IsRefusedAsLd contents contents unfit_line unfit_run
refused_says law =
    law [] plain large unfit_run (add_line a large_o large ∷ []) [] unfit_line p q unfit_chain refl refl (calm _ _ refl) (record {
      runs = record { output = q_path; out_path = refl; did = (Err unfit_fault, unfit_ran, (refl, refl)) };
      on_disk = (refl, tt);
      there = (record { bytes = encoding large_o; read = refl; there = refl }, tt);
    })

-- ---- two lines that leave no trace

-- a line is given what it is given
alike : (r : LineRun) → AllByRecursion IsKnown r.events → IsUndisturbed r.line r.answer → IsGivenTheSame r r
alike r known still = record { gives = refl; known = known; first = still; second = still }

-- the law of two lines: these runs have nothing but the answers of the two between, and the opening of b
undo_says : UndoLaw contents contents →
    LeavesNoTrace contents contents b (session_of long_script long_lines) (session_of short_script short_lines)
unfolding long_session short_session ended
undo_says law =
    law [] plain (session_of long_script long_lines) (session_of short_script short_lines) long_session short_session before
    (link_line ∷ []) (add_line b e_o three) withdraw_line b refl refl refl refl refl (
      alike missing_line (tt, tt) (calm _ _ refl),
      (
        alike (add_line a b_o one) (tt, (tt, tt)) (calm _ _ refl),
        (alike (add_line b e_o two) (tt, (tt, tt)) (calm _ _ refl), (alike link_line (tt, tt) (calm _ _ refl), tt)),
      ),
    )

-- ---- without one of their premises

-- an addition that is refused, and a withdrawal: nothing was added, and nothing is withdrawn
abbrev nothing_line : LineRun
nothing_line = record { line = to_withdraw; events = []; answer = line (codes "nothing to withdraw"); status = 1; kept = [] }

abbrev refused_lines : List LineRun
refused_lines = missing_line ∷ nothing_line ∷ []

abbrev refused_script : List (List ℕ)
refused_script = codes "add x" ∷ codes "withdraw" ∷ []

refused_session : Ended refused_script refused_lines
unfolding chars is_utf8 encode_utf8
refused_session =
    ended refused_script refused_lines [] (missing_is, (record { events = refl; answer = refl; status = refl; kept = refl }, refl)) refl

undo_needs_an_accepted_addition : ((forced : List (List ℕ)) (o : Choices) (long short : Run (List ℕ) (List ℕ))
    (l : EndsWell contents contents forced o long) (s : EndsWell contents contents forced o short)
    (before after : List LineRun) (add withdraw : LineRun) (path : List ℕ) → l.runs ≡ before ++ add ∷ (withdraw ∷ after) →
    add.line ≡ to_add path → withdraw.line ≡ to_withdraw →
    lines_asked s.runs ≡ lines_asked (before ++ after) → AreGivenTheSame (before ++ after) s.runs →
    LeavesNoTrace contents contents path long short) → ⊥
unfolding refused_session ended silent_session
undo_needs_an_accepted_addition law =
    let h = law [] plain (session_of refused_script refused_lines) (session_of [] []) refused_session silent_session [] []
    missing_line nothing_line x refl refl refl refl tt in
    counts (λ (n : ℕ). n) 1 0 refl h.status

-- a link of nothing, against an ld of two files
abbrev empty_made : Contents
empty_made = (link_of [] plain).file

abbrev empty_line : LineRun
empty_line = record {
  line = to_link p;
  events = stored p empty_made Kept ∷ [];
  answer = line (codes "linked " ++ p ++ codes " " ++ decimal 0);
  status = 0;
  kept = [];
}

empty_chain : Chains [] plain [] (empty_line ∷ []) []
empty_chain =
    (inr (record { outcome = link_of [] plain; is_link = refl; what = Kept; events = refl; answer = refl; status = refl; same = refl }), refl)

-- how much text is stored
abbrev text_in : List Event → ℕ
text_in [] = 0
text_in (stored path file what ∷ events) = file.header.text_size
text_in (e ∷ events) = text_in events

session_needs_the_files_that_are_left : ((forced : List (List ℕ)) (o : Choices) (kept : List Labelled) (l : Run (List ℕ) (List ℕ))
    (before after : List LineRun) (r : LineRun) (p q : List ℕ) (file : Contents) (left : List Opened) →
    Chains forced o [] (before ++ r ∷ after) kept → r.line ≡ to_link p →
    r.events ≡ stored p file Kept ∷ [] → LinksLeft contents contents forced o q left l →
    DoesAsLd contents contents p q file left r l
    ⊎ (FailsBy contents contents CannotRead l ⊎ FailsBy contents contents CannotWrite l)) → ⊥
session_needs_the_files_that_are_left law =
    by_end (law [] plain [] ld_run [] [] empty_line p q empty_made left empty_chain refl refl ld_left)
  where
    by_end : DoesAsLd contents contents p q empty_made left empty_line ld_run
        ⊎ (FailsBy contents contents CannotRead ld_run ⊎ FailsBy contents contents CannotWrite ld_run) → ⊥
    by_end (inl h) = counts text_in ld_run.events (opens left ++ stored q empty_made Kept ∷ []) refl h.asked
    by_end (inr (inl h)) = counts (λ (n : ℕ). n) 0 2 refl h.0
    by_end (inr (inr h)) = counts (λ (n : ℕ). n) 0 2 refl h.0

-- a session of an empty script, whose arguments ask for no link
some_event : (found : List Opened) (e : Event) → [] ≡ opens found ++ e ∷ [] → ⊥
some_event [] e same = cc
some_event (f ∷ fs) e same = cc

call_needs_the_arguments : ((forced : List (List ℕ)) (o : Choices) (out : List ℕ) (paths : List (List ℕ)) (r : Run (List ℕ) (List ℕ)) →
    DoesPerform contents contents r → RunsLd contents contents forced o out paths r) → ⊥
call_needs_the_arguments law = by_ran h.output h.did.0 h.did.1 h.did.2
  where
    h : RunsLd contents contents [] plain q [] (session_of [] [])
    h = law [] plain q [] (session_of [] []) (performs [] [] silent_session)

    by_ran : (output : String Global) (result : Result ℕ CliFault) →
        IsLinkRun contents [] plain output [] (Some []) (Some []) result (holding []) (holding []) →
        Ends contents result 0 (holding []) (holding []) → ⊥
    by_ran output (Err fault) ran ends = counts (λ (n : ℕ). n) 0 2 refl ends.0
    by_ran output (Ok status) (inl ran) ends = let e = ran.1.refusal in cc
    by_ran output (Ok status) (inr (inl ran)) ends = let e = ran.refuses.refusal in cc
    by_ran output (Ok status) (inr (inr (inl ran))) ends = let e = ran.refuses.refusal in cc
    by_ran output (Ok status) (inr (inr (inr ran))) ends = some_event ran.found _ ran.asked
