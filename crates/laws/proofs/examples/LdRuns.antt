-- Runs of ld, made of the files that it opens and the link that it makes, for examples of sessions.
use Rattle.std.specs.Prelude.{IfSome, codes, String, Vec, encode_utf8_all, eqb, nat_lt, if◌then◌else◌, string_bytes}
use Rattle.std.specs.{declared.alloc.Global.Global, List.list_all}
use Rattle.std.proofs.Common.{◌≡◌, ℕ, ◌<◌, ◌≤◌, ◌^◌, Bool, true, false, List, [], ◌∷◌, ◌++◌, map, length, Option, Some, None, Ok, refl, ap}
use Rattle.std.proofs.{Common.{arith, inr, option_map, sym, subst, ◌∙◌, Result, Err}, lemmas.Str.encode_ascii}
use Rattle.clap.proofs.OnLiterals.{clap_on_literals}
use denote.RawPtr.{null_ptr}
use Rattle.clap.specs.{Simple.subcommand_of, Walk.Row}
use Rattle.command_words.specs.{Tools.v7_app, declared.words.Call.TheVariants.Ld}
use Rattle.aout_core.specs.{Contents.Contents, Contents.IsSound, Decoding.decode, Encoding.encoding, Wires.Latched}
use Rattle.aout_core.proofs.EncodesLemmas.{decoded_sound}
use Rattle.link_session.specs.Labelled.{Labelled, objects}
use Rattle.link_out.specs.{declared.linked.Linked.Linked, Outcomes.report_names, Outcomes.outcome_of, Results.ReportNames}
use Rattle.link_out.specs.{function.Link.link, function.Reports.report_text, function.Reports.status_of, Steps.and_then, Steps.refused_as}
use Rattle.link_out.specs.Inputs.{Cause, Refusal, at_path, kept_with, linked, not_linked, object_in, with_inputs}
use Rattle.tool_options.specs.Choices.{Choices}
use Rattle.v7tools.specs.{CommandRuns.{AsksFor, Ends}, LinkAnswers.{TakesAll, known_inputs}, LinkRuns.{IsLinkRun, inputs_opened}}
use Rattle.host.specs.{Events.{Event, Opened, opens, paths_of, stored}, declared.file_system.Stored.TheVariants.Kept}
use Rattle.laws.specs.{Calls.AsksToLink, Calls.DoesPerform, Disks.Disk, Disks.IsOn, Disks.Run, SessionsByCommands.RunsLd}
use Rattle.laws.proofs.{BuildRuns.known, examples.Samples.plain, examples.LawExamples.below}

abbrev pub heap : Global
heap = record { memory = record { seal = tt } }

-- a vector of these
abbrev pub vector : {A : Type 0} (xs : List A) → length xs < 2 ^ 63 → Vec A Global
vector xs small =
    record { ptr = null_ptr; len = length xs; cap = length xs; alloc = heap; items = xs; ok = (refl, omega arith); small = small }

-- a letter is written as itself
pub as_written : (c : ℕ) → c < 128 → encode_utf8_all (c ∷ []) ≡ c ∷ []
as_written c small = ap (λ (text : List ℕ). text ++ []) (encode_ascii c small)

-- paths of one letter

abbrev pub a : List ℕ
a = codes "a"

abbrev pub b : List ℕ
b = codes "b"

abbrev pub m : List ℕ
m = codes "m"

abbrev pub q : List ℕ
q = codes "q"

abbrev pub a_path : String Global
a_path = record { bytes = vector (codes "a") (omega arith); ok = ∣ (codes "a", (refl, as_written 97 (omega arith))) ∣₁ }

abbrev pub b_path : String Global
b_path = record { bytes = vector (codes "b") (omega arith); ok = ∣ (codes "b", (refl, as_written 98 (omega arith))) ∣₁ }

abbrev pub m_path : String Global
m_path = record { bytes = vector (codes "m") (omega arith); ok = ∣ (codes "m", (refl, as_written 109 (omega arith))) ∣₁ }

abbrev pub q_path : String Global
q_path = record { bytes = vector (codes "q") (omega arith); ok = ∣ (codes "q", (refl, as_written 113 (omega arith))) ∣₁ }

-- the options that `clap` reads from some arguments
abbrev pub rows_read : List (List ℕ) → List Row
rows_read words = by_found (subcommand_of v7_app words)
  where
    by_found : Option (List ℕ × List Row) → List Row
    by_found None = []
    by_found (Some it) = it.1

-- `ld -o q a b`
abbrev pub both_paths : Vec (String Global) Global
both_paths = vector (a_path ∷ b_path ∷ []) (omega arith)

abbrev pub both_words : List (List ℕ)
both_words = codes "ld" ∷ codes "-o" ∷ q ∷ a ∷ b ∷ []

pub both_asks : AsksFor both_words (Ld plain [] q_path both_paths)
unfolding clap_on_literals
both_asks = record {
  whole = (omega arith, refl, (omega arith, refl));
  asked = (refl, rows_read both_words, refl, (refl, refl, refl, refl));
  dashes = refl;
}

-- a link that was made, with nothing to report
abbrev pub made_of : Contents → Linked
made_of file = record {
  file = file;
  report = record {
    multiples = vector [] (omega arith);
    reserved = vector [] (omega arith);
    entry_bad = None;
    undefined = vector [] (omega arith);
  };
}

abbrev pub labelled : List ℕ → Contents → Labelled
labelled path object = record { label = path; object = object }

-- a device that holds these bytes
abbrev pub holding : List ℕ → Latched (List ℕ)
holding bytes = record { device = bytes; has_failed = false }

abbrev pub contents : List ℕ → Option (List ℕ)
contents bytes = Some bytes

-- ld was run with these arguments, and ended well
pub record Links (forced : List (List ℕ)) (o : Choices) (out : List ℕ) (paths : List (List ℕ))
    (r : Run (List ℕ) (List ℕ)) : Type 0 where
  pub asks : AsksToLink r.words forced o out paths
  pub performs : DoesPerform contents contents r
  pub runs : RunsLd contents contents forced o out paths r
  pub on_disk : IsOn r.disk r.events
  pub no_fault : r.status ≤ 1

-- inputs that are taken by their bytes
known_are : (files : List (List ℕ × List ℕ)) → known_inputs (inputs_opened (known files)) ≡ Some files
known_are [] = refl
known_are (f ∷ fs) = ap (λ (k : Option (List (List ℕ × List ℕ))). option_map (λ rest. f ∷ rest) k) (known_are fs)

-- an input that is taken, by its bytes
record Taken (forced : List (List ℕ)) (kept more : List Labelled) (f : List ℕ × List ℕ) (fs : List (List ℕ × List ℕ)) : Type 0 where
  next : List Labelled
  object : Contents
  found : object_in (decode f.1) ≡ Ok object
  accepts : kept_with forced kept f.0 (Ok object) ≡ Ok next
  rest : with_inputs forced next fs ≡ Ok more

taken : (forced : List (List ℕ)) (kept more : List Labelled) (f : List ℕ × List ℕ) (fs : List (List ℕ × List ℕ)) →
    with_inputs forced kept (f ∷ fs) ≡ Ok more → Taken forced kept more f fs
taken forced kept more f fs e = by_object (object_in (decode f.1)) refl
  where
    after : Result (List Labelled) Cause → Result (List Labelled) Refusal
    after x = and_then (at_path f.0 x) (λ es. with_inputs forced es fs)

    by_next : (object : Contents) → object_in (decode f.1) ≡ Ok object → (x : Result (List Labelled) Cause) →
        kept_with forced kept f.0 (Ok object) ≡ x → Taken forced kept more f fs
    by_next object found (Err cause) is =
        absurd (let bad : after (Err cause) ≡ Ok more = ap after (sym (ap (kept_with forced kept f.0) found ∙ is)) ∙ e in cc)
    by_next object found (Ok next) is = record {
      next = next;
      object = object;
      found = found;
      accepts = is;
      rest = ap after (sym (ap (kept_with forced kept f.0) found ∙ is)) ∙ e;
    }

    by_object : (x : Result Contents Cause) → object_in (decode f.1) ≡ x → Taken forced kept more f fs
    by_object (Err cause) found =
        absurd (let bad : after (Err cause) ≡ Ok more = ap (λ (x : Result Contents Cause). after (kept_with forced kept f.0 x)) (sym found) ∙ e in cc)
    by_object (Ok object) found = by_next object found (kept_with forced kept f.0 (Ok object)) refl

pub took : (forced : List (List ℕ)) (kept more : List Labelled) (files : List (List ℕ × List ℕ)) → with_inputs forced kept files ≡ Ok more →
    TakesAll forced kept (inputs_opened (known files)) more
took forced kept more [] e = cc
took forced kept more (f ∷ fs) e =
    let t = taken forced kept more f fs e in (
      t.next,
      record { works = refl; object = t.object; is_found = sym t.found; accepts = t.accepts },
      took forced t.next more fs t.rest,
    )

module _ (words : List (List ℕ)) (disk : Disk) (files : List (List ℕ × List ℕ)) (out : String Global) (made : Linked) where
  abbrev found : List Opened
  found = known files

  -- what was asked of the system
  abbrev pub asked : List Event
  asked = opens found ++ stored (string_bytes out) made.file Kept ∷ []

  abbrev pub text : List ℕ
  text = report_text (report_names made.report)

  abbrev pub run_of : Run (List ℕ) (List ℕ)
  run_of = record {
    words = words;
    script = None;
    disk = disk;
    earlier = [];
    events = asked;
    output_before = holding [];
    output_after = holding text;
    error_before = holding [];
    error_after = holding [];
    status = status_of (report_names made.report);
  }

  small_status : (f : ReportNames) → status_of f ≤ 1
  small_status f = by_test (eqb (length (report_text f)) 0)
    where
      by_test : (silent : Bool) → (if silent then 0 else 1) ≤ 1
      by_test true = omega arith
      by_test false = omega arith

  module _ (forced : List (List ℕ)) (o : Choices) (inputs : Vec (String Global) Global) (asks : AsksFor words (Ld o forced out inputs)) where
    -- it does what the contract of `perform` says
    pub links : (kept : List Labelled) → paths_of found ≡ map string_bytes inputs.items → with_inputs forced [] files ≡ Ok kept →
        link forced (objects kept) o ≡ Ok (outcome_of made) → IsOn disk asked →
        Links forced o (string_bytes out) (map string_bytes inputs.items) run_of
    links kept all takes is on_disk = record {
      asks = record { output = out; files = inputs; asks = asks; out_path = refl; file_paths = refl };
      performs = (Ok (status_of (report_names made.report)), inr (record { call = Ld o forced out inputs; asks = asks; run = ran }), ends);
      runs = record { output = out; out_path = refl; did = (Ok (status_of (report_names made.report)), ran, ends) };
      on_disk = on_disk;
      no_fault = small_status (report_names made.report);
    }
      where
        ends : Ends contents (Ok (status_of (report_names made.report))) run_of.status run_of.error_before run_of.error_after
        ends = (refl, refl)

        by_bytes : linked forced files o ≡ Ok (outcome_of made)
        by_bytes =
            ap (λ (x : Result (List Labelled) Refusal). and_then x (λ es. refused_as not_linked (link forced (objects es) o))) takes
            ∙ ap (refused_as not_linked) is

        ran : IsLinkRun contents forced o out (map string_bytes inputs.items) (Some []) (Some asked)
            (Ok (status_of (report_names made.report))) (holding []) (holding text)
        ran = inr (inr (inr (record {
          linked = made;
          what = Kept;
          found = found;
          answer = record {
            all = all;
            link = record {
              over = record { kept = kept; taken = took forced [] kept files takes; link = is };
              bytes = subst (λ (k : Option (List (List ℕ × List ℕ))). IfSome k (λ bytes. linked forced bytes o ≡ Ok (outcome_of made)))
                  (sym (known_are files)) by_bytes;
            };
          };
          asked = refl;
          reports = record {
            status = refl;
            write_failed = tt;
            writes = record { fault = ((λ e. e), (λ e. e)); latched = λ failed. absurd (cc); bytes = refl };
          };
        })))

-- a file that is read back from its encoding is sound
pub sound_file : (file : Contents) → list_all (λ (b : ℕ). nat_lt b 256) (encoding file) ≡ true →
    decode (encoding file) ≡ Ok file → IsSound file
sound_file file bytes read = decoded_sound (encoding file) file (below (encoding file) bytes) read
