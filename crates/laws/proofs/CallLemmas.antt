-- Words ask for one call at most, and a run whose words ask for a session or a link is a run of that.
use Rattle.std.specs.{declared.alloc.Global.Global, Prelude.{◌⊎◌, String, Vec, bytes_eq, codes, string_bytes, unwrap_or}}
use Rattle.std.proofs.Common.{◌≡◌, ℕ, Bool, true, false, List, [], ◌++◌, map, Option, Some, None, Result, sym, ap, ◌∙◌, inl, inr, subst}
use Rattle.clap.specs.Walk.{Row, first_of}
use Rattle.tool_options.specs.Choices.{Choices}
use Rattle.command_words.specs.declared.words.Call.TheVariants.{Ld, Nm, Size, Strip, Session}
use Rattle.command_words.specs.{LinkWords.{forced_asked, options_asked, values_of}, declared.words.Call.Call, Calls.{name_of, program}}
use Rattle.aout_core.specs.{Refusals.refused, Wires.Latched}
use Rattle.host.specs.Events.{History, Extends}
use Rattle.v7tools.specs.CommandRuns.{AsksFor, IsCallRun, RefusesWords, RunsCall}
use Rattle.v7tools.specs.{Calls.fault_of_words, LinkRuns.IsLinkRun, LinkRuns.Refuses, SessionRuns.IsSessionRun, declared.fault.CliFault.CliFault}
use Rattle.v7tools.specs.declared.fault.CliFault.TheVariants as faults
use Rattle.laws.specs.Calls.{LinkCallLaw, SessionCallLaw}
use Rattle.laws.proofs.LeftLemmas.{same_value}

-- the ids by which the options are known
abbrev file_id : List ℕ
file_id = codes "file"

abbrev out_id : List ℕ
out_id = codes "out"

-- a call is the link of these files
abbrev IsLink : List (List ℕ) → Choices → List ℕ → List (List ℕ) → Call → Type 0
IsLink forced o out paths (Ld options names output files) =
    (options ≡ o) × (names ≡ forced) × (string_bytes output ≡ out) × (map string_bytes files.items ≡ paths)
IsLink forced o out paths _ = ⊥

-- a call is a session
abbrev IsSession : List (List ℕ) → Choices → Call → Type 0
IsSession forced o (Session options names) = (options ≡ o) × (names ≡ forced)
IsSession forced o _ = ⊥

abbrev has_name : List ℕ → Option (List ℕ × List Row) → Bool
has_name name None = false
has_name name (Some p) = bytes_eq p.0 name

abbrev rows_in : Option (List ℕ × List Row) → List Row
rows_in None = []
rows_in (Some p) = p.1

module _ (words : List (List ℕ)) (one other : Call) (a : AsksFor words one) (b : AsksFor words other) where
  same_words : (let x : Option (List ℕ × List Row) = Some (name_of one, a.asked.1) in
      let y : Option (List ℕ × List Row) = Some (name_of other, b.asked.1) in x ≡ y)
  same_words = sym a.asked.2 ∙ b.asked.2

  same_rows : a.asked.1 ≡ b.asked.1
  same_rows = ap rows_in same_words

  same_name : (name : List ℕ) → bytes_eq (name_of one) name ≡ bytes_eq (name_of other) name
  same_name name = ap (has_name name) same_words

module _ (words forced : List (List ℕ)) (o : Choices) (output : String Global) (files : Vec (String Global) Global)
    (a : AsksFor words (Ld o forced output files)) where
  -- what arguments ask for, if they ask for this link
  same_link : (call : Call) → AsksFor words call → IsLink forced o (string_bytes output) (map string_bytes files.items) call
  same_link (Ld options names out paths) b =
      let rows : b.asked.1 ≡ a.asked.1 = sym (same_rows words (Ld o forced output files) (Ld options names out paths) a b) in (
        same_value options o (sym b.asked.3.0 ∙ ap options_asked rows ∙ a.asked.3.0),
        same_value names forced (sym b.asked.3.1 ∙ ap forced_asked rows ∙ a.asked.3.1),
        b.asked.3.2 ∙ ap (λ (r : List Row). unwrap_or (first_of out_id r) program) rows ∙ sym a.asked.3.2,
        b.asked.3.3 ∙ ap (λ (r : List Row). values_of r file_id) rows ∙ sym a.asked.3.3,
      )
  same_link (Nm options paths) b =
      absurd (let bad : true ≡ false = same_name words (Ld o forced output files) (Nm options paths) a b (codes "ld") in cc)
  same_link (Size paths) b =
      absurd (let bad : true ≡ false = same_name words (Ld o forced output files) (Size paths) a b (codes "ld") in cc)
  same_link (Strip paths) b =
      absurd (let bad : true ≡ false = same_name words (Ld o forced output files) (Strip paths) a b (codes "ld") in cc)
  same_link (Session options names) b =
      absurd (let bad : true ≡ false = same_name words (Ld o forced output files) (Session options names) a b (codes "ld") in cc)

module _ (words forced : List (List ℕ)) (o : Choices) (a : AsksFor words (Session o forced)) where
  -- or for this session
  same_session : (call : Call) → AsksFor words call → IsSession forced o call
  same_session (Ld options names out paths) b =
      absurd (let bad : true ≡ false = same_name words (Session o forced) (Ld options names out paths) a b (codes "session") in cc)
  same_session (Nm options paths) b =
      absurd (let bad : true ≡ false = same_name words (Session o forced) (Nm options paths) a b (codes "session") in cc)
  same_session (Size paths) b =
      absurd (let bad : true ≡ false = same_name words (Session o forced) (Size paths) a b (codes "session") in cc)
  same_session (Strip paths) b =
      absurd (let bad : true ≡ false = same_name words (Session o forced) (Strip paths) a b (codes "session") in cc)
  same_session (Session options names) b =
      let rows : b.asked.1 ≡ a.asked.1 = sym (same_rows words (Session o forced) (Session options names) a b) in (
        same_value options o (sym b.asked.3.0 ∙ ap options_asked rows ∙ a.asked.3.0),
        same_value names forced (sym b.asked.3.1 ∙ ap forced_asked rows ∙ a.asked.3.1),
      )

-- ---- a run

-- arguments that ask for a call are refused only if memory runs out
no_memory : {W : Type 0} (words : List (List ℕ)) (call : Call) (old new : History) (result : Result ℕ CliFault) (before after : Latched W) →
    AsksFor words call → RefusesWords words old new result before after →
    Extends old new [] × Refuses (faults.Memory refused) result before after
no_memory words call old new result before after asks h = (
  h.asked,
  subst (λ (f : CliFault). Refuses f result before after)
      (h.of_words.1 ∙ ap fault_of_words (h.of_words.2 call asks.whole asks.asked asks.dashes)) h.refuses,
)

module _ {W E : Type 0} (out_contents : W → Option (List ℕ)) (error_contents : E → Option (List ℕ)) where
  module _ (forced : List (List ℕ)) (o : Choices) (script : Option (List ℕ)) (old new : History) (result : Result ℕ CliFault)
      (before after : Latched W) where
    by_session : (call : Call) → IsSession forced o call → IsCallRun out_contents script call old new result before after →
        IsSessionRun out_contents forced o script old new result before after
    by_session (Session options names) same run =
        subst (λ (c : Choices). IsSessionRun out_contents forced c script old new result before after) same.0
        (subst (λ (ns : List (List ℕ)). IsSessionRun out_contents ns options script old new result before after) same.1 run)
    by_session _ same run = absurd same

    -- a run of a link, with the path of its file
    abbrev LinkRan : List ℕ → List (List ℕ) → Type 0
    LinkRan out paths =
        (output : String Global) × (string_bytes output ≡ out) × IsLinkRun out_contents forced o output paths old new result before after

    by_link : (out : List ℕ) (paths : List (List ℕ)) (call : Call) → IsLink forced o out paths call →
        IsCallRun out_contents script call old new result before after → LinkRan out paths
    by_link out paths (Ld options names output files) same run = (
      output,
      same.2,
      subst (λ (c : Choices). IsLinkRun out_contents forced c output paths old new result before after) same.0
          (subst (λ (ns : List (List ℕ)). IsLinkRun out_contents ns options output paths old new result before after) same.1
          (subst (λ (ps : List (List ℕ)). IsLinkRun out_contents names options output ps old new result before after) same.3 run)),
    )
    by_link out paths _ same run = absurd same

  pub session_call : SessionCallLaw out_contents error_contents
  session_call forced o r h asks = (h.0, by_words h.1, h.2)
    where
      old : History
      old = Some r.earlier

      new : History
      new = Some (r.earlier ++ r.events)

      by_words : RefusesWords r.words old new h.0 r.output_before r.output_after
          ⊎ RunsCall out_contents r.words r.script old new h.0 r.output_before r.output_after →
          IsSessionRun out_contents forced o r.script old new h.0 r.output_before r.output_after
      by_words (inl k) = inl (no_memory r.words (Session o forced) old new h.0 r.output_before r.output_after asks k)
      by_words (inr k) =
          by_session forced o r.script old new h.0 r.output_before r.output_after k.call (same_session r.words forced o asks k.call k.asks) k.run

  pub link_call : LinkCallLaw out_contents error_contents
  link_call forced o out paths r h asks = let ran = by_words h.1 in record { output = ran.0; out_path = ran.1; did = (h.0, ran.2, h.2) }
    where
      old : History
      old = Some r.earlier

      new : History
      new = Some (r.earlier ++ r.events)

      by_words : RefusesWords r.words old new h.0 r.output_before r.output_after
          ⊎ RunsCall out_contents r.words r.script old new h.0 r.output_before r.output_after →
          LinkRan forced o r.script old new h.0 r.output_before r.output_after out paths
      by_words (inl k) = (
        asks.output,
        asks.out_path,
        inl (no_memory r.words (Ld o forced asks.output asks.files) old new h.0 r.output_before r.output_after asks.asks k),
      )
      by_words (inr k) =
          by_link forced o r.script old new h.0 r.output_before r.output_after out paths k.call
          (subst (λ (P : Type 0). P) (λ i. IsLink forced o (asks.out_path i) (asks.file_paths i) k.call)
          (same_link r.words forced o asks.output asks.files asks.asks k.call k.asks)) k.run
