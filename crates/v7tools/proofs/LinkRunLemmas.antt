-- A link over a file system, from its parts.
use Rattle.std.proofs.Common.{rules, ◌≡◌, ◌↔◌, ℕ, Bool, true, List, [], ◌∷◌, map, Option, Some, Result, Ok, Err, refl, inl, inr}
use Rattle.std.specs.{declared.alloc.Global.Global, Prelude.String, Prelude.string_bytes, List.AllByRecursion}
use Rattle.aout_core.specs.Wires.{Latched}
use Rattle.link_out.specs.{declared.linked.Linked.Linked, Outcomes.report_names}
use Rattle.tool_options.specs.Choices.{Choices}
use Rattle.host.specs.{Events.History, Events.Extends, Events.stored, declared.file_system.Stored.Stored}
use Rattle.v7tools.specs.internal.Openings.{sources, IsOpening, IsWorking, OpensAll}
use Rattle.v7tools.specs.LinkRuns.{inputs_opened, IsLinkOfFiles, IsLinkRun, ReportsIf, closings}
use Rattle.v7tools.specs.{LinkAnswers.inputs_of, LinkAnswers.IsDeviceFault, LinkAnswers.IsLinkOf, declared.fault.CliFault.CliFault}
use Rattle.v7tools.specs.declared.fault.CliFault.TheVariants as faults
use Rattle.host.proofs.EventLemmas.{asked_after}
use Rattle.v7tools.proofs.EventLemmas.{paths_opened}

module _ {R : Type 0} (remaining : R → Option (List ℕ)) where
  -- the inputs are the files that were opened
  inputs_from : (inputs : List (String Global × Latched R)) → AllByRecursion IsWorking inputs →
      inputs_of remaining inputs ≡ inputs_opened (sources remaining inputs)
  inputs_from [] h = refl
  inputs_from (i ∷ is) h = λ j. record { path = string_bytes i.0; known = remaining i.1.device; has_failed = h.0 j } ∷ inputs_from is h.1 j

  -- the link of the inputs is that of the files that were opened
  pub link_of_files : (forced : List (List ℕ)) (o : Choices) (files : List (String Global))
      (inputs : List (String Global × Latched R)) (answer : Result Linked CliFault) → files ≡ map (λ i. i.0) inputs →
      AllByRecursion IsWorking inputs → IsLinkOf forced o (inputs_of remaining inputs) answer →
      IsLinkOfFiles forced o (map string_bytes files) (sources remaining inputs) answer
  link_of_files forced o files inputs answer order working h = search (rules, paths_opened, inputs_from)

  module _ {W : Type 0} (contents : W → Option (List ℕ)) (forced : List (List ℕ)) (o : Choices) (out : String Global)
      (files : List (String Global)) (old : History) (result : Result ℕ CliFault) (before after : Latched W) where
    pub not_opened : (new : History) (fault : CliFault) → IsOpening remaining old new files (Err fault) → result ≡ Err fault →
        after ≡ before → IsLinkRun contents forced o out (map string_bytes files) old new result before after
    not_opened new (faults.CannotOpen path) h is same =
        inr (inl (record { path = path; stops = h; refuses = record { refusal = is; silent = same } }))
    not_opened new (faults.Memory _) h is same = inl (h, record { refusal = is; silent = same })
    not_opened new fault h is same = absurd h

    pub no_link : (mid new : History) (inputs : List (String Global × Latched R)) (fault : CliFault) (stopped : Option Bool) →
        OpensAll remaining old mid files inputs → IsLinkOf forced o (inputs_of remaining inputs) (Err fault) →
        (IsDeviceFault fault ↔ (stopped ≡ Some true)) → Extends mid new (closings stopped) → result ≡ Err fault → after ≡ before →
        IsLinkRun contents forced o out (map string_bytes files) old new result before after
    no_link mid new inputs fault stopped h link told closes is same = inr (inr (inl (record {
      fault = fault;
      found = sources remaining inputs;
      answer = link_of_files _ o _ _ _ h.1 h.2 link;
      stopped = stopped;
      told = told;
      asked = asked_after _ _ _ _ _ h.0 closes;
      refuses = record { refusal = is; silent = same };
    })))

    pub stores_link : (mid new : History) (inputs : List (String Global × Latched R)) (made : Linked) (what : Stored) →
        OpensAll remaining old mid files inputs →
        IsLinkOf forced o (inputs_of remaining inputs) (Ok made) →
        Extends mid new (stored (string_bytes out) made.file what ∷ []) →
        ReportsIf contents what out (report_names made.report) result before after →
        IsLinkRun contents forced o out (map string_bytes files) old new result before after
    stores_link mid new inputs made what h link asked reports = inr (inr (inr (record {
      linked = made;
      what = what;
      found = sources remaining inputs;
      answer = link_of_files _ o _ _ _ h.1 h.2 link;
      asked = asked_after _ _ _ _ _ h.0 asked;
      reports = reports;
    })))
