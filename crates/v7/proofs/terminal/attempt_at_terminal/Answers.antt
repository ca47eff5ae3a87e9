use Rattle.std.proofs.Common.{◌≡◌, ◌⊎◌, ℕ, List, Option, Result, Ok, Err, sym, subst, ◌∙◌, refl}
use Rattle.std.specs.Prelude.{IfErr, IfOk}
use Rattle.aout_core.specs.Wires.{Latched}
use Rattle.host.specs.Events.{History}
use Rattle.v7tools.specs.{CommandRuns.RunsWords, declared.fault.CliFault.CliFault, declared.fault.CliFault.TheVariants.Usage}
use Rattle.v7.proofs.terminal.attempt_at_terminal.Goals.{then-is_typed, else-is_typed}
use Rattle.v7.proofs.terminal.attempt_at_terminal.Goals as goal

module _ {W : Type 0} (contents : W → Option (List ℕ)) (words : List (List ℕ)) (script : Option (List ℕ)) (old new : History)
    (before after : Latched W) (status : ℕ) where
  abbrev Runs : Result ℕ CliFault → Type 0
  Runs done = RunsWords contents words script old new done before after

  well : (done : Result ℕ CliFault) (answer : ℕ) → Runs done → done ≡ Ok answer → status ≡ answer →
      (x : Option (List ℕ)) × (it : Result ℕ CliFault) × RunsWords contents words x old new it before after
      × IfOk it (λ s. status ≡ s) × IfErr it (λ fault. (fault ≡ Usage) ⊎ (status ≡ 2))
  well done answer run is same = (script, Ok answer, subst Runs is run, same, tt)

  badly : (done : Result ℕ CliFault) (fault : CliFault) → Runs done → done ≡ Err fault → (fault ≡ Usage) ⊎ (status ≡ 2) →
      (x : Option (List ℕ)) × (it : Result ℕ CliFault) × RunsWords contents words x old new it before after
      × IfOk it (λ s. status ≡ s) × IfErr it (λ fault. (fault ≡ Usage) ⊎ (status ≡ 2))
  badly done fault run is two = (script, Err fault, subst Runs is run, tt, two)

pub returns-in-Ok-clause-run : goal.returns-in-Ok-clause-run
returns-in-Ok-clause-run g c =
    elim c.if-is_typed.branch [
      | then-is_typed w ↦ rw (w.file_system-is, w.output-is)
          (well _ _ _ _ _ _ _ _ _ _ w.attempt-done.ensures.run (sym w.done-is ∙ c.in-Ok.is) refl)
      | else-is_typed w ↦ rw (w.file_system-is, w.output-is)
          (well _ _ _ _ _ _ _ _ _ _ w.attempt-done-else-is_typed.ensures.run (sym w.done-is ∙ c.in-Ok.is) refl)
    ]

pub returns-in-Err-clause-run : goal.returns-in-Err-clause-run
returns-in-Err-clause-run g c =
    elim c.if-is_typed.branch [
      | then-is_typed w ↦ rw (w.file_system-is, w.output-is)
          (badly _ _ _ _ _ _ _ _ _ _ w.attempt-done.ensures.run (sym w.done-is ∙ c.in-Err.is) c.report.ensures.two)
      | else-is_typed w ↦ rw (w.file_system-is, w.output-is)
          (badly _ _ _ _ _ _ _ _ _ _ w.attempt-done-else-is_typed.ensures.run (sym w.done-is ∙ c.in-Err.is) c.report.ensures.two)
    ]
