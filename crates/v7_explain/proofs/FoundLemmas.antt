-- What is sure among findings.
use Rattle.std.proofs.Common.{◌≡◌, ℕ, Bool, false, ◌||◌, List, [], ◌∷◌, Result, IfOk, refl, ap, ◌∙◌}
use Rattle.std.proofs.lemmas.Result.{IfOk-weaker}
use Rattle.std.specs.{Prelude.None, List.list_any}
use Rattle.aout_core.specs.Contents.{Contents}
use Rattle.host.specs.{Answer.Answer, Answers.only_errors}
use Rattle.checks.specs.{Suspicions.all_odd, declared.evidence.Evidence.Evidence, Found.each_found, declared.finding.Finding.Finding}
use Rattle.v7_explain.specs.Files.{HasStatus, status_checked, status_of}

pub sure_found : (fs : List Finding) → list_any (λ f. f.is_sure) fs ≡ list_any (λ f. f.is_sure) (each_found fs)
sure_found [] = refl
sure_found (f ∷ fs) = ap (λ (b : Bool). f.is_sure || b) (sure_found fs)

-- the answer of an object has the status of what is odd in it
pub said_odd : {E : Type 0} (e : Evidence) (bytes : List ℕ) (c : Contents) (odd : List Finding) (errors : List ℕ) (status : ℕ)
    (is_cut : Bool) (result : Result Answer E) → each_found odd ≡ all_odd e false bytes c → status ≡ status_of (each_found odd) →
    IfOk result (λ a. (is_cut ≡ false) × (a ≡ only_errors errors status)) → IfOk result (λ a. HasStatus (status_checked e bytes c None) a)
said_odd e bytes c odd errors status is_cut result are by =
    IfOk-weaker result _ _ (λ a h. ap (λ (x : Answer). x.status) h.1 ∙ by ∙ ap status_of are)
