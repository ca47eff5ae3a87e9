-- What edits of a session do, one alone and one after the other.
use Rattle.std.proofs.Common.{◌≡◌, ℕ, List, [], ◌∷◌, ◌++◌, map, Option, None, Some, String, refl, sym, ◌∙◌, ap}
use Rattle.std.proofs.lemmas.List.{append_assoc, map-append}
use Rattle.std.specs.declared.alloc.Global.{Global}
use Rattle.aout_core.specs.{Contents.Contents, Refusals.refused}
use Rattle.link_session.specs.{declared.entry.AddFault.AddFault, declared.entry.AddFault.TheVariants.Memory, Labelled.{Labelled, objects}}
use Rattle.link_session.specs.{Limits.refusal, Undo.Kept, Sessions.{Adds, Withdraws, IsCause, labelled}}
use Rattle.link_session.specs.Edits.{Change, addition, withdrawal, last_of, without_last, kept_unless, kept_after, answer_by}
use Rattle.link_session.specs.Edits.{withdrawn_answer, answer_to, survivors_from, answers_from}
use Rattle.link_session.proofs.EditLemmas.{last_of-put_last, without_last-put_last}
use Rattle.link_out.specs.declared.edit.{Edit.Edit, Reply.Reply}
use Rattle.link_out.specs.{Runs.change_of, Runs.answer_of, internal.MadeEdits.AreDone, internal.MadeEdits.IsDone}
use Rattle.link_out.specs.declared.edit.Reply.TheVariants as replies

-- an accepted addition
pub added_done : (old new : Kept) (e : Labelled) → refusal old.forced (objects old.entries) e.object ≡ None → Adds old new e →
    IsDone old new (addition e) replies.Added
added_done old new e fits h = record {
  forced = h.forced;
  kept = h.entries ∙ ap (λ r. kept_unless r old.entries e) (sym fits);
  answer = ap answer_by (sym fits);
}

-- a cause that is not want of memory is the limit that was passed
pub limit_is : (r : Option AddFault) (cause : AddFault) → IsCause r cause → (cause ≡ Memory refused → ⊥) → r ≡ Some cause
limit_is None cause h other = absurd (other h)
limit_is (Some limit) cause h other = ap Some (sym h)

-- an addition that was refused, for another cause than memory
pub refused_done : (old new : Kept) (e : Labelled) (cause : AddFault) →
    IsCause (refusal old.forced (objects old.entries) e.object) cause → (cause ≡ Memory refused → ⊥) → new ≡ old →
    IsDone old new (addition e) (replies.Refused cause)
refused_done old new e cause h other same =
    let limit : refusal old.forced (objects old.entries) e.object ≡ Some cause =
    limit_is (refusal old.forced (objects old.entries) e.object) cause h other in
    record {
      forced = ap (λ (k : Kept). k.forced) same;
      kept = ap (λ (k : Kept). k.entries) same ∙ ap (λ r. kept_unless r old.entries e) (sym limit);
      answer = ap answer_by (sym limit);
    }

-- a withdrawal
pub withdrew_done : (old new : Kept) (label : String Global) (object : Contents) → Withdraws old new (labelled label object) →
    IsDone old new withdrawal (replies.Withdrew label)
withdrew_done old new label object h = record {
  forced = h.forced;
  kept = sym (without_last-put_last new.entries (labelled label object)) ∙ ap without_last (sym h.entries);
  answer = ap withdrawn_answer (sym (last_of-put_last new.entries (labelled label object)) ∙ ap last_of (sym h.entries));
}

-- a withdrawal where nothing is kept
pub nothing_done : (old new : Kept) → old.entries ≡ [] → new ≡ old → IsDone old new withdrawal replies.Nothing
nothing_done old new none same = record {
  forced = ap (λ (k : Kept). k.forced) same;
  kept = ap (λ (k : Kept). k.entries) same ∙ none ∙ ap without_last (sym none);
  answer = ap (λ es. withdrawn_answer (last_of es)) (sym none);
}

survivors-one_more : (forced : List (List ℕ)) (kept : List Labelled) (cs : List Change) (c : Change) →
    survivors_from forced kept (cs ++ c ∷ []) ≡ kept_after forced (survivors_from forced kept cs) c
survivors-one_more forced kept [] c = refl
survivors-one_more forced kept (d ∷ cs) c = survivors-one_more forced (kept_after forced kept d) cs c

answers-one_more : (forced : List (List ℕ)) (kept : List Labelled) (cs : List Change) (c : Change) →
    answers_from forced kept (cs ++ c ∷ []) ≡ answers_from forced kept cs ++ answer_to forced (survivors_from forced kept cs) c ∷ []
answers-one_more forced kept [] c = refl
answers-one_more forced kept (d ∷ cs) c = ap (λ xs. answer_to forced kept d ∷ xs) (answers-one_more forced (kept_after forced kept d) cs c)

-- a list so far, and what is left after one more of its items
pub one_more : {A : Type 0} (all before left later : List A) (x : A) → all ≡ before ++ left → left ≡ x ∷ later →
    all ≡ (before ++ x ∷ []) ++ later
one_more {A} all before left later x order split = order ∙ ap (λ (l : List A). before ++ l) split ∙ sym (append_assoc before (x ∷ []) later)

-- one more edit
pub one_more_done : (old new last : Kept) (edits : List Edit) (edit : Edit) (given : List Reply) (reply : Reply) →
    AreDone old new (map change_of edits) given → IsDone new last (change_of edit) reply →
    AreDone old last (map change_of (edits ++ edit ∷ [])) (given ++ reply ∷ [])
one_more_done old new last edits edit given reply h one =
    let cs = map change_of edits in
    let more : map change_of (edits ++ edit ∷ []) ≡ cs ++ change_of edit ∷ [] = map-append change_of edits (edit ∷ []) in
    record {
      forced = one.forced ∙ h.forced;
      kept =
          one.kept
          ∙ (λ i. kept_after (h.forced i) (h.kept i) (change_of edit))
          ∙ sym (survivors-one_more old.forced old.entries cs (change_of edit))
          ∙ ap (survivors_from old.forced old.entries) (sym more);
      answers =
          map-append answer_of given (reply ∷ [])
          ∙ (λ i. h.answers i ++ one.answer i ∷ [])
          ∙ (λ i. answers_from old.forced old.entries cs ++ answer_to (h.forced i) (h.kept i) (change_of edit) ∷ [])
          ∙ sym (answers-one_more old.forced old.entries cs (change_of edit))
          ∙ ap (answers_from old.forced old.entries) (sym more);
    }

pub ruleset by_edit = (added_done, refused_done, withdrew_done, nothing_done)
