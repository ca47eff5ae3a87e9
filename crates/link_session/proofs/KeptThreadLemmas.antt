-- What a session keeps of threads: of no objects, of one more object, and without the last one.
use Rattle.std.proofs.Common.{◌≡◌, ℕ, List, [], ◌∷◌, ◌++◌, refl, sym, ap, ◌∙◌, arith}
use Rattle.std.specs.List.{AllByRecursion}
use Rattle.aout_core.specs.Contents.{Contents}
use Rattle.link_session.specs.internal.Threads.{Threads, bound_heads, next_threads, forced_threads, threads_of, undo_threads, UndoesThreads}
use Rattle.link_session.specs.internal.Threads.{IsThreaded, KeepsThreads}
use Rattle.link_session.specs.{declared.mark.Mark.Mark, Image.image, Sessions.IsObject, internal.Chains.heads_back}
use Rattle.link_session.proofs.{JournalLemmas.{journal_empty, journal_push, journal_pop}, HistoryLemmas.{threads_push, threaded_of}}
use Rattle.link_session.proofs.{AdditionLemmas.joined_image-is, ThreadBackLemmas.threads_back}

-- kept threads hold the chains of the image
pub kept_threaded : (forced : List (List ℕ)) (os : List Contents) (journal : List (List Mark)) (t : Threads) →
    AllByRecursion IsObject os → KeepsThreads forced os journal t → IsThreaded (image forced os) t
kept_threaded forced os journal t good k = grind (arith, threaded_of forced os good)

-- the chains of a new session are kept
pub forced_kept : (forced : List (List ℕ)) → KeepsThreads forced [] [] (forced_threads forced)
forced_kept forced = record { threads = refl; undoes = journal_empty (UndoesThreads forced) }

module _ (forced : List (List ℕ)) (os : List Contents) (o : Contents) (journal : List (List Mark)) (marks : List Mark) (t : Threads) where
  -- and those of an addition
  pub kept_push : AllByRecursion IsObject os → KeepsThreads forced os journal t →
      heads_back marks (bound_heads (image forced os) o t.heads) ≡ t.heads →
      KeepsThreads forced (os ++ o ∷ []) (journal ++ marks ∷ []) (next_threads (image forced os) o t)
  kept_push good k back = record { threads = longer; undoes = journal_push (UndoesThreads forced) os o journal marks k.undoes undoes_last }
    where
      longer : next_threads (image forced os) o t ≡ threads_of forced (os ++ o ∷ [])
      longer = ap (λ (u : Threads). next_threads (image forced os) o u) k.threads ∙ sym (threads_push forced os o)

      undoes_last : UndoesThreads forced marks (os ++ o ∷ []) os
      undoes_last =
          (λ i. undo_threads marks (sym (joined_image-is forced os o good) i) (image forced os) (sym longer i))
          ∙ threads_back (image forced os) o t (kept_threaded forced os journal t good k) marks back
          ∙ k.threads

  -- and those of a withdrawal
  pub kept_pop : KeepsThreads forced (os ++ o ∷ []) (journal ++ marks ∷ []) t →
      KeepsThreads forced os journal (undo_threads marks (image forced (os ++ o ∷ [])) (image forced os) t)
  kept_pop k = grind (arith, journal_pop (UndoesThreads forced) os o journal marks k.undoes)
