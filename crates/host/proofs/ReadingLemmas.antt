-- Files that are read up to so many bytes.
use Rattle.std.proofs.Common.{◌≡◌, ◌≤◌, ◌<◌, ℕ, List, [], ◌∷◌, Bool, Result, Ok, Err, length, Option, Some, None, refl, true, false, ap, ◌∙◌, arith, inr}
use Rattle.std.proofs.{Common.{length-take, subst, sym, take, take_all, nat_lt}, lemmas.Bool.{lt-ltb, ltb-true}}
use Rattle.std.specs.{Prelude.{IfErr, IfOk, IfSome, Vec}, declared.alloc.Global.Global}
use Rattle.aout_core.specs.{declared.whole.FileFault.FileFault, declared.whole.FileFault.TheVariants.{NotOpened, Failed, Memory}}
use Rattle.host.specs.{Answers.Stops, Events.{Extends, History, closed, opened}, declared.answer.Fault.Fault, internal.Readings.{Takes, TakesAt, is_of_system}}
use Rattle.host.specs.Sources.{EndsBroken, EndsReading, ReadsAt, ReadsFront, is_longer}
use Rattle.host.proofs.EventLemmas.{asked_after}

-- a file that was opened is read, and closed
pub taken_at : (most : ℕ) (old mid new : History) (path : List ℕ) (known : Option (List ℕ)) (failed : Bool)
    (result : Result (Vec ℕ Global) FileFault) → Extends old mid (opened path (Some known) ∷ []) → Extends mid new (closed failed ∷ []) →
    Takes most known failed result → TakesAt most old new path result
taken_at most old mid new path known failed (Ok bytes) opens closes (works, is) =
    (known, asked_after old mid new _ _ opens (subst (λ (b : Bool). Extends mid new (closed b ∷ [])) works closes), is)
taken_at most old mid new path known failed (Err Failed) opens closes is =
    (known, asked_after old mid new _ _ opens (subst (λ (b : Bool). Extends mid new (closed b ∷ [])) is closes))
taken_at most old mid new path known failed (Err (Memory r)) opens closes is =
    (known, asked_after old mid new _ _ opens (subst (λ (b : Bool). Extends mid new (closed b ∷ [])) is closes))
taken_at most old mid new path known failed (Err NotOpened) opens closes taken = absurd taken

module _ (old new : History) (path : List ℕ) where
  -- what has fewer bytes than were asked for has them all
  pub reads_whole : (limit most : ℕ) (bytes : List ℕ) → ReadsFront limit old new path bytes → most < limit → length bytes ≤ most →
      ReadsAt old new path bytes
  reads_whole limit most bytes (None, grows, is) below small = (None, grows, is)
  reads_whole limit most bytes (Some all, grows, is) below small =
      (Some all, grows, is ∙ take_all limit all (omega (arith, length-take limit all, ap length is, small, below)))

  -- what is not too long is all of it
  pub reads_kept : (limit most : ℕ) (bytes : List ℕ) (result : Result (Vec ℕ Global) Fault) → ReadsFront limit old new path bytes →
      most < limit → IfOk result (λ kept. kept.items ≡ bytes) → IfOk result (λ kept. length bytes ≤ most) →
      IfOk result (λ kept. ReadsAt old new path kept.items)
  reads_kept limit most bytes (Ok kept) reads below same small =
      subst (ReadsAt old new path) (sym same) (reads_whole limit most bytes reads below small)
  reads_kept limit most bytes (Err fault) reads below same small = tt

  -- what has more is too long
  stops_longer : (limit most : ℕ) (bytes : List ℕ) (known : Option (List ℕ)) (fault : Fault) → IfSome known (λ all. bytes ≡ take limit all) →
      Stops (nat_lt most (length bytes)) 2 fault → Stops (is_longer most known) 2 fault
  stops_longer limit most bytes known (Fault.Memory refused) is stops = tt
  stops_longer limit most bytes None (Fault.Answered a) is stops = (refl, stops.1)
  stops_longer limit most bytes (Some all) (Fault.Answered a) is stops =
      (lt-ltb most (length all) (omega (arith, length-take limit all, ap length is, ltb-true most (length bytes) stops.0)), stops.1)

  pub reads_too_much : (limit most : ℕ) (bytes : List ℕ) (result : Result (Vec ℕ Global) Fault) → ReadsFront limit old new path bytes →
      IfErr result (λ fault. Stops (nat_lt most (length bytes)) 2 fault) → IfErr result (λ fault. EndsReading most old new path fault)
  reads_too_much limit most bytes (Ok kept) reads stops = tt
  reads_too_much limit most bytes (Err fault) (known, grows, is) stops =
      inr (known, grows, stops_longer limit most bytes known fault is stops)

  -- why it was not read, of the system or of memory
  pub not_taken : (most : ℕ) (why : FileFault) (fault : Fault) → TakesAt most old new path (Err why) → Stops (is_of_system why) 2 fault →
      EndsBroken old new path fault
  not_taken most NotOpened fault grows stops = (None, false, grows, stops)
  not_taken most Failed fault (known, grows) stops = (Some known, true, grows, stops)
  not_taken most (Memory r) fault (known, grows) stops = (Some known, false, grows, stops)
