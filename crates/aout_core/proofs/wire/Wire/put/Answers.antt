use Rattle.std.proofs.Common.{rules, arith, ◌≡◌, ◌==◌, ℕ, ◌-◌, false, List, [], ◌∷◌, ◌++◌, length, take, drop, sym, ap, ◌∙◌, append_assoc}
use Rattle.std.proofs.{Common.{take-append-drop, length-append, true≢false}, lemmas.List.take_rest, KnownBytes.Appends-trans}
use Rattle.aout_core.proofs.wire.Wire.put.Goals as goal

moves_front : (all done rest : List ℕ) (n : ℕ) → all ≡ done ++ rest → all ≡ (done ++ take n rest) ++ take (length rest - n) (drop n rest)
moves_front all done rest n e =
    e ∙ ap (λ l. done ++ l) (sym (take-append-drop n rest)) ∙ sym (append_assoc done (take n rest) (drop n rest))
    ∙ ap (λ l. (done ++ take n rest) ++ l) (sym (take_rest rest n))

-- where a rest is left, there was something to write
something : (all done rest : List ℕ) → all ≡ done ++ rest → false ≡ (length rest == 0) → all ≡ [] → ⊥
something all done [] e left none = true≢false (sym left)
something all done (b ∷ rest) e left none = let long = ap length (sym none ∙ e) ∙ length-append done (b ∷ rest) in absurd (omega arith)

pub loop-rest-preserved : goal.loop-rest-preserved
loop-rest-preserved g c =
    let (unlatched, same, done, split, appended) = c.loop-rest.invariant in
    let rest = c.loop-rest.rest.now in
    let n = c.in-Ok.n in (
      unlatched,
      λ none. absurd (something _ done rest split c.loop-rest-test.ensures none),
      done ++ take n rest,
      moves_front _ done rest n split,
      Appends-trans _ _ _ _ _ appended c.in-Ok.ensures.bytes,
    )

pub returns-in-Ok-eq0-clause-writes : goal.returns-in-Ok-eq0-clause-writes
returns-in-Ok-eq0-clause-writes g c = search rules
