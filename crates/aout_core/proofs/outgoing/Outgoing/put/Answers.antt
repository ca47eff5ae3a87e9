use Rattle.std.proofs.{Common.{arith, ◌≡◌, ◌++◌, take, drop, ap, sym, ◌∙◌, append_assoc, take-append-drop}, lemmas.Grind.common_steps}
use Rattle.aout_core.proofs.OutgoingLemmas.{broke_before, broke_off}
use Rattle.aout_core.proofs.outgoing.Outgoing.put.Goals as goal

pub returns-in_err-send-clause-bytes : goal.returns-in_err-send-clause-bytes
returns-in_err-send-clause-bytes g c =
    let old = c.args.self.now in
    let bytes = c.args.bytes.now in
    let n = c.take_in-n.result in
    let all : old ++ bytes ≡ c.take_in-n.new.self ++ drop n bytes =
    ap (λ l. old ++ l) (sym (take-append-drop n bytes)) ∙ sym (append_assoc old (take n bytes) (drop n bytes))
    ∙ ap (λ l. (l ++ take n bytes) ++ drop n bytes) (sym c.self.view_is)
    ∙ ap (λ l. l ++ drop n bytes) (sym c.take_in-n.ensures.value) in
    broke_off c.from_residual.result _ _ _ _ c.from_residual.ensures.0
    (broke_before _ _ (old ++ bytes) c.take_in-n.new.self (drop n bytes) all c.in_err-send.ensures.written.bytes)

pub invariant_of-self : goal.invariant_of-self
invariant_of-self g c = grind (arith, common_steps)

pub send-requires : goal.send-requires
send-requires g c = grind (arith, common_steps)

pub invariant_of-self-else-n-bytes : goal.invariant_of-self-else-n-bytes
invariant_of-self-else-n-bytes g c = grind (arith, common_steps)

pub returns-in_ok-send-clause-bytes : goal.returns-in_ok-send-clause-bytes
returns-in_ok-send-clause-bytes g c = grind (arith, common_steps)

pub returns-else-n-bytes-clause-bytes : goal.returns-else-n-bytes-clause-bytes
returns-else-n-bytes-clause-bytes g c = grind (arith, common_steps)
