use Rattle.std.proofs.{Common.◌≡◌, Common.sym, Common.◌∙◌, lemmas.List.same_from_push}
use Rattle.link_session.proofs.laws.withdraw_law.Goals as goal

pub returns : goal.returns
returns c = λ old between new added taken adds withdraws.
    let kept = same_from_push new.entries old.entries taken added (sym withdraws.entries ∙ adds.entries) in
    let journal = same_from_push new.journal old.journal withdraws.marks adds.marks (sym withdraws.journal ∙ adds.journal) in
    let forced : new.forced ≡ old.forced = withdraws.forced ∙ adds.forced in
    (λ i. record { forced = forced i; entries = kept.0 i; journal = journal.0 i }, kept.1)
