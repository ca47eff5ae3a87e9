use Rattle.std.proofs.Common.{◌++◌, sym, subst}
use Rattle.link_session.specs.{Laws.HoldState, Marks.states_changed, Mentions.mentions, Mentions.mentions_in, States.state}
use Rattle.link_session.proofs.{MentionLemmas.mentions_push, ChangedLemmas.none_changed, ChangedLemmas.first_changed}
use Rattle.link_session.proofs.laws.marks_law.Goals as goal

pub returns : goal.returns
returns c = λ forced os o marks difference i name there.
    let earlier = mentions forced os in
    let ms = mentions_in os o in
    let held : HoldState (state earlier name) (state (earlier ++ ms) name) (states_changed earlier ms name) =
    record { same = none_changed earlier ms name; changed = first_changed earlier ms name } in
    subst (λ (P : Type 0). P) (λ j. HoldState (state earlier name) (state (sym (mentions_push forced os o) j) name)
    (sym (difference.names i name there) j)) held
