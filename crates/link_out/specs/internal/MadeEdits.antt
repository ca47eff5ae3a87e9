-- What the code knows of edits that it has made, and of the replies to them.
use Rattle.std.specs.Prelude.{◌≡◌, List, map}
use Rattle.link_session.specs.{Edits.{Change, kept_after, answer_to, survivors_from, answers_from}, Undo.Kept}
use Rattle.link_out.specs.{declared.edit.Reply.Reply, Runs.answer_of}

-- a change was made, and the reply is the answer to it
pub record IsDone (old new : Kept) (change : Change) (reply : Reply) : Type 0 where
  pub forced : new.forced ≡ old.forced
  pub kept : new.entries ≡ kept_after old.forced old.entries change
  pub answer : answer_of reply ≡ answer_to old.forced old.entries change

-- changes were made in order, and the replies are the answers to them
pub record AreDone (old new : Kept) (changes : List Change) (given : List Reply) : Type 0 where
  pub forced : new.forced ≡ old.forced
  pub kept : new.entries ≡ survivors_from old.forced old.entries changes
  pub answers : map answer_of given ≡ answers_from old.forced old.entries changes
