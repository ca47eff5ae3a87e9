-- Objects read for a map, one after another, with what a session takes of them.
use Rattle.std.proofs.{Common.{◌≡◌, ℕ, List, [], ◌∷◌, ◌++◌, Result, Ok, Err, refl, ap, ◌∙◌}, lemmas.List.map-append}
use Rattle.aout_core.specs.Contents.{Contents}
use Rattle.link_session.specs.Labelled.{Labelled, objects}
use Rattle.link_out.specs.Steps.{refused_as}
use Rattle.link_out.specs.Inputs as inputs
use Rattle.tool_options.specs.Choices.{Choices}
use Rattle.link_maps.specs.{declared.members.Objects.Objects, Links.read_inputs, Members.all_of, Taking.split_of, Taking.with_object}
use Rattle.link_maps.proofs.TakingLemmas.{all_more, split_more}
use Rattle.libv7.specs.MapAnswers.{AreTaken, IsMapped, MapsParts, objects_each}
use Rattle.libv7.specs.declared.output.LinkOutput.{LinkOutput}
use Rattle.libv7.specs.LinkAnswers.{numbered, refusal_of}

-- with one more object, whether it is kept or left
module _ (old new : Objects) (e : Labelled) (taken : split_of new ≡ with_object old.session.forced (split_of old) e) where
  pub objects_more : objects (all_of new) ≡ objects (all_of old) ++ e.object ∷ []
  objects_more = ap objects (all_more old new e taken) ∙ map-append (λ (x : Labelled). x.object) (all_of old) (e ∷ [])

  pub taken_more : new.session.forced ≡ old.session.forced → (forced : List (List ℕ)) → AreTaken forced (objects (all_of old)) old →
      AreTaken forced (objects (all_of new)) new
  taken_more same forced so_far = record {
    are = refl;
    names = same ∙ so_far.names;
    taken = split_more forced old new e so_far.names taken so_far.taken;
  }

read_all : (r : Result (List Contents) inputs.Refusal) (os : List Contents) → refused_as refusal_of r ≡ Ok os → r ≡ Ok os
read_all (Ok found) os h = let same : found ≡ os = cc in ap (λ (l : List Contents). Ok l) same
read_all (Err refusal) os h = absurd (cc)

-- the map of parts that are read
pub mapped_all : (w : ℕ) (forced : List (List ℕ)) (o : Choices) (parts : List (List ℕ)) (os : List Contents) (m : LinkOutput) →
    objects_each parts ≡ Ok os → (read_inputs (numbered 0 parts) ≡ Ok os → IsMapped w forced o parts os m) → MapsParts w forced o parts m
mapped_all w forced o parts os m read mapped = rw read (mapped (read_all (read_inputs (numbered 0 parts)) os read))
