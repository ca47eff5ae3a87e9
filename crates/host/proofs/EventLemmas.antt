-- Histories that grow.
use Rattle.std.proofs.{Common.{List, [], ◌++◌, Some, None, sym, ap, ◌∙◌}, lemmas.List.{append-nil, append_assoc}}
use Rattle.host.specs.Events.{Event, History, Extends}

pub nothing_asked : (a : History) → Extends a a []
nothing_asked None = tt
nothing_asked (Some xs) = sym (append-nil xs)

pub asked_after : (a b c : History) (first then : List Event) → Extends a b first → Extends b c then → Extends a c (first ++ then)
asked_after None b c first then h k = tt
asked_after (Some xs) None c first then h k = absurd h
asked_after (Some xs) (Some ys) None first then h k = absurd k
asked_after (Some xs) (Some ys) (Some zs) first then h k = k ∙ ap (λ (l : List Event). l ++ then) h ∙ append_assoc xs first then
