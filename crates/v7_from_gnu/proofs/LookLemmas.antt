-- Files that the system is asked for one after another, from what comes of those that are left.
use Rattle.std.proofs.Common.{◌≡◌, ℕ, ◌<◌, ◌+◌, List, [], ◌∷◌, ◌++◌, length, drop, get_or, subst, sym, ap, ◌∙◌, inl, inr, refl}
use Rattle.std.proofs.lemmas.List.{drop_more}
use Rattle.std.specs.Prelude.{Result, Err}
use Rattle.aout_core.specs.Refusals.{refused}
use Rattle.host.specs.{Events.History, Events.Extends, Nodes.looks, declared.answer.Fault.Fault, declared.nodes.Nodes.Nodes}
use Rattle.host.specs.declared.answer.Fault.TheVariants.{Memory}
use Rattle.v7_from_gnu.specs.{Checks.Looks, Jobs.Job}

-- what comes of the jobs that are left comes of all
abbrev pub LooksOn : History → History → List Nodes → List Job → List Job → Type 0
LooksOn old mid found left all =
    (new : History) → (result : Result (List Nodes) Fault) → Looks mid new found left result → Looks old new [] all result

-- the files of one more job are found
pub looking_more : (old mid next : History) (found more : List Nodes) (all : List Job) (i : ℕ) (job : Job) (from to : List ℕ) (nodes : Nodes) →
    LooksOn old mid found (drop i all) all → i < length all → job ≡ get_or all i job →
    Extends mid next (looks from to nodes) → from ≡ job.from → to ≡ job.to → more ≡ found ++ nodes ∷ [] →
    LooksOn old next more (drop (i + 1) all) all
looking_more old mid next found more all i job from to nodes on within at asked is_from is_to is_more new result rest =
    let left : drop i all ≡ job ∷ drop (i + 1) all =
    drop_more all i job within ∙ ap (λ (x : Job). x ∷ drop (i + 1) all) (sym at) in
    let looked : Extends mid next (looks job.from job.to nodes) =
    subst (λ (path : List ℕ). Extends mid next (looks job.from path nodes)) is_to
    (subst (λ (path : List ℕ). Extends mid next (looks path to nodes)) is_from asked) in
    on new result (subst (λ (jobs : List Job). Looks mid new found jobs result) (sym left)
    (nodes, next, looked, inr (subst (λ (ns : List Nodes). Looks next new ns (drop (i + 1) all) result) is_more rest)))

-- they are found, and memory runs out for them
pub looking_ends : (old mid next : History) (found : List Nodes) (all : List Job) (i : ℕ) (job : Job) (from to : List ℕ) (nodes : Nodes)
    (result : Result (List Nodes) Fault) → LooksOn old mid found (drop i all) all → i < length all → job ≡ get_or all i job →
    Extends mid next (looks from to nodes) → from ≡ job.from → to ≡ job.to → result ≡ Err (Memory refused) → Looks old next [] all result
looking_ends old mid next found all i job from to nodes result on within at asked is_from is_to ends =
    let left : drop i all ≡ job ∷ drop (i + 1) all =
    drop_more all i job within ∙ ap (λ (x : Job). x ∷ drop (i + 1) all) (sym at) in
    let looked : Extends mid next (looks job.from job.to nodes) =
    subst (λ (path : List ℕ). Extends mid next (looks job.from path nodes)) is_to
    (subst (λ (path : List ℕ). Extends mid next (looks path to nodes)) is_from asked) in
    on next result (subst (λ (jobs : List Job). Looks mid next found jobs result) (sym left) (nodes, next, looked, inl (refl, ends)))
