-- Files to which paths lead: whether an output is known to be none of the inputs.
--
-- Two paths lead to one file if the system has the same device and the same number for both, whatever their names and links are. Only
-- regular files count: nothing is lost of another one if it is written to.
use Rattle.std.specs.{Prelude.{ℕ, nat_eq, Bool, true, false, ◌&&◌, List, [], ◌∷◌, Result}, List.list_any}
use Rattle.host.specs.{Answers.Refuses, Events.Event, Events.History, Events.Extends, Events.looked}
use Rattle.host.specs.{declared.answer.Fault.Fault, declared.nodes.Found.Found, declared.nodes.Node.Node, declared.nodes.Nodes.Nodes}
use Rattle.host.specs.declared.nodes.Found.TheVariants.{File, NoFile, Unknown}

-- whether a path leads to this file
abbrev pub is_node : Node → Found → Bool
is_node node (File other) = nat_eq node.device other.device && nat_eq node.number other.number
is_node node _ = false

-- whether an output is one of the inputs
abbrev pub has_input : List Nodes → Node → Bool
has_input found output = list_any (λ (nodes : Nodes). is_node output nodes.input) found

-- an output is refused if it is one of the inputs, or if the system does not say what its path or that of its input leads to
abbrev pub refuses : List Nodes → Found → Found → Bool
refuses found (Unknown _) output = true
refuses found input (Unknown _) = true
refuses found input (File output) = has_input found output
refuses found input NoFile = false

abbrev pub is_refused : List Nodes → Nodes → Bool
is_refused found nodes = refuses found nodes.input nodes.output

-- the system was asked what the paths of an input and of its output lead to
abbrev pub looks : List ℕ → List ℕ → Nodes → List Event
looks from to nodes = looked from nodes.input ∷ looked to nodes.output ∷ []

-- that is asked, and the output is known not to be the one input, or is refused
abbrev pub ChecksOutput : List ℕ → List ℕ → History → History → Result (Unit {0}) Fault → Type 0
ChecksOutput from to old new result =
    (nodes : Nodes) × Extends old new (looks from to nodes) × Refuses 2 (is_refused (nodes ∷ []) nodes) result
