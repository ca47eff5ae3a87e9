use Rattle.std.proofs.Common.{◌≡◌, sym, ◌∙◌, ap, rules}
use Rattle.std.specs.{Prelude.bytes_eq, List.position_or_len, Map.keys_of, Map.lookup}
use Rattle.indexmap.specs.IndexMap.{insert_entry, set_value_at}
use Rattle.link_session.specs.{declared.state.State.State, internal.Additions.state_for, internal.Updates.updated_state}
use Rattle.link_session.proofs.{PlaceLemmas.{place_is, known_state, unknown_state, written_again}, UpdateLemmas.says_alone}
use Rattle.link_session.proofs.mention.update.Goals as goal

pub returns-in-Some-clause-place : goal.returns-in-Some-clause-place
returns-in-Some-clause-place c =
    let at : c.unwrap-place.result.0 ≡ position_or_len (bytes_eq c.args.name) (keys_of c.args.externals.now.entries) = search rules in
    at ∙ place_is c.args.name (keys_of c.args.externals.now.entries)

pub returns-in-None-clause-place : goal.returns-in-None-clause-place
returns-in-None-clause-place c =
    let at : c.unwrap-place.result.0 ≡ position_or_len (bytes_eq c.args.name) (keys_of c.args.externals.now.entries) = search rules in
    at ∙ place_is c.args.name (keys_of c.args.externals.now.entries)

pub returns-in-Some-clause-state : goal.returns-in-Some-clause-state
returns-in-Some-clause-state c =
    let known : c.unwrap-place.result.1 ≡ lookup (bytes_eq c.args.name) c.args.externals.now.entries = search rules in
    known_state c.args.externals.now.entries c.args.name c.in-Some.was (sym known ∙ c.in-Some.is)

pub returns-in-None-clause-state : goal.returns-in-None-clause-state
returns-in-None-clause-state c =
    let known : c.unwrap-place.result.1 ≡ lookup (bytes_eq c.args.name) c.args.externals.now.entries = search rules in
    unknown_state c.args.externals.now.entries c.args.name (sym known ∙ c.in-None.is)

pub returns-in-Some-clause-names : goal.returns-in-Some-clause-names
returns-in-Some-clause-names c =
    let es = c.args.externals.now.entries in
    let at : c.unwrap-place.result.0 ≡ position_or_len (bytes_eq c.args.name) (keys_of es) = search rules in
    let known : c.unwrap-place.result.1 ≡ lookup (bytes_eq c.args.name) es = search rules in
    let inserted : c.insert_full.new.self.entries ≡ insert_entry bytes_eq es c.args.name c.args.says = search rules in
    let state = known_state es c.args.name c.in-Some.was (sym known ∙ c.in-Some.is) in
    (λ i. set_value_at (inserted i) ((at ∙ place_is c.args.name (keys_of es)) i)
    ((c.updated_state.ensures ∙ ap (λ (s : State). updated_state s c.args.says) state) i))
    ∙ written_again es c.args.name c.args.says (updated_state (state_for es c.args.name) c.args.says)

pub returns-in-None-clause-names : goal.returns-in-None-clause-names
returns-in-None-clause-names c =
    let es = c.args.externals.now.entries in
    let known : c.unwrap-place.result.1 ≡ lookup (bytes_eq c.args.name) es = search rules in
    let inserted : c.insert_full.new.self.entries ≡ insert_entry bytes_eq es c.args.name c.args.says = search rules in
    let state = unknown_state es c.args.name (sym known ∙ c.in-None.is) in
    inserted ∙ ap (λ (s : State). insert_entry bytes_eq es c.args.name s)
    (sym (says_alone c.args.says) ∙ ap (λ (s : State). updated_state s c.args.says) state)
