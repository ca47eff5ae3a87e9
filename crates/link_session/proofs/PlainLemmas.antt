-- A mention that does not change the state of a known name leaves the names as they are, and has no mark.
use Rattle.std.proofs.Common.{◌≡◌, ℕ, false, List, [], ◌∷◌, ◌++◌, Some, sym, ◌∙◌, ap, append-nil, rules}
use Rattle.std.specs.{Prelude.bytes_eq, Map.lookup}
use Rattle.indexmap.specs.IndexMap.{insert_entry}
use Rattle.link_session.specs.internal.Additions.{place_in, state_for, mention_of, with_mention, changes, state_mark}
use Rattle.link_session.specs.{declared.state.State.State, declared.mark.Mark.Mark, declared.state.State.TheVariants.{Wanted, Defined}}
use Rattle.link_session.specs.{Image.Named, internal.Updates.updated_state}
use Rattle.link_session.proofs.PlaceLemmas.{known_state}

kept_state : (was says : State) → changes was says ≡ false → updated_state was says ≡ was
kept_state (Defined segment offset) says h = search rules
kept_state (Wanted size) (Wanted more) h = search rules
kept_state (Wanted size) (Defined segment offset) h = search rules

-- a state that is put in where it is
put_again : (es : Named) (name : List ℕ) (was : State) → lookup (bytes_eq name) es ≡ Some was → insert_entry bytes_eq es name was ≡ es
put_again [] name was h = absurd (cc)
put_again (e ∷ es) name was h = search (rules, put_again es name was)

-- of a name that is known, where a mention does not change its state
module _ (es : Named) (name : List ℕ) (was says : State) (known : lookup (bytes_eq name) es ≡ Some was)
    (none : changes was says ≡ false) where
  -- the names and their states stay as they are
  pub names_stay : es ≡ with_mention es (mention_of name says)
  names_stay =
      sym (put_again es name was known)
      ∙ ap (λ (s : State). insert_entry bytes_eq es name s)
      (sym (kept_state was says none) ∙ ap (λ (s : State). updated_state s says) (known_state es name was known))

  -- there is no mark
  pub no_mark : (kept : ℕ) (items : List Mark) → items ≡ items ++ state_mark kept es (mention_of name says)
  no_mark kept items =
      let still : changes (state_for es name) says ≡ false = ap (λ (s : State). changes s says) (sym (known_state es name was known)) ∙ none in
      search (rules, append-nil)
