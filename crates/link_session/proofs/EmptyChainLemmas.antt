-- To bind an external whose chain is empty changes nothing: no cell waits for it.
use Rattle.std.proofs.Common.{◌≡◌, ℕ, Bool, false, cond, List, [], ◌∷◌, map, None, refl, ap, subst}
use Rattle.link_session.specs.{internal.Chains.{Link, IsChain, is_on, FindsWaiting, Waits}, declared.cell.Cell.Cell}
use Rattle.link_session.specs.{declared.mark.Place.Place, declared.mark.Place.TheVariants.{InText, InData}, Image.{Named, state_at}}
use Rattle.link_session.specs.{internal.Additions.{bound_by, bound_or}, internal.Settled.settled_at}

no_places : (ts ds : List Link) (head : Link) (ps : List Place) → head ≡ None → IsChain ts ds head ps → ps ≡ []
no_places ts ds head [] e c = refl
no_places ts ds head (p ∷ ps) e c = absurd (let first = c.0 in cc)

unsettled : (es : Named) (k : ℕ) (cs : List Cell) → FindsWaiting (λ i. false) k cs → cs ≡ map (settled_at es k) cs
unsettled es k [] h = refl
unsettled es k (c ∷ cs) h = λ i. one i ∷ unsettled es k cs h.1 i
  where
    one : c ≡ settled_at es k c
    one = ap (λ (t : Bool). cond t (bound_or (bound_by (state_at es k) c) c) c) h.0

-- no cell waits for the external whose head this is
module _ (es : Named) (k : ℕ) (texts datas : List Cell) (ts ds : List Link) (head : Link) (empty : head ≡ None)
    (waits : Waits ts ds head texts datas k) where
  none : waits.places ≡ []
  none = no_places ts ds head waits.places empty waits.visits

  -- binding such an external changes no cell of text
  pub no_text : texts ≡ map (settled_at es k) texts
  no_text = unsettled es k texts (subst (λ (ps : List Place). FindsWaiting (λ i. is_on ps (InText i)) k texts) none waits.text)

  -- nor one of data
  pub no_data : datas ≡ map (settled_at es k) datas
  no_data = unsettled es k datas (subst (λ (ps : List Place). FindsWaiting (λ i. is_on ps (InData i)) k datas) none waits.data)
