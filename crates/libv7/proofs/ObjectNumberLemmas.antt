-- Numbers of objects by names, once an object more is put in.
use Rattle.std.proofs.Common.{◌≡◌, ℕ, ◌+◌, ◌<◌, Bool, List, length, drop, get_or, refl, sym, subst}
use Rattle.std.proofs.lemmas.List.{drop_more, get_or-map, length-map}
use Rattle.indexmap.specs.IndexMap.{IndexMap}
use Rattle.aout_core.specs.declared.symbol.Symbol.{Symbol}
use Rattle.link_session.specs.Labelled.{Labelled, objects}
use Rattle.libv7.specs.internal.Numbered.{AreNumbers, PutsObject}

module _ {S : Type 0} (definitions : Bool) where
  -- the object before those that are put in
  pub object_put : (es : List Labelled) (n : ℕ) (d : Labelled) (ss : List Symbol) (old new : IndexMap (List ℕ) ℕ S) → n < length es →
      ss ≡ (get_or es n d).object.symbols → AreNumbers definitions (n + 1) (drop (n + 1) (objects es)) old →
      PutsObject definitions n ss old new → AreNumbers definitions n (drop n (objects es)) new
  object_put es n d ss old new inside are so_far put name =
      let os = objects es in
      let here : get_or os n d.object ≡ (get_or es n d).object = get_or-map (λ (e : Labelled). e.object) es n d d.object inside in
      let left : n < length os = subst (λ (k : ℕ). n < k) (sym (length-map es (λ (e : Labelled). e.object))) inside in
      rw (put name, so_far name, are, drop_more os n d.object left, here) refl
