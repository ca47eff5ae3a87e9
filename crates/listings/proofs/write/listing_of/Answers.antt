use Rattle.std.proofs.{Common.{◌≡◌, ℕ, false, List, [], ◌∷◌, ◌++◌, refl, subst, ap}, lemmas.Result.IfOk-weaker}
use Rattle.std.specs.Prelude.{codes}
use Rattle.aout_core.specs.{Contents.Contents, declared.reloc.Reloc.Reloc}
use Rattle.texts.specs.Texts.{Written}
use Rattle.listings.specs.Listing.{IsBeforeEnd, IsListed}
use Rattle.listings.proofs.WriteLemmas.{listed_bytes}
use Rattle.listings.proofs.write.listing_of.Goals as goal

pub returns : goal.returns
returns g c =
    let file = c.args.file.now in
    IfOk-weaker c.finish.result (λ v. (c.put.new.self.is_cut ≡ false) × (v.items ≡ c.put.new.self.bytes)) (λ v. IsListed file v.items)
    (λ v is.
    let e2 = c.put.ensures is.0 in
    let e1 = c.put_before_end.ensures e2.0 in
    let ls = e1.1.0 in
    let before : IsBeforeEnd file ls =
    subst (λ (rs : List Reloc). IsBeforeEnd (record file { text_reloc = file.text_reloc; data_reloc = rs }) ls) c.data_reloc.ensures.value
    (subst (λ (rs : List Reloc). IsBeforeEnd (record file { text_reloc = rs; data_reloc = c.data_reloc.result.now }) ls)
    c.text_reloc.ensures.value e1.1.1) in (
      ls ++ codes "end" ∷ [],
      (ls, before, refl),
      listed_bytes c.new-text.result.bytes c.put_before_end.new.text.bytes c.put.new.self.bytes v.items ls
          (ap (λ (t : Written). t.bytes) c.new-text.ensures) e1.1.2 e2.1 is.1,
    )) c.finish.ensures.bytes
