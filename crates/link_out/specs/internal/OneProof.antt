-- That a session keeps objects has one proof at most, as a ghost field wants of its fact.
use Rattle.std.specs.{Prelude.◌≡◌, Prelude.◌*◌, Prelude.List, Prelude.length, Prelude.IsTrue, List.AllByRecursion, List.AllByRecursion-prop}
use Rattle.std.proofs.Props.{props}
use Rattle.aout_core.specs.{Contents.{Contents, Fits, is_magic, has_whole_sizes, with_relocation}, WellFormed.IsWellFormed}
use Rattle.link_session.specs.Sessions.{IsObject}

Fits-prop : (c : Contents) → IsProp (Fits c)
Fits-prop c x y =
    let magic : IsProp (IsTrue (is_magic c.header.magic)) = hlevel props in
    let sizes : IsProp (IsTrue (has_whole_sizes c.header)) = hlevel props in
    let text : IsProp (2 * length c.text_words ≡ c.header.text_size) = hlevel props in
    let datas : IsProp (2 * length c.data_words ≡ c.header.data_size) = hlevel props in
    let text_relocation : IsProp (2 * length c.text_reloc ≡ with_relocation c.header c.header.text_size) = hlevel props in
    let data_relocation : IsProp (2 * length c.data_reloc ≡ with_relocation c.header c.header.data_size) = hlevel props in
    let table : IsProp (12 * length c.symbols ≡ c.header.symbol_size) = hlevel props in
    λ i. record {
      magic = magic x.magic y.magic i;
      sizes = sizes x.sizes y.sizes i;
      text = text x.text y.text i;
      «data» = datas x.data y.data i;
      text_relocation = text_relocation x.text_relocation y.text_relocation i;
      data_relocation = data_relocation x.data_relocation y.data_relocation i;
      table = table x.table y.table i;
    }

IsObject-prop : (c : Contents) → IsProp (IsObject c)
IsObject-prop c x y =
    let well : IsProp (IsWellFormed c) = hlevel props in
    λ i. record { fits = Fits-prop c x.fits y.fits i; well = well x.well y.well i }

pub objects-prop : (os : List Contents) → IsProp (AllByRecursion IsObject os)
objects-prop os = AllByRecursion-prop IsObject IsObject-prop os
