-- The address of a name, if it is in text.
use Rattle.std.specs.Prelude.{ℕ, cond, eqb, List, Option, Some, None, slice_get}
use Rattle.link_out.specs.function.Finals.{Final, type_of}

abbrev pub text_address : Option Final → Option ℕ
text_address None = None
text_address (Some f) = cond (eqb (type_of f.bound) 0o42) (Some f.address) None

-- of the name with this index, if it has one
abbrev pub text_address_at : List Final → Option ℕ → Option ℕ
text_address_at names None = None
text_address_at names (Some i) = text_address (slice_get names i)
