-- What is said of a link that is not made.
use Rattle.std.specs.Prelude.{ℕ, List, codes}
use Rattle.link_out.specs.declared.linked.LinkFault.{LinkFault}
use Rattle.link_out.specs.declared.linked.LinkFault.TheVariants.{DoesNotFit, TooManySymbols, SymbolNumber, Memory}

abbrev pub link_text : LinkFault → List ℕ
link_text DoesNotFit = codes "does not fit"
link_text TooManySymbols = codes "too many symbols"
link_text SymbolNumber = codes "symbol number too large"
link_text (Memory _) = codes "no memory"
