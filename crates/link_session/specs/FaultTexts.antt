-- What is said of an object that is not added.
use Rattle.std.specs.Prelude.{ℕ, List, codes}
use Rattle.link_session.specs.declared.entry.AddFault.{AddFault}
use Rattle.link_session.specs.declared.entry.AddFault.TheVariants.{TextFull, DataFull, BssFull, NamesFull, Memory}

abbrev pub add_text : AddFault → List ℕ
add_text TextFull = codes "text full"
add_text DataFull = codes "data full"
add_text BssFull = codes "bss full"
add_text NamesFull = codes "names full"
add_text (Memory _) = codes "no memory"
