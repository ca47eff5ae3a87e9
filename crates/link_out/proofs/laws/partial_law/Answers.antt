use Rattle.link_out.proofs.partial_links.PartialTheorem.{relocatable_is_object, partial_replaces_alone, partial_replaces_among}
use Rattle.link_out.proofs.laws.partial_law.Goals as goal

pub returns-clause-object : goal.returns-clause-object
returns-clause-object c = relocatable_is_object

pub returns-clause-alone : goal.returns-clause-alone
returns-clause-alone c = partial_replaces_alone

pub returns-clause-among : goal.returns-clause-among
returns-clause-among c = partial_replaces_among
