use Rattle.laws.proofs.{SameDiskLemmas.same_disk, LinkLineLemmas.link_line, LinkLineLemmas.refused_line}
use Rattle.laws.proofs.commands.session_law.Goals as goal

pub returns-clause-linked : goal.returns-clause-linked
returns-clause-linked g c = link_line _ _

pub returns-clause-refused : goal.returns-clause-refused
returns-clause-refused g c = refused_line _ _

pub returns-clause-disks : goal.returns-clause-disks
returns-clause-disks g c = same_disk
