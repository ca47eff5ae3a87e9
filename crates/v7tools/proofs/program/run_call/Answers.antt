use Rattle.std.proofs.Common.{refl}
use Rattle.v7tools.proofs.program.run_call.Goals as goal

pub returns-in-Ld-clause-run : goal.returns-in-Ld-clause-run
returns-in-Ld-clause-run g c = rw c.in-Ld.is c.link_files.ensures.run

pub returns-in-Nm-clause-run : goal.returns-in-Nm-clause-run
returns-in-Nm-clause-run g c = rw c.in-Nm.is c.list_files.ensures.run

pub returns-in-Size-clause-run : goal.returns-in-Size-clause-run
returns-in-Size-clause-run g c = rw c.in-Size.is c.size_files.ensures.run

pub returns-in-Strip-clause-run : goal.returns-in-Strip-clause-run
returns-in-Strip-clause-run g c = rw c.in-Strip.is (c.strip_files.ensures, refl)

pub returns-in-Session-clause-run : goal.returns-in-Session-clause-run
returns-in-Session-clause-run g c = rw c.in-Session.is c.answer_script.ensures.run
