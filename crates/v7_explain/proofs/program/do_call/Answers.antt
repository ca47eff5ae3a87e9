use Rattle.v7_explain.proofs.AskedLemmas.{call_done}
use Rattle.v7_explain.proofs.program.do_call.Goals as goal

pub returns-in-Store : goal.returns-in-Store
returns-in-Store g c =
    call_done c.args.call _ (g.O.FileSystem.history c.args.file_system.now) (g.O.FileSystem.history c.store_listing.new.file_system) c.store_listing.result
    c.in-Store.is c.store_listing.ensures

pub returns-in-Ask : goal.returns-in-Ask
returns-in-Ask g c =
    call_done c.args.call _ (g.O.FileSystem.history c.args.file_system.now) (g.O.FileSystem.history c.answer_at.new.file_system) c.answer_at.result
    c.in-Ask.is c.answer_at.ensures
