use Rattle.laws.proofs.ReachedInstructionLemmas.{reached_instructions_kept, sure_places_begin}
use Rattle.laws.proofs.links.reached_instruction_law.Goals as goal

pub returns-clause-reached : goal.returns-clause-reached
returns-clause-reached c = reached_instructions_kept

pub returns-clause-sure : goal.returns-clause-sure
returns-clause-sure c = sure_places_begin
