use Rattle.laws.proofs.{InstructionPlaceLemmas.instructions_there, OperandPlaceLemmas.{operands_there, jumps_arrive}}
use Rattle.laws.proofs.links.instruction_law.Goals as goal

pub returns-clause-instructions : goal.returns-clause-instructions
returns-clause-instructions c = instructions_there

pub returns-clause-operands : goal.returns-clause-operands
returns-clause-operands c = operands_there

pub returns-clause-jumps : goal.returns-clause-jumps
returns-clause-jumps c = jumps_arrive
