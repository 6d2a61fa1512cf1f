use Rattle.worked.proofs.Computed.{examples_come_out}
use Rattle.worked.proofs.worked_examples.Goals as goal

pub returns-clause-stand : goal.returns-clause-stand
returns-clause-stand c = examples_come_out
