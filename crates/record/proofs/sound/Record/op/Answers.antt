use Rattle.record.proofs.Owners.{slots_owned_once}
use Rattle.record.proofs.sound.Record.op.Goals as goal

pub returns-clause-once : goal.returns-clause-once
returns-clause-once c = slots_owned_once
