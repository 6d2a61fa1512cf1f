use Rattle.record.proofs.FirstBytes.{first_byte_begins}
use Rattle.record.proofs.sound.Record.fields.Goals as goal

pub returns-clause-begins : goal.returns-clause-begins
returns-clause-begins c = first_byte_begins
