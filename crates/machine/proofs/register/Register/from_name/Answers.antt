use Rattle.machine.proofs.Named.{name_back}
use Rattle.machine.proofs.register.Register.from_name.Goals as goal

pub returns-in_err-number_of-clause-back : goal.returns-in_err-number_of-clause-back
returns-in_err-number_of-clause-back c = name_back

pub returns-clause-back : goal.returns-clause-back
returns-clause-back c = name_back
