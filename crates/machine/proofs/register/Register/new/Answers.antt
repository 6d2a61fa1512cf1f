use Rattle.machine.specs.Registered.{register_known, register_found, register_back}
use Rattle.machine.proofs.register.Register.new.Goals as goal

pub returns : goal.returns
returns c = record { value = register_known c.args.number c.known.result c.known.ensures; there = register_found; back = register_back }
