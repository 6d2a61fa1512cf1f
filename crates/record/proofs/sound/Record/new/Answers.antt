use Rattle.record.proofs.Made.{made_judged}
use Rattle.record.proofs.sound.Record.new.Goals as goal

pub returns : goal.returns
returns c = made_judged c.args.raw c.judged.result c.judged.ensures
