use Rattle.std.proofs.Common.{◌∙◌, arith, length-set}
use Rattle.encoder.proofs.Tail.{tail_push}
use Rattle.encoder.proofs.line.Line.push.Goals as goal

pub invariant_of-self : goal.invariant_of-self
invariant_of-self c =
    let l = c.args.self.now in
    record { fits = omega arith; size = length-set l.bytes l.count c.args.b ∙ l.size; tail = tail_push l.bytes l.count c.args.b l.tail }
