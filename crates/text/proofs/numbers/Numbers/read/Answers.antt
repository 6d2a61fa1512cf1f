use Rattle.std.proofs.Common.{sym, ◌∙◌}
use Rattle.text.proofs.Filling.{read_ok}
use Rattle.text.proofs.numbers.Numbers.read.Goals as goal

pub loop-place-preserved : goal.loop-place-preserved
loop-place-preserved c =
    let s = c.loop-place in
    read_ok s.all s.last c.args.line.now s.place s.at (c.in_ok-number.number, c.in_ok-number.end) c.loop-place-test.true (sym c.in_ok-number.ensures) ∙ s.invariant
