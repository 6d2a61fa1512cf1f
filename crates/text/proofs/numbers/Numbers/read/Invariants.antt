use Rattle.std.proofs.Common.{◌≡◌, ◌-◌}
use Rattle.text.specs.Line.{read_from, numbers_of}
use Rattle.text.proofs.numbers.Numbers.read.Given as goal

abbrev pub invariant-loop-place : goal.invariant-loop-place
invariant-loop-place l = read_from (61 - l.place) l.all l.place l.last l.line l.at ≡ numbers_of l.line
