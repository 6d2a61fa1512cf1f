use Rattle.std.proofs.Common.{◌≡◌, ◌^◌, ◌<◌, drop}
use Rattle.numerals.proofs.Before.{scan}
use Rattle.numerals.proofs.number_before.Given as goal

abbrev pub invariant-loop-byte : goal.invariant-loop-byte
invariant-loop-byte l = record {
  scanned : scan l.base l.end l.sum l.count (drop l.byte-index l.text) ≡ scan l.base l.end 0 0 l.text;
  small : l.sum < 2 ^ 64;
  counted : l.count ≡ l.byte-index;
}
