use Rattle.std.proofs.Common.{◌≡◌, ◌+◌, ◌*◌, ◌^◌, ◌<◌, ◌≤◌, Some, None, get_or, drop, ap, ◌∙◌, arith}
use Rattle.std.specs.Char.{digit_value}
use Rattle.numerals.proofs.Before.{scan, scanned, at_end, at_stop, at_other, at_large, goes_on}
use Rattle.numerals.proofs.number_before.Goals as goal

pub returns-then-byte-end : goal.returns-then-byte-end
returns-then-byte-end c =
    let l = c.loop-byte in
    let stop = at_stop c.args.text.now c.base-base.result c.args.end l.sum l.count l.byte-index c.loop-byte-test.true c.if-byte-end.true in
    c.written.ensures ∙ scanned c.args.radix c.args.text.now c.base-base.result c.args.end c.base-base.ensures (Some (l.sum, l.count)) (stop ∙ l.invariant.scanned)

pub returns-in_err-digit : goal.returns-in_err-digit
returns-in_err-digit c =
    let l = c.loop-byte in
    let no : c.base-base.result ≤ digit_value (get_or c.args.text.now l.byte-index 0) = grind (arith, c.in_err-digit.ensures) in
    let none = at_other c.args.text.now c.base-base.result c.args.end l.sum l.count l.byte-index c.loop-byte-test.true c.if-byte-end.false no in
    c.from_residual.ensures ∙ scanned c.args.radix c.args.text.now c.base-base.result c.args.end c.base-base.ensures None (none ∙ l.invariant.scanned)

pub returns-in_err-checked_mul : goal.returns-in_err-checked_mul
returns-in_err-checked_mul c =
    let l = c.loop-byte in
    let over : 2 ^ 64 ≤ l.sum * c.base-base.result + digit_value (get_or c.args.text.now l.byte-index 0) = grind (arith, c.in_err-checked_mul.ensures) in
    let none = at_large c.args.text.now c.base-base.result c.args.end l.sum l.count l.byte-index c.loop-byte-test.true c.if-byte-end.false over in
    c.from_residual-in_err-checked_mul.ensures ∙ scanned c.args.radix c.args.text.now c.base-base.result c.args.end c.base-base.ensures None (none ∙ l.invariant.scanned)

pub returns-in_err-sum : goal.returns-in_err-sum
returns-in_err-sum c =
    let l = c.loop-byte in
    let over : 2 ^ 64 ≤ l.sum * c.base-base.result + digit_value (get_or c.args.text.now l.byte-index 0) = grind (arith, c.in_err-sum.ensures, c.in_ok-checked_mul.ensures, c.in_ok-digit.ensures.value) in
    let none = at_large c.args.text.now c.base-base.result c.args.end l.sum l.count l.byte-index c.loop-byte-test.true c.if-byte-end.false over in
    c.from_residual-in_err-sum.ensures ∙ scanned c.args.radix c.args.text.now c.base-base.result c.args.end c.base-base.ensures None (none ∙ l.invariant.scanned)

pub loop-byte-preserved : goal.loop-byte-preserved
loop-byte-preserved c =
    let l = c.loop-byte in
    let d = digit_value (get_or c.args.text.now l.byte-index 0) in
    let is : c.in_ok-sum.sum ≡ l.sum * c.base-base.result + d = grind (arith, c.in_ok-sum.ensures, c.in_ok-checked_mul.ensures, c.in_ok-digit.ensures.value) in
    let digit : d < c.base-base.result = grind (arith, c.in_ok-digit.ensures.value) in
    let small : l.sum * c.base-base.result + d < 2 ^ 64 = grind (arith, c.in_ok-sum.ensures, is) in
    record {
      scanned = ap (λ n. scan c.base-base.result c.args.end n (l.count + 1) (drop (l.byte-index + 1) c.args.text.now)) is ∙ goes_on c.args.text.now c.base-base.result c.args.end l.sum l.count l.byte-index c.loop-byte-test.true c.if-byte-end.false digit small ∙ l.invariant.scanned;
      small = grind (arith, is, small);
      counted = ap (λ n. n + 1) l.invariant.counted;
    }

pub returns : goal.returns
returns c =
    let l = c.loop-byte in
    let past = at_end c.args.text.now c.base-base.result c.args.end l.sum l.count l.byte-index c.loop-byte-test.false in
    c.written-2.ensures ∙ scanned c.args.radix c.args.text.now c.base-base.result c.args.end c.base-base.ensures (Some (l.sum, l.count)) (past ∙ l.invariant.scanned)
