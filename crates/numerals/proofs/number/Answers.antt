use Rattle.std.proofs.Common.{◌+◌, ◌*◌, ◌^◌, ◌≤◌, get_or, ◌∙◌, arith}
use Rattle.std.specs.Char.{digit_value}
use Rattle.numerals.proofs.Digits.{too_large, whole}
use Rattle.numerals.proofs.number.Goals as goal

pub returns-in_err-checked_mul : goal.returns-in_err-checked_mul
returns-in_err-checked_mul c =
    let l = c.loop-byte in
    let over : 2 ^ 64 ≤ l.value * c.base-base.result + digit_value (get_or c.args.text.now l.byte-index 0) = grind (arith, c.in_err-checked_mul.ensures) in
    c.from_residual-in_err-checked_mul.ensures ∙ too_large c.args.radix c.args.text.now c.base-base.result l.value l.byte-index c.base-base.ensures l.invariant.value c.loop-byte-test.true over

pub returns-in_err-value : goal.returns-in_err-value
returns-in_err-value c =
    let l = c.loop-byte in
    let over : 2 ^ 64 ≤ l.value * c.base-base.result + digit_value (get_or c.args.text.now l.byte-index 0) = grind (arith, c.in_err-value.ensures, c.in_ok-checked_mul.ensures, c.in_ok-digit.ensures.value) in
    c.from_residual-in_err-value.ensures ∙ too_large c.args.radix c.args.text.now c.base-base.result l.value l.byte-index c.base-base.ensures l.invariant.value c.loop-byte-test.true over

pub returns : goal.returns
returns c =
    let l = c.loop-byte in
    whole c.args.radix c.args.text.now c.base-base.result l.value l.byte-index c.base-base.ensures l.invariant.value c.loop-byte-test.false l.invariant.digits l.invariant.small (grind arith)
