use Rattle.std.proofs.Common.{◌≤◌, ◌<◌, ◌^◌, rules, sym, ◌∙◌, arith}
use Rattle.machine.proofs.Named.{placed, name_back}
use Rattle.machine.proofs.names.number_of.Goals as goal

pub returns-in_err-place : goal.returns-in_err-place
returns-in_err-place c = c.from_residual.ensures ∙ c.in_err-place.ensures ∙ placed c.args.name

pub overflow_cast-result : goal.overflow_cast-result
overflow_cast-result c =
    let at = c.in_ok-place.place in
    let known : at ≤ 180 = (name_back c.args.name at (sym (c.in_ok-place.ensures ∙ placed c.args.name))).0 in
    let fits : at < 2 ^ 8 = omega (arith, known) in
    search (rules, fits)

pub returns : goal.returns
returns c = c.in_ok-place.ensures ∙ placed c.args.name
