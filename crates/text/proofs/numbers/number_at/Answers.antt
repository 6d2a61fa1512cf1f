use Rattle.std.proofs.Common.{sym, ap, ◌∙◌}
use Rattle.std.proofs.lemmas.List.{take_rest}
use Rattle.text.specs.Line.{piece_of}
use Rattle.text.proofs.Pieces.{placed_some, placed_none}
use Rattle.text.proofs.numbers.number_at.Goals as goal

pub returns-in_err-number : goal.returns-in_err-number
returns-in_err-number c =
    let rest = take_rest c.args.line.now c.args.from in
    c.from_residual.ensures ∙ placed_none c.args.line.now c.args.from (sym c.in_err-number.was ∙ c.piece.ensures.value ∙ ap piece_of rest)

pub returns : goal.returns
returns c =
    let rest = take_rest c.args.line.now c.args.from in
    placed_some c.args.line.now c.args.from c.in_ok-number.number c.in_ok-number.len (sym c.in_ok-number.was ∙ c.piece.ensures.value ∙ ap piece_of rest)
