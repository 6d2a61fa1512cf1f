use Rattle.std.proofs.Common.{rules, ◌≡◌, sym, ◌∙◌}
use Rattle.std.proofs.lemmas.List.{take_rest}
use Rattle.std.specs.Prelude.{slice_index}
use Rattle.text.proofs.Pieces.{minus_some, minus_none, plain_piece, empty_piece}
use Rattle.text.proofs.numbers.piece.Goals as goal

pub returns-in-empty-clause-value : goal.returns-in-empty-clause-value
returns-in-empty-clause-value c = empty_piece c.args.text.now c.in-empty.len_below

pub returns-in_err-number-in-45-clause-value : goal.returns-in_err-number-in-45-clause-value
returns-in_err-number-in-45-clause-value c =
    let minus : slice_index c.args.text.now 0 ≡ 45 = search rules in
    c.from_residual.ensures ∙ minus_none c.args.text.now _ c.in-45.len_at_least minus (take_rest c.args.text.now 1) (sym c.in_err-number-in-45.was ∙ c.signed_before.ensures.value)

pub returns-in_ok-number-in-45-clause-value : goal.returns-in_ok-number-in-45-clause-value
returns-in_ok-number-in-45-clause-value c =
    let minus : slice_index c.args.text.now 0 ≡ 45 = search rules in
    minus_some c.args.text.now _ c.in-45.len_at_least minus (take_rest c.args.text.now 1) c.in_ok-number-in-45.number c.in_ok-number-in-45.len (sym c.in_ok-number-in-45.was ∙ c.signed_before.ensures.value)

pub returns-in-len1-up-clause-value : goal.returns-in-len1-up-clause-value
returns-in-len1-up-clause-value c =
    let other : slice_index c.args.text.now 0 ≡ 45 → ⊥ = search rules in
    c.signed_before-in-len1-up.ensures.value ∙ plain_piece c.args.text.now other
