use Rattle.std.proofs.Common.{◌<◌, length, sym, ap, ◌∙◌, arith}
use Rattle.text.specs.Drafts.{read}
use Rattle.text.specs.Rows.{empty_draft, words_from}
use Rattle.text.proofs.Wording.{word_ok}
use Rattle.text.proofs.parsing.drafted.Goals as goal

pub loop-at-init : goal.loop-at-init
loop-at-init c =
    let l = c.args.line.now in
    (length l, omega arith, ap (λ d. words_from (length l) d l c.word_begin-at.result) c.new-draft.ensures ∙ ap (words_from (length l) empty_draft l) c.word_begin-at.ensures.place)

pub loop-at-preserved : goal.loop-at-preserved
loop-at-preserved c =
    let i = c.loop-at.invariant in
    let moves : c.loop-at.at < c.word_begin-at-in-loop-at.result = omega arith in
    let read_on = sym c.step.ensures ∙ ap (λ r. read r c.step.new.self) c.in_ok-step.was in
    let t = word_ok c.loop-at.draft c.args.line.now c.loop-at.at c.loop-at-test.true c.word_end-to.result c.word_begin-at-in-loop-at.result c.word_end-to.ensures.place c.word_begin-at-in-loop-at.ensures.place moves i.0 c.step.new.self i.1 read_on in
    (t.0, t.1, t.2 ∙ i.2)
