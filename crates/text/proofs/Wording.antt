-- How the words of a row go on and end.
use Rattle.std.proofs.Common.{◌≡◌, ℕ, zero, suc, ◌+◌, ◌<◌, ◌≤◌, cond, List, length, Ok, Err, Result, sym, refl, ap, ◌∙◌, arith, le-leb}
use Rattle.std.proofs.lemmas.Bool.{lt-leb}
use Rattle.std.specs.Prelude.{slice_range}
use Rattle.text.specs.declared.draft.Draft.{Draft}
use Rattle.text.specs.declared.row_fault.RowFault.{RowFault}
use Rattle.text.specs.Drafts.{step_of}
use Rattle.text.specs.Rows.{carry, words_from}
use Rattle.text.specs.Words.{word_begin, word_end}

module _ (d : Draft) (l : List ℕ) (at : ℕ) (inside : at < length l) where
  rest : ℕ → Draft → Result Draft RowFault
  rest n e = words_from n e l (word_begin l (word_end l at))

  here : Result Draft RowFault
  here = step_of d (slice_range l at (word_end l at)) record { from = at; to = word_end l at }

  one_more : (n : ℕ) → words_from (suc n) d l at ≡ carry here (rest n)
  unfolding words_from rest here
  one_more n = ap (λ t. cond t (Ok d) (carry (step_of d (slice_range l at (word_end l at)) record { from = at; to = word_end l at }) (λ e. words_from n e l (word_begin l (word_end l at))))) (lt-leb (length l) at inside)

  module _ (to next : ℕ) (at_end : to ≡ word_end l at) (then : next ≡ word_begin l to) (moves : at < next) where
    pub word_ok : (n : ℕ) (e : Draft) → length l ≤ at + n → step_of d (slice_range l at to) record { from = at; to = to } ≡ Ok e → (m : ℕ) × (length l ≤ next + m) × (words_from m e l next ≡ words_from n d l at)
    unfolding rest here
    word_ok zero e room s = let no : ⊥ = omega arith in elim no [ ]
    word_ok (suc m) e room s = (
      m,
      omega arith,
      sym (one_more m ∙ ap (λ r. carry r (rest m)) (sym (ap (λ k. step_of d (slice_range l at k) record { from = at; to = k }) at_end) ∙ s) ∙ sym (ap (words_from m e l) (then ∙ ap (word_begin l) at_end))),
    )

  pub word_err : (n to : ℕ) (f : RowFault) → to ≡ word_end l at → length l ≤ at + n → step_of d (slice_range l at to) record { from = at; to = to } ≡ Err f → words_from n d l at ≡ Err f
  unfolding rest here
  word_err zero to f at_end room s = let no : ⊥ = omega arith in elim no [ ]
  word_err (suc m) to f at_end room s = one_more m ∙ ap (λ r. carry r (rest m)) (sym (ap (λ k. step_of d (slice_range l at k) record { from = at; to = k }) at_end) ∙ s)

pub words_end : (d : Draft) (l : List ℕ) (at n : ℕ) → length l ≤ at → words_from n d l at ≡ Ok d
unfolding words_from
words_end d l at zero past = refl
words_end d l at (suc n) past = rw (le-leb (length l) at past)
