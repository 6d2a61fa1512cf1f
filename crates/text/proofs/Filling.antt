-- How the numbers of a line go on and end.
use Rattle.std.proofs.Common.{◌≡◌, ℕ, suc, ◌+◌, ◌-◌, ◌<◌, ◌≤◌, List, length, set, Ok, Err, Result, sym, ap, ◌∙◌, arith, le-ltb, lt-ltb}
use Rattle.text.specs.declared.case_fault.CaseFault.{CaseFault}
use Rattle.text.specs.declared.case_fault.CaseFault.TheVariants.{TooMany}
use Rattle.text.specs.declared.numbers.Number.{Number}
use Rattle.text.specs.declared.numbers.Numbers.{Numbers}
use Rattle.text.specs.Line.{item_of, after, read_from}

module _ (ns : List Number) (n : Number) (l : List ℕ) (p at : ℕ) where
  pub rest : Number × ℕ → Result Numbers CaseFault
  rest x = read_from (61 - (p + 1)) (set ns p x.0) (p + 1) x.0 l x.1

  one_more : p < 61 → read_from (61 - p) ns p n l at ≡ after (item_of l at p n) rest
  unfolding read_from rest
  one_more h = let more : 61 - p ≡ suc (61 - (p + 1)) = omega arith in ap (λ k. read_from k ns p n l at) more

  pub read_ok : (x : Number × ℕ) → p < 61 → item_of l at p n ≡ Ok x → read_from (61 - (p + 1)) (set ns p x.0) (p + 1) x.0 l x.1 ≡ read_from (61 - p) ns p n l at
  unfolding rest
  read_ok x h e = sym (one_more h ∙ ap (λ r. after r rest) e)

  pub read_err : (f : CaseFault) → p < 61 → item_of l at p n ≡ Err f → read_from (61 - p) ns p n l at ≡ Err f
  read_err f h e = one_more h ∙ ap (λ r. after r rest) e

  pub read_more : 61 ≤ p → at < length l → read_from (61 - p) ns p n l at ≡ Err TooMany
  unfolding read_from
  read_more h t = let none : 61 - p ≡ 0 = omega arith in rw (none, lt-ltb at (length l) t)

  pub read_end : 61 ≤ p → length l ≤ at → read_from (61 - p) ns p n l at ≡ Ok record { all = ns }
  unfolding read_from
  read_end h t = let none : 61 - p ≡ 0 = omega arith in rw (none, le-ltb at (length l) t)
