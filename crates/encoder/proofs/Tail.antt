-- Zeros stay behind the bytes used.
use Rattle.std.proofs.Common.{◌≡◌, ℕ, ◌+◌, ◌-◌, ◌<◌, ◌≤◌, List, length, drop, set, replicate, sym, ap, ◌∙◌, arith}
use Rattle.std.proofs.lemmas.List.{drop-set-lt, drop-drop, drop-replicate, length-drop, length-take-le}
use Rattle.std.proofs.lemmas.Slice.{drop-put_mid}
use borrow.Rule.Slice.PartMut.{put_mid, same_len_mid}

fewer : (l : List ℕ) (n k : ℕ) → drop n l ≡ replicate (31 - n) 0 → drop (n + k) l ≡ replicate (31 - (n + k)) 0
fewer l n k e = sym (drop-drop k n l) ∙ ap (drop k) e ∙ drop-replicate k (31 - n) 0 ∙ ap (λ m. replicate m 0) (omega arith)

pub tail_push : (l : List ℕ) (n b : ℕ) → drop n l ≡ replicate (31 - n) 0 → drop (n + 1) (set l n b) ≡ replicate (31 - (n + 1)) 0
tail_push l n b e =
    let lt : n < n + 1 = omega arith in
    drop-set-lt (n + 1) l n b lt ∙ fewer l n 1 e

pub tail_part : (l bs : List ℕ) (n k m : ℕ) → n ≤ length l → length bs ≡ k → m ≡ n + k → drop n l ≡ replicate (31 - n) 0 → drop m (put_mid n k l bs) ≡ replicate (31 - m) 0
tail_part l bs n k m inside long behind e =
    let upto : n + k ≤ m = omega arith in
    drop-put_mid n k l bs m upto inside long ∙ ap (λ x. drop x l) behind ∙ fewer l n k e ∙ ap (λ x. replicate (31 - x) 0) (sym behind)

pub size_part : (l bs : List ℕ) (n k : ℕ) → n + k ≤ length l → length bs ≡ k → length (put_mid n k l bs) ≡ length l
size_part l bs n k room long = same_len_mid n k l bs (omega (arith, length-take-le k (drop n l) (omega (arith, length-drop n l))))
