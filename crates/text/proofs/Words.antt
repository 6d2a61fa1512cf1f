-- A word is a text where its length and its bytes are.
use Rattle.std.proofs.Common.{◌≡◌, ℕ, suc, List, [], ◌∷◌, length, refl, ap, subst}
use Rattle.std.proofs.lemmas.Bool.Decides.{Decides-like}
use Rattle.std.proofs.lemmas.Slice.Eq.{HasBytesAt, bytes_eq-Decides, text_from_reads}
use Rattle.std.specs.Bool.{Decides}
use Rattle.std.specs.Str.{bytes_eq}

further : (b : ℕ) (w : List ℕ) (i : ℕ) (p : List ℕ) → HasBytesAt w i p → HasBytesAt (b ∷ w) (suc i) p
further b w i [] h = tt
further b w i (c ∷ p) h = (h.0, further b w (suc i) p h.1)

own_bytes : (w : List ℕ) → HasBytesAt w 0 w
own_bytes [] = tt
own_bytes (c ∷ w) = (refl, further c w 0 w (own_bytes w))

pub word_decides : (w p : List ℕ) → Decides (bytes_eq w p) ((length w ≡ length p) × HasBytesAt w 0 p)
word_decides w p =
    let P : List ℕ → Type 0 = λ v. HasBytesAt w 0 v in
    Decides-like (bytes_eq w p) (λ e. (ap length e, subst P e (own_bytes w))) (λ h. text_from_reads w p h.0 h.1) (bytes_eq-Decides w p)
