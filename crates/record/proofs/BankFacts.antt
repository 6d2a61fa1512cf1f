-- What a range that its rule allows says of its ends.
use Rattle.std.proofs.Common.{◌≡◌, ℕ, ◌+◌, ◌≤◌, Bool, true, false, not, ◌&&◌, ◌||◌, refl, arith}
use Rattle.std.proofs.lemmas.Bool.Decides.{nat_tests}
use Rattle.record.specs.declared.head.Head.{Head}
use Rattle.record.specs.declared.op.RegisterRange.{RegisterRange}
use Rattle.record.specs.Rules.{is_legacy, is_evex, range_bytes, range_plain, range_vector16, range_vector32}
use Rattle.record.specs.Facts.{BankFacts, BanksKnown}

bytes_run : (r : RegisterRange) → range_bytes r ≡ true → (r.lo ≡ 1) × (r.hi ≡ 20)
bytes_run r e = (grind (arith, nat_tests), grind (arith, nat_tests))

-- a run of at most k + 1 registers, none of the 8-bit bank
abbrev Run : ℕ → RegisterRange → Type 0
Run k r = (21 ≤ r.lo) × (r.lo ≤ r.hi) × (r.hi ≤ r.lo + k) × (r.hi ≤ 180)

plain_run : (r : RegisterRange) → range_plain r ≡ true → Run 15 r
plain_run r e = (grind (arith, nat_tests), grind (arith, nat_tests), grind (arith, nat_tests), grind (arith, nat_tests))

low_run : (r : RegisterRange) → range_vector16 r ≡ true → Run 15 r
low_run r e = (grind (arith, nat_tests), grind (arith, nat_tests), grind (arith, nat_tests), grind (arith, nat_tests))

all_run : (r : RegisterRange) → range_vector32 r ≡ true → Run 31 r
all_run r e = (grind (arith, nat_tests), grind (arith, nat_tests), grind (arith, nat_tests), grind (arith, nat_tests))

evex_only : (v m : Bool) → (v && not m) ≡ true → v ≡ false → ⊥
evex_only true m e f = grind arith
evex_only false m e f = grind arith

never_embedded : (v m : Bool) → (v && not m) ≡ true → m ≡ true → ⊥
never_embedded true true e f = grind arith
never_embedded true false e f = grind arith
never_embedded false m e f = grind arith

-- a run of 16 says all that a range has to say
of_16 : (h : Head) (m : Bool) (r : RegisterRange) → Run 15 r → BankFacts h m r
of_16 h m r s = record { begins = omega (arith, s.0); ends = s.3; forward = s.1; bytes = λ n. absurd (omega (arith, s.0)); all = λ _. omega (arith, s.2); old = λ _ _. s.2; low = λ _ _. s.2 }

of_32 : (h : Head) (m : Bool) (r : RegisterRange) → Run 31 r → (is_evex h && not m) ≡ true → BankFacts h m r
of_32 h m r s e = record { begins = omega (arith, s.0); ends = s.3; forward = s.1; bytes = λ n. absurd (omega (arith, s.0)); all = λ _. s.2; old = λ v _. absurd (evex_only (is_evex h) m e v); low = λ f _. absurd (never_embedded (is_evex h) m e f) }

of_bytes : (h : Head) (m : Bool) (r : RegisterRange) → r.lo ≡ 1 → r.hi ≡ 20 → is_legacy h ≡ true → BankFacts h m r
of_bytes h m r l s g = record { begins = omega arith; ends = omega arith; forward = omega arith; bytes = λ _. (s, g); all = λ n. absurd (n l); old = λ _ n. absurd (n l); low = λ _ n. absurd (n l) }

-- the tests one after the other: the 8-bit bank in a legacy record, else a bank of the others
tested : (h : Head) (m : Bool) (r : RegisterRange) (a g b c d v : Bool) → range_bytes r ≡ a → is_legacy h ≡ g → range_plain r ≡ b → range_vector16 r ≡ c → range_vector32 r ≡ d → (is_evex h && not m) ≡ v → ((a && g) || (b || (c || (d && v)))) ≡ true → BankFacts h m r
tested h m r true true b c d v ea eg eb ec ed ev e = of_bytes h m r (bytes_run r ea).0 (bytes_run r ea).1 eg
tested h m r true false true c d v ea eg eb ec ed ev e = of_16 h m r (plain_run r eb)
tested h m r true false false true d v ea eg eb ec ed ev e = of_16 h m r (low_run r ec)
tested h m r true false false false true true ea eg eb ec ed ev e = of_32 h m r (all_run r ed) ev
tested h m r true false false false true false ea eg eb ec ed ev e = grind arith
tested h m r true false false false false v ea eg eb ec ed ev e = grind arith
tested h m r false g true c d v ea eg eb ec ed ev e = of_16 h m r (plain_run r eb)
tested h m r false g false true d v ea eg eb ec ed ev e = of_16 h m r (low_run r ec)
tested h m r false g false false true true ea eg eb ec ed ev e = of_32 h m r (all_run r ed) ev
tested h m r false g false false true false ea eg eb ec ed ev e = grind arith
tested h m r false g false false false v ea eg eb ec ed ev e = grind arith

pub banks_known : BanksKnown
banks_known h m r e = tested h m r (range_bytes r) (is_legacy h) (range_plain r) (range_vector16 r) (range_vector32 r) (is_evex h && not m) refl refl refl refl refl refl e
