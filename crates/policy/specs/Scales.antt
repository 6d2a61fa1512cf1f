-- A sound record's scales are powers of two of at most 64.
use Rattle.std.specs.Prelude.{◌≡◌, ℕ, ◌^◌, ◌<◌, ◌≤◌, Bool, true, false, count_ones}
use Rattle.std.proofs.Common.{arith, pow_pos}
use Rattle.std.specs.Int.Count.{count_trailing_zeros}
use Rattle.std.proofs.lemmas.Bool.{and_parts}
use Rattle.std.proofs.lemmas.Bool.Decides.{nat_tests}
use Rattle.record.specs.declared.sound.Record.{Record}
use Rattle.record.specs.Rules.{scale_known, scales_known, code_known, groups_known}
use Rattle.record.proofs.Soundness.{rules_kept}
use Rattle.policy.specs.Meanings.{scale_of}
use Rattle.policy.specs.OneBit.{one_bit}

-- a sound record's scale, under either flag, is one that the rules know
pub scale_sound : (x : Record) (broadcast : Bool) → scale_known (scale_of x broadcast) ≡ true
scale_sound x broadcast =
    let r = x.raw in
    let behind = (and_parts (code_known r) _ (rules_kept x).fields).1 in
    let scales = (and_parts (scales_known r) _ (and_parts (groups_known r) _ behind).1).0 in
    let each = and_parts (scale_known r.n) (scale_known r.nb) scales in
    elim broadcast as (λ b. scale_known (scale_of x b) ≡ true) [ true ↦ each.1 | false ↦ each.0 ]

pub scale_small : (n : ℕ) → scale_known n ≡ true → n ≤ 64
scale_small n e = grind (arith, nat_tests)

scale_one : (n : ℕ) → scale_known n ≡ true → count_ones n ≡ 1
scale_one n e = grind (arith, nat_tests)

-- a scale is two to the place of its one bit
pub scale_power : (n : ℕ) → scale_known n ≡ true → (2 ^ count_trailing_zeros 8 n ≡ n) × (count_trailing_zeros 8 n < 8)
scale_power n e = let small = scale_small n e in one_bit 8 n (omega arith) (scale_one n e)

pub scale_pos : (n : ℕ) → scale_known n ≡ true → 0 < n
scale_pos n e = let p = (scale_power n e).0 in let q = pow_pos (count_trailing_zeros 8 n) in omega arith
