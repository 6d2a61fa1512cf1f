-- What a signed byte stands for.
use Rattle.std.specs.Prelude.{ℕ, Bool, cond, ℤ, pos, ◌*ℤ◌}
use Rattle.record.specs.declared.sound.Record.{Record}
use Rattle.record.specs.Rules.{is_evex}

-- the scale of a record: N, and Nb under broadcast
abbrev pub scale_of : Record → Bool → ℕ
scale_of x broadcast = cond broadcast x.raw.nb x.raw.n

-- the byte itself
abbrev pub plain_spread : ℤ → ℤ
plain_spread byte = byte

-- the byte times the scale
abbrev pub scaled_spread : ℕ → ℤ → ℤ
scaled_spread scale byte = byte *ℤ pos scale

-- the byte times the scale for EVEX records, the byte itself for the rest
abbrev pub port_spread : Record → Bool → ℤ → ℤ
port_spread x broadcast = cond (is_evex x.raw.head) (scaled_spread (scale_of x broadcast)) plain_spread
