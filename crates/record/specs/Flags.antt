use Rattle.std.specs.Prelude.{ℕ, ◌/◌, ◌%◌, Bool, ◌==◌}
use Rattle.record.specs.declared.flags.EncFlags3.{EncFlags3}
use Rattle.record.specs.declared.flags.Flag.{Flag}
use Rattle.record.specs.declared.flags.Flag.TheVariants.{DefaultOpSize64, Fwait, Bit16Or32, Bit64, Broadcast, RoundingControl, SuppressAllExceptions, OpMaskRegister, ZeroingMasking, RequireOpMaskRegister}

-- the weight of a flag in its word
abbrev pub flag_weight : Flag → ℕ
flag_weight DefaultOpSize64 = 0x1000
flag_weight Fwait = 0x8000
flag_weight Bit16Or32 = 0x10000
flag_weight Bit64 = 0x20000
flag_weight Broadcast = 0x4000000
flag_weight RoundingControl = 0x8000000
flag_weight SuppressAllExceptions = 0x10000000
flag_weight OpMaskRegister = 0x20000000
flag_weight ZeroingMasking = 0x40000000
flag_weight RequireOpMaskRegister = 0x80000000

-- whether a word has a flag
abbrev pub has_flag : EncFlags3 → Flag → Bool
has_flag w f = w.bits / flag_weight f % 2 == 1
