use Rattle.std.specs.Prelude.{ℕ, Some, None, Option, fold}
use Rattle.record.specs.Classes.{op_places}
use Rattle.record.specs.declared.imm.ImmShape.{ImmShape}
use Rattle.record.specs.declared.imm.ImmShape.TheVariants as Imm
use Rattle.record.specs.declared.op.Op.{Op}
use Rattle.record.specs.declared.op.Op.TheVariants.{ModRmRm, ModRmRmMemOnly, Vsib, O, ModRmReg, RegEmbed8, Reg, Hx, Ib, Id, Iq, J}
use Rattle.record.specs.declared.op.Operands.{Operands}

-- where nothing stands before, x; else no list of immediates
abbrev pub imm_first : ImmShape → ImmShape → ImmShape
imm_first Imm.Nothing x = x
imm_first Imm.Ib x = Imm.Wrong
imm_first Imm.IbIb x = Imm.Wrong
imm_first Imm.Id x = Imm.Wrong
imm_first Imm.Iq x = Imm.Wrong
imm_first (Imm.J s) x = Imm.Wrong
imm_first Imm.Wrong x = Imm.Wrong

-- an immediate byte comes first, or second after another
abbrev pub imm_byte : ImmShape → ImmShape
imm_byte Imm.Nothing = Imm.Ib
imm_byte Imm.Ib = Imm.IbIb
imm_byte Imm.IbIb = Imm.Wrong
imm_byte Imm.Id = Imm.Wrong
imm_byte Imm.Iq = Imm.Wrong
imm_byte (Imm.J s) = Imm.Wrong
imm_byte Imm.Wrong = Imm.Wrong

-- the immediates so far, with one operand more
abbrev pub imm_after : ImmShape → Option Op → ImmShape
imm_after x (Some (ModRmRm r)) = x
imm_after x (Some (ModRmRmMemOnly must)) = x
imm_after x (Some (Vsib r)) = x
imm_after x (Some O) = x
imm_after x (Some (ModRmReg r)) = x
imm_after x (Some (RegEmbed8 r)) = x
imm_after x (Some (Reg n)) = x
imm_after x (Some (Hx r)) = x
imm_after x (Some (Ib k)) = imm_byte x
imm_after x (Some (Id k)) = imm_first x Imm.Id
imm_after x (Some Iq) = imm_first x Imm.Iq
imm_after x (Some (J k s)) = imm_first x (Imm.J s)
imm_after x None = x

-- the immediate operands taken together
abbrev pub imm_shape : Operands → ImmShape
imm_shape x = fold imm_after Imm.Nothing (op_places x)

-- how many bytes the immediates take
abbrev pub imm_count : ImmShape → ℕ
imm_count Imm.Nothing = 0
imm_count Imm.Ib = 1
imm_count Imm.IbIb = 2
imm_count Imm.Id = 4
imm_count Imm.Iq = 8
imm_count (Imm.J s) = s
imm_count Imm.Wrong = 0
