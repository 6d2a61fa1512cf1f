-- 8-bit registers are written by numbers and read back.
use Rattle.std.proofs.Common.{true, false, arith}
use Rattle.std.proofs.lemmas.Bool.Decides.{nat_tests}
use Rattle.machine.specs.Bytes.{ByteThere, ByteBack}

pub byte_there : ByteThere
byte_there n true l h r g = (grind (arith, nat_tests), grind (arith, nat_tests))
byte_there n false l h r g = (grind (arith, nat_tests), grind (arith, nat_tests))

pub byte_back : ByteBack
byte_back k true h = (grind (arith, nat_tests), grind (arith, nat_tests), grind (arith, nat_tests), λ e. grind (arith, nat_tests), λ e. grind (arith, nat_tests))
byte_back k false h = (grind (arith, nat_tests), grind (arith, nat_tests), grind (arith, nat_tests), λ e. grind (arith, nat_tests), λ e. grind (arith, nat_tests))
