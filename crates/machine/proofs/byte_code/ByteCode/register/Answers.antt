use Rattle.std.proofs.Common.{◌≡◌, true, ltb, None, sym, ap, ◌∙◌, lt-ltb}
use Rattle.std.proofs.lemmas.Bool.{cond-true}
use Rattle.machine.specs.Bytes.{byte_register}
use Rattle.machine.specs.Registers.{register_of}
use Rattle.machine.proofs.ByteCodes.{byte_back}
use Rattle.machine.proofs.byte_code.ByteCode.register.Goals as goal

pub returns : goal.returns
returns c =
    let k = c.args.number in
    let inside : ltb k 16 ≡ true = lt-ltb k 16 c.if-number-ge16.false in
    record {
      value = c.new.ensures.value ∙ ap register_of c.register_number.ensures ∙ sym (cond-true (ltb k 16) (register_of (byte_register k c.args.rex)) None inside);
      back = byte_back;
    }
