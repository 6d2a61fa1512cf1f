use Rattle.std.proofs.Common.{◌≡◌, ◌+◌, ◌-◌, ◌++◌, length, ap, ◌∙◌, arith}
use Rattle.std.proofs.lemmas.Slice.{take-put_mid}
use Rattle.encoder.specs.Lines.{used}
use Rattle.encoder.proofs.Tail.{size_part, tail_part}
use Rattle.encoder.proofs.line.Line.push_all.Goals as goal

pub invariant_of-self : goal.invariant_of-self
invariant_of-self c =
    let l = c.args.self.now in
    let k = length c.args.bytes.now in
    let long : length c.copy_from_slice.new.self ≡ l.count + k - l.count = omega (arith, ap length c.copy_from_slice.ensures.after) in
    record {
      fits = omega arith;
      size = size_part l.bytes _ l.count _ (omega (arith, l.size)) long ∙ l.size;
      tail = tail_part l.bytes _ l.count _ _ (omega (arith, l.fits, l.size)) long (omega arith) l.tail;
    }

pub returns-clause-bytes : goal.returns-clause-bytes
unfolding used
returns-clause-bytes c =
    let l = c.args.self.now in
    let k = length c.args.bytes.now in
    let long : l.count + k ≡ l.count + length c.copy_from_slice.new.self = omega (arith, ap length c.copy_from_slice.ensures.after) in
    take-put_mid l.count (l.count + k - l.count) l.bytes _ _ long (omega (arith, l.fits, l.size)) ∙ ap (λ x. used l ++ x) c.copy_from_slice.ensures.after
