use Rattle.std.proofs.Common.{append_assoc, refl, arith}
use Rattle.linelog.proofs.Fields.{spread}
use Rattle.linelog.proofs.Numbers.{printed}
use Rattle.linelog.proofs.lines.push_line.Goals as goal

pub returns-clause-written : goal.returns-clause-written
returns-clause-written c =
    rw (
      c.push-2.ensures.ascii (omega arith),
      c.push_str-2.ensures.bytes,
      c.format.ensures.text,
      c.push_number-4.ensures.written,
      c.push.ensures.ascii (omega arith),
      c.push_str.ensures.bytes,
      c.word.ensures,
      c.push_ranges.ensures.written,
      c.push_number-3.ensures.written,
      c.push_number-2.ensures.written,
      c.push_number.ensures.written,
      spread,
      ← printed c.args.number.circuit (omega arith),
      ← printed c.args.number.pair (omega arith),
      ← printed c.args.block_number (omega arith),
      ← c.number.ensures,
      ← printed c.number.result (omega arith),
      ← c.sound_samples.ensures,
      ← printed c.sound_samples.result (omega arith),
    ) (simp append_assoc refl)
