use Rattle.std.proofs.Common.{◌≡◌, ℕ, Bool, true, false, cond, eqb, length, ap, arith}
use Rattle.words.specs.declared.faults.Layer.TheVariants.{Frame}
use Rattle.words.specs.Answers.{gives, refuses}
use Rattle.frames.specs.Answers.{all_ones}
use Rattle.frames.specs.Frame.{heard}
use Rattle.frames.specs.Content.{Listed, listed, pair_in}
use Rattle.reception.proofs.arrived.Arrived.taken.Goals as goal

-- of two refusals and a value only the value is given
given : (long ones : Bool) (n : ℕ) (x y : Listed)
    → gives x ≡ cond long (cond ones (refuses 4 0 Frame) (gives y)) (refuses 3 n Frame) → x ≡ y
given true true n x y e = let z : ◌≡◌ {A = ℕ} 0 1 = cc in absurd (omega arith)
given true false n x y e = cc
given false ones n x y e = let z : ◌≡◌ {A = ℕ} 0 1 = cc in absurd (omega arith)

pub returns : goal.returns
returns c =
    let o = c.args.octets.now in
    let answer = c.in_ok-frame.ensures.answer in
    record {
      answer = answer;
      carried = ap (λ (l : Listed). (false, l)) (given (eqb (length o) 80) (all_ones o) (length o) (listed (pair_in c.in_ok-frame.frame)) (listed (heard o)) answer);
    }
