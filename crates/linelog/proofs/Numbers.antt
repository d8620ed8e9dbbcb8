-- The decimal numbers of the definitions are those that a program prints.
use Rattle.std.proofs.Common.{◌≡◌, ℕ, ◌^◌, ◌<◌, ltb, arith}
use Rattle.std.specs.Fmt as std
use Rattle.std.proofs.lemmas.Fmt.{AppendsLastDigit, decimal_from_appends, length-decimal-le}
use Rattle.std.proofs.lemmas.Bool.{cond-true, cond-false, lt-ltb, le-ltb}
use Rattle.linelog.specs.Text.{digits, decimal}

spells : AppendsLastDigit digits
unfolding digits
spells = record {
  one = λ k n small. cond-true (ltb n 10) _ _ (lt-ltb n 10 small);
  more = λ k n large. cond-false (ltb n 10) _ _ (le-ltb n 10 large);
}

pub printed : (n : ℕ) → n < 2 ^ 64 → std.decimal n ≡ decimal n
printed n fits = search (decimal_from_appends digits spells 20 n fits (length-decimal-le 20 n (omega arith) (omega arith) fits))
