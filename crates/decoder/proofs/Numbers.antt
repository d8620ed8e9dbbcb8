-- The definitions by sample number, at odd samples 2k + 1 and even samples 2k + 2.
use Rattle.std.proofs.Common.{◌≡◌, ℕ, ◌+◌, ◌*◌, get_or, arith}
use Rattle.std.proofs.lemmas.Bool.Decides.{nat_tests}
use Rattle.decoder.specs.Levels.{code_of}
use Rattle.decoder.specs.Samples.{Received, code_at}

module _ (k : ℕ) where
  pub code_odd : (b : Received) → code_at b (2 * k + 1) ≡ code_of 512 (get_or b.odd_words k 0)
  code_odd b = grind (arith, nat_tests)
