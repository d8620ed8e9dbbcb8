-- A recorded pair by its parts: where they are the same, so is the pair.
use Rattle.std.proofs.Common.{◌≡◌, ℕ, Bool}
use Rattle.decoder.specs.Samples.{Received}
use Rattle.reception.specs.Recording.{Recorded}

abbrev pub pair_of : Bool → ℕ → ℕ → ℕ → Received → Received → Recorded
pair_of lost range_word checks_first checks_second first second = record {
  lost = lost;
  range_word = range_word;
  checks_first = checks_first;
  checks_second = checks_second;
  first = first;
  second = second;
}

pub same_pair : (lost : Bool) {w v c d e f : ℕ} {x y s t : Received} → w ≡ v → c ≡ e → d ≡ f → x ≡ s → y ≡ t → pair_of lost w c d x y ≡ pair_of lost v e f s t
same_pair lost n p q r h = cc
