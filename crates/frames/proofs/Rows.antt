-- Octets as rows of bits, on top of what `guards` shows of rows and numbers.
use Rattle.std.proofs.Common.{◌≡◌, ℕ, ◌+◌, ◌-◌, ◌*◌, ◌/◌, ◌%◌, ◌^◌, ◌<◌, ◌≤◌, List, map, ap, ◌∙◌, mod-eq_of_lt, arith}
use Rattle.std.specs.List.{range_with_len}
use Rattle.std.proofs.lemmas.List.FromFn.{get_or-map-range_with_len, length-map-range_with_len, fill_by_all}
use Rattle.guards.specs.Bits.{number, bit_in}
use Rattle.guards.specs.Rows.{Bits, number_same, bit_of_number, number_of_bits as low_bits}
use Rattle.frames.specs.Frame.{packed, bit_at}

-- a number within its length is the number of its bits
pub number_of_bits : (w n : ℕ) → w < 2 ^ n → number (λ t. bit_in n w (t + 1)) n ≡ w
number_of_bits w n h = low_bits w n ∙ mod-eq_of_lt h

-- reading back what was packed: bit i of the octets is bit i of the row
pub read_back : (f : ℕ → ℕ) → Bits f → (i : ℕ) → i < 640 → bit_at (packed f) i ≡ f i
unfolding bit_at packed
read_back f b i h =
    let low : i / 8 < 80 = omega arith in
    let e : 7 - i % 8 ≡ 8 - (i % 8 + 1) = omega arith in
    let back : 8 * (i / 8) + i % 8 ≡ i = omega arith in
    ap (λ v. v / 2 ^ (7 - i % 8) % 2) (get_or-map-range_with_len (λ j. number (λ t. f (8 * j + t)) 8) 0 80 (i / 8) (i / 8) 0 low (omega arith))
    ∙ ap (λ k. number (λ t. f (8 * (i / 8) + t)) 8 / 2 ^ k % 2) e
    ∙ bit_of_number (λ t. f (8 * (i / 8) + t)) (λ t. b (8 * (i / 8) + t)) 8 (i % 8) (omega arith) ∙ ap f back

pub bit_at_bit : (octets : List ℕ) (i : ℕ) → bit_at octets i ≤ 1
unfolding bit_at
bit_at_bit octets i = omega arith

-- rows that agree are packed alike
pub packed_same : (f g : ℕ → ℕ) → ((i : ℕ) → i < 640 → f i ≡ g i) → packed f ≡ packed g
unfolding packed
packed_same f g e =
    fill_by_all (λ j. number (λ t. g (8 * j + t)) 8) (map (λ j. number (λ t. f (8 * j + t)) 8) (range_with_len 0 80)) 80 0
    (length-map-range_with_len (λ j. number (λ t. f (8 * j + t)) 8) 0 80)
    (λ j h. get_or-map-range_with_len (λ j. number (λ t. f (8 * j + t)) 8) 0 80 j j 0 h (omega arith) ∙ number_same (λ t. f (8 * j + t)) (λ t. g (8 * j + t)) 8 (λ t l. e (8 * j + t) (omega arith)))
