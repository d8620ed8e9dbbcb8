-- `lies` and `place` undo one another, computed over all places and all bits.
use Rattle.std.proofs.Common.{◌≡◌, ℕ, ◌+◌, ◌-◌, ◌*◌, ◌/◌, ◌%◌, ◌<◌, ◌≤◌, true, ltb, List, map, refl, ap, ◌∙◌, arith}
use Rattle.std.proofs.lemmas.Bool.{ltb-true}
use Rattle.std.specs.List.{range_with_len}
use Rattle.guards.specs.Parities.{bits_of}
use Rattle.frames.specs.Places.{Holds, range_bit, check_bit, IsBlock, IsSample, travels, lies, lies_at, place, index}
use Rattle.guards.specs.Counts.{same_at}

all_places : map (λ l. map (λ b. place (lies l b)) (range_with_len 1 80)) (range_with_len 1 8) ≡ map (λ l. map (λ b. (l, b)) (range_with_len 1 80)) (range_with_len 1 8)
unfolding lies place
all_places = refl

pub place_of_lies : (l b : ℕ) → 1 ≤ l → l ≤ 8 → 1 ≤ b → b ≤ 80 → place (lies l b) ≡ (l, b)
place_of_lies l b lo hi lo' hi' =
    same_at (λ b. place (lies l b)) (λ b. (l, b)) 1 80
    (same_at (λ l. map (λ b. place (lies l b)) (range_with_len 1 80)) (λ l. map (λ b. (l, b)) (range_with_len 1 80)) 1 8 all_places l lo (omega arith)) b lo' (omega arith)

-- the bit that lies at i lies there
pub index_of_lies : (i : ℕ) → i < 640 → index (lies_at i) ≡ i
index_of_lies i h = ap (λ p. 80 * (p.0 - 1) + (p.1 - 1)) (place_of_lies (i / 80 + 1) (i % 80 + 1) (omega arith) (omega arith) (omega arith) (omega arith)) ∙ omega arith

-- a rule of every bit of every sample, or of every check, as one list
abbrev pub samples : {X : Type 0} → (Holds → X) → List (List (List X))
samples f = map (λ block. map (λ n. map (λ b. f (travels block n b)) (range_with_len 1 (bits_of n))) (range_with_len 1 32)) (range_with_len 1 2)

pub at_sample : {X : Type 0} (f g : Holds → X) → samples f ≡ samples g → (block n b : ℕ) → IsBlock block → IsSample n → 1 ≤ b → b ≤ bits_of n → f (travels block n b) ≡ g (travels block n b)
at_sample f g e block n b i s lo hi =
    same_at (λ b. f (travels block n b)) (λ b. g (travels block n b)) 1 (bits_of n)
    (same_at (λ n. map (λ b. f (travels block n b)) (range_with_len 1 (bits_of n))) (λ n. map (λ b. g (travels block n b)) (range_with_len 1 (bits_of n))) 1 32
    (same_at (λ block. map (λ n. map (λ b. f (travels block n b)) (range_with_len 1 (bits_of n))) (range_with_len 1 32))
    (λ block. map (λ n. map (λ b. g (travels block n b)) (range_with_len 1 (bits_of n))) (range_with_len 1 32)) 1 2 e block i.from (omega (arith, i.upto)))
    n s.from (omega (arith, s.upto))) b lo (omega arith)

abbrev pub all_checks : {X : Type 0} → (Holds → X) → List (List X)
all_checks f = map (λ block. map (λ k. f (check_bit block k)) (range_with_len 1 5)) (range_with_len 1 2)

pub at_check : {X : Type 0} (f g : Holds → X) → all_checks f ≡ all_checks g → (block k : ℕ) → IsBlock block → 1 ≤ k → k ≤ 5 → f (check_bit block k) ≡ g (check_bit block k)
at_check f g e block k i lo hi =
    same_at (λ k. f (check_bit block k)) (λ k. g (check_bit block k)) 1 5
    (same_at (λ block. map (λ k. f (check_bit block k)) (range_with_len 1 5)) (λ block. map (λ k. g (check_bit block k)) (range_with_len 1 5)) 1 2 e block i.from (omega (arith, i.upto))) k lo (omega arith)

-- the place of a bit is inside the frame, is no spare one, and the bit lies there
pub record LiesThere (h : Holds) : Type 0 where
  pub inside : index h < 640
  pub seen : index h % 80 < 79
  pub found : lies_at (index h) ≡ h

samples_found : samples (λ h. lies_at (index h)) ≡ samples (λ h. h)
unfolding lies place
samples_found = refl

samples_inside : samples (λ h. ltb (index h) 640) ≡ samples (λ _. true)
unfolding place
samples_inside = refl

samples_seen : samples (λ h. ltb (index h % 80) 79) ≡ samples (λ _. true)
unfolding place
samples_seen = refl

pub sample_lies : (block n b : ℕ) → IsBlock block → IsSample n → 1 ≤ b → b ≤ bits_of n → LiesThere (travels block n b)
sample_lies block n b i s lo hi = record {
  inside = ltb-true _ _ (at_sample (λ h. ltb (index h) 640) (λ _. true) samples_inside block n b i s lo hi);
  seen = ltb-true _ _ (at_sample (λ h. ltb (index h % 80) 79) (λ _. true) samples_seen block n b i s lo hi);
  found = at_sample (λ h. lies_at (index h)) (λ h. h) samples_found block n b i s lo hi;
}

checks_found : all_checks (λ h. lies_at (index h)) ≡ all_checks (λ h. h)
unfolding lies place
checks_found = refl

checks_inside : all_checks (λ h. ltb (index h) 640) ≡ all_checks (λ _. true)
unfolding place
checks_inside = refl

checks_seen : all_checks (λ h. ltb (index h % 80) 79) ≡ all_checks (λ _. true)
unfolding place
checks_seen = refl

pub check_lies : (block k : ℕ) → IsBlock block → 1 ≤ k → k ≤ 5 → LiesThere (check_bit block k)
check_lies block k i lo hi = record {
  inside = ltb-true _ _ (at_check (λ h. ltb (index h) 640) (λ _. true) checks_inside block k i lo hi);
  seen = ltb-true _ _ (at_check (λ h. ltb (index h % 80) 79) (λ _. true) checks_seen block k i lo hi);
  found = at_check (λ h. lies_at (index h)) (λ h. h) checks_found block k i lo hi;
}

ranges_found : map (λ k. lies_at (index (range_bit k))) (range_with_len 1 12) ≡ map range_bit (range_with_len 1 12)
unfolding lies place
ranges_found = refl

ranges_inside : map (λ k. ltb (index (range_bit k)) 640) (range_with_len 1 12) ≡ map (λ _. true) (range_with_len 1 12)
unfolding place
ranges_inside = refl

ranges_seen : map (λ k. ltb (index (range_bit k) % 80) 79) (range_with_len 1 12) ≡ map (λ _. true) (range_with_len 1 12)
unfolding place
ranges_seen = refl

pub range_lies : (k : ℕ) → 1 ≤ k → k ≤ 12 → LiesThere (range_bit k)
range_lies k lo hi = record {
  inside = ltb-true _ _ (same_at (λ k. ltb (index (range_bit k)) 640) (λ _. true) 1 12 ranges_inside k lo (omega arith));
  seen = ltb-true _ _ (same_at (λ k. ltb (index (range_bit k) % 80) 79) (λ _. true) 1 12 ranges_seen k lo (omega arith));
  found = same_at (λ k. lies_at (index (range_bit k))) range_bit 1 12 ranges_found k lo (omega arith);
}
