-- A range word of which at most one bit is hit is put right, and tells the ranges of both blocks.
use Rattle.std.proofs.Common.{◌≡◌, ℕ, ◌-◌, ◌/◌, ◌%◌, ◌<◌, ◌≤◌, Bool, true, false, cond, ◌&&◌, eqb, ◌⊎◌, List, ℤ, Some, sym, refl, ap, ◌∙◌, subst, ⊎_elim, arith}
use lib.Bits.{bit_xor, xor_zero_r, xor_assoc, xor_self}
use Rattle.std.proofs.lemmas.Bool.{and_parts, eqb-true, eq-eqb, lt-ltb, cond-true}
use Rattle.guards.specs.Codes.{alone}
use Rattle.guards.specs.RangeCodes.{range_code}
use Rattle.guards.specs.RangeWord.{range_word, range_word_syndrome}
use Rattle.guards.specs.Mended.{range_found, mended, code_in, ranges_of_code, ranges_told}
use Rattle.guards.specs.Counts.{below, each}
use Rattle.guards.specs.Laws.{range_law, range_word_sent}
use Rattle.guards.proofs.Locating.{located_at, range_word_flipped}
use Rattle.blocks.specs.Ranges.{basic_range, additional_range}
use Rattle.frames.specs.Places.{IsBlock}
use Rattle.damage.specs.Damage.{RangeHurt, range_whole, range_hurt_at}
use Rattle.decoder.specs.Verdicts.{nowhere}
use Rattle.fidelity.proofs.SentBlocks.{RangesHold}
use Rattle.fidelity.proofs.SentPairs.{code_for}

-- what is found of a range word as sent, and of one with bit k flipped
found_clean : (word : ℕ) → range_word_syndrome word ≡ 0 → range_found word ≡ (0, 0)
unfolding range_found
found_clean word z = cond-true _ _ _ (eq-eqb (range_word_syndrome word) 0 z)

found_flipped : (word k : ℕ) → range_word_syndrome word ≡ 0 → 1 ≤ k → k ≤ 12 → range_found (bit_xor word (alone 12 k)) ≡ (1, k)
unfolding range_found
found_flipped word k z lo hi =
    located_at range_law (range_word_syndrome (bit_xor word (alone 12 k))) k (record { from = lo; upto = hi }) (sym (range_word_flipped word k z))

-- the range word as mended, by what is found
mended_by : (word : ℕ) (found : ℕ × ℕ) → range_found word ≡ found → mended word ≡ cond (eqb found.0 1) (bit_xor word (alone 12 found.1)) word
unfolding mended
mended_by word found e = ap (λ (f : ℕ × ℕ). cond (eqb f.0 1) (bit_xor word (alone 12 f.1)) word) e

-- flipped twice is as it was
twice : (w p : ℕ) → bit_xor (bit_xor w p) p ≡ w
twice w p = xor_assoc w p p ∙ ap (bit_xor w) (xor_self p) ∙ xor_zero_r w

record PutRight (sent arrived : ℕ) : Type 0 where
  somewhere : nowhere (range_found arrived) ≡ false
  right : mended arrived ≡ sent

put_right : (sent arrived : ℕ) → range_word_syndrome sent ≡ 0 → RangeHurt sent arrived → PutRight sent arrived
put_right sent arrived z (range_whole e) =
    let found : range_found arrived ≡ (0, 0) = ap range_found e ∙ found_clean sent z in
    record { somewhere = ap nowhere found; right = mended_by arrived (0, 0) found ∙ e }
put_right sent arrived z (range_hurt_at k lo hi e) =
    let found : range_found arrived ≡ (1, k) = ap range_found e ∙ found_flipped sent k z lo hi in
    record { somewhere = ap nowhere found; right = mended_by arrived (1, k) found ∙ ap (λ (w : ℕ). bit_xor w (alone 12 k)) e ∙ twice sent (alone 12 k) }

-- a range word holds the codes of both blocks: one test for all codes
abbrev codes_test : ℕ → ℕ → Bool
codes_test a b = eqb (code_in (range_word a b) 1) a && eqb (code_in (range_word a b) 2) b

all_codes : below (λ a. below (codes_test a) 16) 16 ≡ true
unfolding range_word
all_codes = refl

codes_in : (code : ℕ → ℕ) → ((block : ℕ) → code block < 16) → (block : ℕ) → IsBlock block → code_in (range_word (code 1) (code 2)) block ≡ code block
codes_in code small block i =
    let word = range_word (code 1) (code 2) in
    let Held = λ (k : ℕ). code_in word k ≡ code k in
    let t = and_parts (eqb (code_in word 1) (code 1)) (eqb (code_in word 2) (code 2))
    (each (codes_test (code 1)) 16 (each (λ a. below (codes_test a) 16) 16 all_codes (code 1) (small 1)) (code 2) (small 2)) in
    ⊎_elim (λ e. subst Held (sym e) (eqb-true _ _ t.0)) (λ e. subst Held (sym e) (eqb-true _ _ t.1)) (one_or_two block i)
  where
    one_or_two : (block : ℕ) → IsBlock block → (block ≡ 1) ⊎ (block ≡ 2)
    one_or_two block i = let from = i.from in let upto = i.upto in search arith

-- a code tells the ranges that it was made of
tells : (c r a : ℕ) → c < 15 → (14 - c) % 5 ≡ r → (14 - c) / 5 ≡ a → ranges_of_code c ≡ Some (r, a)
tells c r a h basic additional =
    cond-true _ _ _ (lt-ltb c 15 h) ∙ ap (λ (x : ℕ). Some (x, (14 - c) / 5)) basic ∙ ap (λ (y : ℕ). Some (r, y)) additional

code_tells : (r a : ℕ) → r ≤ 4 → a ≤ 2 → ranges_of_code (range_code r a) ≡ Some (r, a)
code_tells r a h k = tells (range_code r a) r a (omega arith) (omega arith) (omega arith)

-- what a range word as received tells of a block
pub record RangesRight (put : List ℤ) (arrived block : ℕ) : Type 0 where
  pub somewhere : nowhere (range_found arrived) ≡ false
  pub told : ranges_told arrived block ≡ Some (basic_range put, additional_range put)

-- of two blocks, by number, whose codes were sent
pub ranges_right : (put : ℕ → List ℤ) (arrived : ℕ) → ((block : ℕ) → RangesHold (put block)) → RangeHurt (range_word (code_for (put 1)) (code_for (put 2))) arrived
    → (block : ℕ) → IsBlock block → RangesRight (put block) arrived block
unfolding ranges_told
ranges_right put arrived hold hit block i =
    let sent = range_word_sent (code_for (put 1)) (code_for (put 2)) (omega arith) (omega arith) in
    let right = put_right (range_word (code_for (put 1)) (code_for (put 2))) arrived sent.clean hit in
    record {
      somewhere = right.somewhere;
      told = ap (λ (w : ℕ). ranges_of_code (code_in w block)) right.right ∙ ap ranges_of_code (codes_in (λ block. code_for (put block)) (λ block. omega arith) block i)
          ∙ code_tells (basic_range (put block)) (additional_range (put block)) (hold block).basic_bound (hold block).additional_bound;
    }
