-- The promised facts of the pair given, from three received blocks that are faithful to the blocks put.
use Rattle.std.proofs.Common.{◌≡◌, ℕ, ◌+◌, ◌*◌, ◌<◌, ◌≤◌, Bool, true, false, cond, eqb, List, ℤ, sym, refl, ◌∙◌, subst, ⊎_elim, arith}
use Rattle.std.proofs.lemmas.Bool.{cases_eq}
use Rattle.words.specs.Meaning.{Meaning, InCell, CellRule, Wide}
use Rattle.blocks.specs.Ranges.{basic_range, additional_range}
use Rattle.frames.specs.Places.{IsBlock, IsSample}
use Rattle.damage.specs.Damage.{touched}
use Rattle.decoder.specs.Findings.{mutes}
use Rattle.decoder.specs.Samples.{Received, follower_of, samples_of}
use Rattle.decoder.specs.Marks.{is_sound, sound}
use Rattle.decoder.specs.Closeness.{distance}
use Rattle.closeness.specs.Codes.{value}
use Rattle.closeness.specs.Bounds.{odd_bound, even_bound}
use Rattle.pairs.specs.Sending.{IsPair}
use Rattle.reception.specs.Given.{PairGiven, giving}
use Rattle.fidelity.specs.Kept.{block_put, block_after, sample_put, told_of, mark_of, word_of, unmarked, Kept, SoundIsKept, NoneIsMuted, FewLackTheMark, AllAreSound}
use Rattle.fidelity.proofs.Faithful.{Faithful}
use Rattle.fidelity.proofs.KeepPut.{Small, first_small, second_small, first_put, second_put, first_follower, second_follower}
use Rattle.fidelity.proofs.KeepClose.{close}
use Rattle.fidelity.proofs.KeepGiven.{mark_is, first_word, second_word, all_samples, in_cell}
use Rattle.fidelity.proofs.Marked.{heard_by, clean_beside, few_of_first, few_of_second}

by_block : (P : ℕ → Type 0) → P 1 → P 2 → (block : ℕ) → IsBlock block → P block
by_block P one two block is =
    let from = is.from in
    let upto = is.upto in
    ⊎_elim
    (λ (e : block ≡ 1). subst P (sym e) one)
    (λ (ne : block ≡ 1 → ⊥). let e : 2 ≡ block = omega arith in subst P e two)
    (cases_eq block 1)

range_of : (t : Bool) (x y : List ℤ) → cond t (basic_range x) (basic_range y) ≡ basic_range (cond t x y)
range_of true x y = refl
range_of false x y = refl

-- a sound sample of a block b before b', with its word and as it was put
keeps : (outlet : Meaning) → CellRule outlet → Wide outlet → (pairs : ℕ → List ℤ) (N e k k' block n : ℕ) (given : PairGiven) (b b' : Received)
    → Faithful e k (block_put pairs N block) b → Faithful e k' (block_after pairs N block) b'
    → Small (block_put pairs N block) → value (block_put pairs N block) 33 ≡ value (block_after pairs N block) 1
    → value (block_put pairs N block) n ≡ sample_put pairs N block n
    → word_of given block n ≡ outlet.word (value (samples_of b (follower_of b')) n)
    → IsSample n → sound b.found (is_sound (follower_of b')) n ≡ true → Kept e outlet pairs given N block n
keeps outlet rule wide pairs N e k k' block n given b b' f f' small follows put_is word_is is t =
    let put = block_put pairs N block in
    let after = block_after pairs N block in
    let r = basic_range put in
    let a = additional_range put in
    let y = value (samples_of b (follower_of b')) n in
    let near = close e k k' put after b b' f f' follows small n is t in
    record {
      y = y;
      cell = subst (λ (w : ℕ). InCell outlet w y) (sym word_is) (in_cell b (follower_of b') outlet rule wide n is);
      odd = λ odd. subst (λ (v : ℤ). 2 * distance y v ≤ odd_bound e r) put_is (near.odd odd);
      even = λ even.
          subst (λ (s : ℕ). 4 * distance y (sample_put pairs N block n) < even_bound e r a s) (range_of (eqb n 32) after put)
          (subst (λ (v : ℤ). 4 * distance y v < even_bound e r a (cond (eqb n 32) (basic_range after) r)) put_is (near.even even));
    }

module _ (outlet : Meaning) (pairs : ℕ → List ℤ) (N : ℕ) {e k1 k2 k3 : ℕ} {b1 b2 b3 : Received}
    (f1 : Faithful e k1 (block_put pairs N 1) b1) (f2 : Faithful e k2 (block_put pairs N 2) b2) (f3 : Faithful e k3 (block_put pairs (N + 1) 1) b3) where
  pub kept : CellRule outlet → Wide outlet → ((k : ℕ) → N ≤ k → k < N + 3 → IsPair (pairs k)) → SoundIsKept e outlet pairs (giving outlet b1 b2 b3) N
  kept rule wide put block n is_block is =
      let pair = pairs N in
      let next = pairs (N + 1) in
      let own = put N (omega arith) (omega arith) in
      let later = put (N + 1) (omega arith) (omega arith) in
      let given = giving outlet b1 b2 b3 in
      let xs = samples_of b1 (follower_of b2) in
      let ys = samples_of b2 (follower_of b3) in
      let all_x = all_samples b1 (follower_of b2) in
      let all_y = all_samples b2 (follower_of b3) in
      by_block (λ block. mark_of given block n ≡ true → Kept e outlet pairs given N block n)
      (λ t. keeps outlet rule wide pairs N e k1 k2 1 n given b1 b2 f1 f2 (first_small pair own) (first_follower pair next own)
      (first_put pair n is.from (omega (arith, is.upto))) (first_word outlet.word xs ys all_x all_y n is)
      is (sym (mark_is b1.found (is_sound (follower_of b2)) n is) ∙ t))
      (λ t. keeps outlet rule wide pairs N e k2 k3 2 n given b2 b3 f2 f3 (second_small pair next own later) (second_follower pair next own)
      (second_put pair next own n is.from is.upto) (second_word outlet.word xs ys all_x all_y n is)
      is (sym (mark_is b2.found (is_sound (follower_of b3)) n is) ∙ t))
      block is_block

  pub heard : NoneIsMuted (giving outlet b1 b2 b3)
  heard = by_block (λ block. mutes (told_of (giving outlet b1 b2 b3) block).verdict ≡ false)
      (heard_by k1 b1.found f1.verdict) (heard_by k2 b2.found f2.verdict)

-- with no guard bit touched
module _ (outlet : Meaning) (pairs : ℕ → List ℤ) (N : ℕ) {e : ℕ} {b1 b2 b3 : Received}
    (f1 : Faithful e 0 (block_put pairs N 1) b1) (f2 : Faithful e 0 (block_put pairs N 2) b2) (f3 : Faithful e 0 (block_put pairs (N + 1) 1) b3) where
  pub all : AllAreSound (giving outlet b1 b2 b3)
  all block n is_block is = by_block (λ block. mark_of (giving outlet b1 b2 b3) block n ≡ true)
      (mark_is b1.found (is_sound (follower_of b2)) n is ∙ clean_beside b1 b2 f1.verdict f2.verdict n is)
      (mark_is b2.found (is_sound (follower_of b3)) n is ∙ clean_beside b2 b3 f2.verdict f3.verdict n is)
      block is_block

-- with those touched by one octet
module _ (outlet : Meaning) (pairs : ℕ → List ℤ) (N frame octet : ℕ) {e : ℕ} {b1 b2 b3 : Received} (f1 : Faithful e (touched 1 N frame octet) (block_put pairs N 1) b1)
    (f2 : Faithful e (touched 2 N frame octet) (block_put pairs N 2) b2) (f3 : Faithful e (touched 1 (N + 1) frame octet) (block_put pairs (N + 1) 1) b3) where
  pub few : N ≤ frame → frame < N + 4 → octet < 80 → FewLackTheMark (giving outlet b1 b2 b3)
  few from upto inside = by_block (λ block. unmarked (told_of (giving outlet b1 b2 b3) block).marks ≤ 3)
      (few_of_first N frame octet from upto inside b1 b2 f1.verdict f2.verdict)
      (few_of_second N frame octet from upto inside b2 b3 f2.verdict f3.verdict)
