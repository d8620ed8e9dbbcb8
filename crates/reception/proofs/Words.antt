-- The words of a frame as the code has them, sixteen odd and sixteen even ones of each block, are the defined ones.
use Rattle.std.proofs.Common.{◌≡◌, ℕ, ◌+◌, ◌-◌, ◌*◌, ◌/◌, ◌%◌, ◌<◌, ltb, List, get_or, sym, ap, ◌∙◌, arith}
use Rattle.std.proofs.lemmas.List.FromFn.{fill_by_all}
use Rattle.std.proofs.lemmas.Bool.{cond-true, cond-false, lt-ltb, le-ltb}
use Rattle.guards.specs.Words.{by_sample}
use Rattle.frames.specs.declared.content.Frame.{Frame}
use Rattle.frames.specs.Content.{pair_in}
use Rattle.reception.specs.Blocks.{odd_words_of, even_words_of}

odd_word : (odd even : List ℕ) (i : ℕ) → get_or odd i 0 ≡ by_sample odd even (2 * i + 1)
odd_word odd even i =
    let is : 0 < (2 * i + 1) % 2 = omega arith in
    let at : i ≡ (2 * i + 1) / 2 = omega arith in
    ap (λ (k : ℕ). get_or odd k 0) at ∙ sym (cond-true (ltb 0 ((2 * i + 1) % 2)) (get_or odd ((2 * i + 1) / 2) 0) (get_or even ((2 * i + 1) / 2 - 1) 0) (lt-ltb 0 ((2 * i + 1) % 2) is))

even_word : (odd even : List ℕ) (i : ℕ) → get_or even i 0 ≡ by_sample odd even (2 * i + 2)
even_word odd even i =
    let at : i ≡ (2 * i + 2) / 2 - 1 = omega arith in
    ap (λ (k : ℕ). get_or even k 0) at ∙ sym (cond-false (ltb 0 ((2 * i + 2) % 2)) (get_or odd ((2 * i + 2) / 2) 0) (get_or even ((2 * i + 2) / 2 - 1) 0) (le-ltb 0 ((2 * i + 2) % 2) (omega arith)))

module _ (f : Frame) where
  pub odd_first : f.first.odd.words ≡ odd_words_of (pair_in f) 1
  odd_first = fill_by_all (λ i. (pair_in f).word 1 (2 * i + 1)) f.first.odd.words 16 0 f.first.odd.all (λ k h. odd_word f.first.odd.words f.first.even.words k)

  pub even_first : f.first.even.words ≡ even_words_of (pair_in f) 1
  even_first = fill_by_all (λ i. (pair_in f).word 1 (2 * i + 2)) f.first.even.words 16 0 f.first.even.all (λ k h. even_word f.first.odd.words f.first.even.words k)

  pub odd_second : f.second.odd.words ≡ odd_words_of (pair_in f) 2
  odd_second = fill_by_all (λ i. (pair_in f).word 2 (2 * i + 1)) f.second.odd.words 16 0 f.second.odd.all (λ k h. odd_word f.second.odd.words f.second.even.words k)

  pub even_second : f.second.even.words ≡ even_words_of (pair_in f) 2
  even_second = fill_by_all (λ i. (pair_in f).word 2 (2 * i + 2)) f.second.even.words 16 0 f.second.even.all (λ k h. even_word f.second.odd.words f.second.even.words k)
