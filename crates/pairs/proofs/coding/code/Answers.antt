use Rattle.std.proofs.Common.{◌≡◌, ℕ, cond, eqb, ap, ◌∙◌}
use Rattle.guards.specs.RangeCodes.{range_code}
use Rattle.guards.specs.RangeWord.{range_word}
use Rattle.guards.specs.Division.{checks_of}
use Rattle.guards.specs.Parities.{parities}
use Rattle.blocks.specs.declared.coded.CodedBlock.{CodedBlock}
use Rattle.blocks.specs.Coding.{Code, code_of, coded as code}
use Rattle.frames.specs.declared.content.GuardedBlock.{GuardedBlock}
use Rattle.frames.specs.Frame.{Pair}
use Rattle.frames.specs.Content.{pair_by, word_in}
use Rattle.pairs.specs.Sending.{guarded, words_of, sent_pair, first_block, second_block}
use Rattle.pairs.proofs.coding.code.Goals as goal

-- a block with its guards is what its code asks for
pub record Kept (g : GuardedBlock) (b : CodedBlock) : Type 0 where
  pub odd : g.odd ≡ b.odd
  pub even : g.even ≡ b.even
  pub checks : g.checks ≡ checks_of (parities (word_in g))

words_kept : (g : GuardedBlock) (b : CodedBlock) → Kept g b → word_in g ≡ words_of (code_of b)
words_kept g b k =
    let odd = k.odd in
    let even = k.even in
    cc

-- a pair by its parts
abbrev shaped : ℕ → (ℕ → ℕ) → (ℕ → ℕ) → ℕ → ℕ → Pair
shaped w f g x y = record {
  word = λ block n. cond (eqb block 1) (f n) (g n);
  ranges = w;
  checks = λ block. cond (eqb block 1) x y;
}

module _ (w : ℕ) (g h : GuardedBlock) (b d : CodedBlock) (kg : Kept g b) (kh : Kept h d) where
  pub joined : w ≡ range_word (range_code b.ranges.basic b.ranges.additional) (range_code d.ranges.basic d.ranges.additional)
      → pair_by w g h ≡ guarded (code_of b) (code_of d)
  joined e =
      let u = words_kept g b kg in
      let v = words_kept h d kh in
      let x : g.checks ≡ checks_of (parities (words_of (code_of b))) = kg.checks ∙ ap (λ (f : ℕ → ℕ). checks_of (parities f)) u in
      let y : h.checks ≡ checks_of (parities (words_of (code_of d))) = kh.checks ∙ ap (λ (f : ℕ → ℕ). checks_of (parities f)) v in
      ap (λ (n : ℕ). shaped n (word_in g) (word_in h) g.checks h.checks) e
      ∙ ap (λ (f : ℕ → ℕ). shaped ranges f (word_in h) g.checks h.checks) u
      ∙ ap (λ (f : ℕ → ℕ). shaped ranges (words_of (code_of b)) f g.checks h.checks) v
      ∙ ap (λ (n : ℕ). shaped ranges (words_of (code_of b)) (words_of (code_of d)) n h.checks) x
      ∙ ap (λ (n : ℕ). shaped ranges (words_of (code_of b)) (words_of (code_of d)) (checks_of (parities (words_of (code_of b)))) n) y
    where
      ranges : ℕ
      ranges = range_word (range_code b.ranges.basic b.ranges.additional) (range_code d.ranges.basic d.ranges.additional)

pub returns : goal.returns
unfolding sent_pair
returns c =
    let b = c.encode-first.result in
    let d = c.encode-second.result in
    let kg : Kept c.guarded.result b = record { odd = c.guarded.ensures.odd; even = c.guarded.ensures.even; checks = c.guarded.ensures.checks } in
    let kh : Kept c.guarded-2.result d = record { odd = c.guarded-2.ensures.odd; even = c.guarded-2.ensures.even; checks = c.guarded-2.ensures.checks } in
    let x : code_of b ≡ code (first_block c.args.pair.now.samples) = c.encode-first.ensures.value ∙ ap code c.first_block.ensures in
    let y : code_of d ≡ code (second_block c.args.pair.now.samples c.args.next.now.samples) = c.encode-second.ensures.value ∙ ap code c.second_block.ensures in
    joined c.range_word.result c.guarded.result c.guarded-2.result b d kg kh c.range_word.ensures.value
    ∙ ap (λ (k : Code). guarded k (code_of d)) x ∙ ap (λ (k : Code). guarded (code (first_block c.args.pair.now.samples)) k) y
