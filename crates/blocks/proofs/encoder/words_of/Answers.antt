use Rattle.std.proofs.Common.{◌≡◌, ℕ, ◌^◌, ◌<◌, length, get_or, subst, rules}
use Rattle.words.proofs.Made.{made}
use Rattle.blocks.proofs.Made.{word_at, all_words, short_words}
use Rattle.blocks.proofs.encoder.words_of.Goals as goal

pub invariant_of-result : goal.invariant_of-result
invariant_of-result g c =
    let m = g.L.WordLaw.meaning c.args.law.now in
    let xs = c.args.values.now in
    let n : length xs ≡ 16 = search rules in
    let words = all_words m xs n _ (made _ _ (word_at m xs n) 16 0 (λ i y q k h. search rules) c.from_fn.result c.from_fn.ensures.items) in
    record {
      all = c.from_fn.ensures.items.long;
      short = subst (λ (b : ℕ). (k : ℕ) → get_or c.from_fn.result k 0 < 2 ^ b) c.requires.bits (short_words m xs n (g.met.L.WordLaw.cells c.args.law.now) c.requires.inside _ words);
    }

pub returns : goal.returns
returns g c =
    let m = g.L.WordLaw.meaning c.args.law.now in
    let xs = c.args.values.now in
    let n : length xs ≡ 16 = search rules in
    all_words m xs n _ (made _ _ (word_at m xs n) 16 0 (λ i y q k h. search rules) c.from_fn.result c.from_fn.ensures.items)
