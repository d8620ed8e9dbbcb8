-- A received block beside the next one, both faithful to the blocks put: sound samples of the block are close to those put.
use Rattle.std.proofs.Common.{◌≡◌, ℕ, ◌^◌, ◌≤◌, true, List, ℤ, sym, ap, ◌∙◌, subst, arith}
use Rattle.blocks.specs.Ranges.{basic_range, additional_range}
use Rattle.frames.specs.Places.{IsSample}
use Rattle.decoder.specs.Levels.{level}
use Rattle.decoder.specs.Samples.{Received, code_at, follower_of, samples_of}
use Rattle.decoder.specs.Marks.{is_sound, sound}
use Rattle.decoder.specs.Closeness.{distance, Arrived}
use Rattle.decoder.proofs.Nearness.{sound_first}
use Rattle.closeness.specs.Codes.{value, code, code_sent}
use Rattle.closeness.specs.Bounds.{Close}
use Rattle.closeness.proofs.Closeness.{stays_close}
use Rattle.fidelity.proofs.Faithful.{Faithful}
use Rattle.fidelity.proofs.KeepPut.{Small}

module _ (e k k' : ℕ) (put put' : List ℤ) (b b' : Received) (f : Faithful e k put b) (f' : Faithful e k' put' b')
    (follows : value put 33 ≡ value put' 1) where
  arrived : Arrived e (basic_range put') (code_sent b.basic b.additional (basic_range put') put) b (follower_of b')
  arrived =
      let s = basic_range put' in
      rw (f.basic, f.additional) (record {
        codes = λ n from upto. f.codes s n (record { from = from; upto = upto });
        follower = λ l is.
            let first = sound_first b' l is in (
              code_at b' 1,
              first.is ∙ ap (λ r. level r (code_at b' 1)) f'.basic,
              subst (λ (v : ℤ). distance (code_at b' 1) (code (2 ^ s) v) ≤ e) (sym follows) (f'.codes s 1 (record { from = omega arith; upto = omega arith }) first.kept),
            );
      })

  pub close : Small put → (n : ℕ) → IsSample n → sound b.found (is_sound (follower_of b')) n ≡ true
      → Close e (basic_range put) (additional_range put) (basic_range put') put (samples_of b (follower_of b')) n
  close small n is t =
      let next = follower_of b' in
      let s = basic_range put' in
      let ys = samples_of b next in
      subst (λ (r : ℕ). Close e r (additional_range put) s put ys n) f.basic
      (subst (λ (a : ℕ). Close e b.basic a s put ys n) f.additional (stays_close b next e s put small arrived n is.from is.upto t))
