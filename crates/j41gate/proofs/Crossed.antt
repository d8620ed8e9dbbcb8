-- What `cross` leaves, from what it read, what the gate made of that and what was written.
use Rattle.std.proofs.Common.{◌≡◌, ℕ, Bool, true, false, cond, List, map, replicate, ℤ, pos, sym, refl, ap, ◌∙◌}
use Rattle.std.proofs.lemmas.List.{map-id}
use Rattle.raw.specs.Octets.{numbers_in, octets_in}
use Rattle.words.specs.Meaning.{middle}
use Rattle.words.specs.VariantB.{variant_b, gate_word}
use Rattle.j41gate.specs.Crossing.{samples_in, sample_octets, crossed, silence}
use Rattle.j41gate.specs.declared.crossing.Direction.{Direction}
use Rattle.j41gate.specs.declared.crossing.Direction.TheVariants.{Encode, Decode}

either : {X Y : Type 0} (f : X → Y) (b : Bool) (x y : X) → f (cond b x y) ≡ cond b (f x) (f y)
either f true x y = refl
either f false x y = refl

module _ (d : Direction) (b : Bool) (octets written : List ℕ) where
  pub encoded : (samples : List ℤ) (words : List ℕ) → d ≡ Encode → samples ≡ samples_in octets → words ≡ cond b (map gate_word samples) (replicate 64 (gate_word (pos 0))) → written ≡ octets_in (map (λ n. n) words)
      → written ≡ cond b (crossed d octets) (silence d)
  encoded samples words e s w o =
      o ∙ ap octets_in (map-id words ∙ w ∙ ap (λ l. cond b (map gate_word l) (replicate 64 (gate_word (pos 0)))) s)
      ∙ either octets_in b _ _ ∙ ap (λ x. cond b (crossed x octets) (silence x)) (sym e)

  pub decoded : (words : List ℕ) (samples : List ℤ) → d ≡ Decode → words ≡ map (λ n. n) (numbers_in octets) → samples ≡ cond b (map (middle variant_b) words) (replicate 64 (pos 0)) → written ≡ sample_octets samples
      → written ≡ cond b (crossed d octets) (silence d)
  decoded words samples e w s o =
      o ∙ ap sample_octets (s ∙ ap (λ l. cond b (map (middle variant_b) l) (replicate 64 (pos 0))) (w ∙ map-id (numbers_in octets)))
      ∙ either sample_octets b _ _ ∙ ap (λ x. cond b (crossed x octets) (silence x)) (sym e)
