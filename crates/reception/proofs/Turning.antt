-- The ring of four records, one step: two of them are changed, and the slot of the oldest takes the new one.
use Rattle.std.proofs.Common.{◌≡◌, ℕ, zero, suc, ◌+◌, ◌%◌, ◌<◌, Bool, ◌≢◌, List, [], ◌∷◌, map, length, get_or, set, sym, refl, ap, ◌∙◌, arith}
use Rattle.std.proofs.lemmas.List.{map-set, get_or-map, get_or-set_other, length-map, length-set}
use Rattle.frames.specs.Frame.{Pair}
use Rattle.reception.specs.declared.record.PairRecord.{PairRecord}
use Rattle.reception.specs.Recording.{Recorded, begun, followed, completed}
use Rattle.reception.specs.Records.{recorded, blank_record, backwards, arrive_with}

turn : (at : ℕ) (slots : List Recorded) (f g x : Recorded) → at < 4 → length slots ≡ 4
    → backwards ((at + 1) % 4) (set (set (set slots ((at + 3) % 4) f) ((at + 2) % 4) g) at x) ≡ x ∷ f ∷ g ∷ get_or slots ((at + 1) % 4) blank_record ∷ []
turn at [] f g x l h = absurd (omega arith)
turn at (r ∷ []) f g x l h = absurd (omega arith)
turn at (r ∷ s ∷ []) f g x l h = absurd (omega arith)
turn at (r ∷ s ∷ t ∷ []) f g x l h = absurd (omega arith)
turn at (r ∷ s ∷ t ∷ u ∷ v ∷ vs) f g x l h = absurd (omega arith)
turn zero (r ∷ s ∷ t ∷ u ∷ []) f g x l h = refl
turn (suc zero) (r ∷ s ∷ t ∷ u ∷ []) f g x l h = refl
turn (suc (suc zero)) (r ∷ s ∷ t ∷ u ∷ []) f g x l h = refl
turn (suc (suc (suc zero))) (r ∷ s ∷ t ∷ u ∷ []) f g x l h = refl
turn (suc (suc (suc (suc at)))) (r ∷ s ∷ t ∷ u ∷ []) f g x l h = absurd (omega arith)

-- what the code did to the slots: they hold `f`, `g` and `x` now; `d` and `e` are what would be read past their end
pub record Turned (lost : Bool) (frame : Pair) (at : ℕ) (slots : List PairRecord) (d e f g x : PairRecord) : Type 0 where
  pub low : at < 4
  pub four : length slots ≡ 4
  pub follows : recorded f ≡ followed lost frame (recorded (get_or slots ((at + 3) % 4) d))
  pub completes : recorded g ≡ completed lost frame (recorded (get_or (set slots ((at + 3) % 4) f) ((at + 2) % 4) e))
  pub begins : recorded x ≡ begun lost frame

module _ (lost : Bool) (frame : Pair) (at : ℕ) (slots : List PairRecord) (d e f g x : PairRecord) (t : Turned lost frame at slots d e f g x) where
  seen : List Recorded
  seen = map recorded slots

  as_recorded : map recorded (set (set (set slots ((at + 3) % 4) f) ((at + 2) % 4) g) at x)
      ≡ set (set (set seen ((at + 3) % 4) (recorded f)) ((at + 2) % 4) (recorded g)) at (recorded x)
  unfolding seen
  as_recorded =
      map-set recorded (set (set slots ((at + 3) % 4) f) ((at + 2) % 4) g) at x
      ∙ ap (λ (rs : List Recorded). set rs at (recorded x)) (map-set recorded (set slots ((at + 3) % 4) f) ((at + 2) % 4) g
      ∙ ap (λ (rs : List Recorded). set rs ((at + 2) % 4) (recorded g)) (map-set recorded slots ((at + 3) % 4) f))

  newest : recorded (get_or slots ((at + 3) % 4) d) ≡ get_or seen ((at + 3) % 4) blank_record
  unfolding seen
  newest = sym (get_or-map recorded slots ((at + 3) % 4) d blank_record (omega (arith, t.four)))

  before_it : recorded (get_or (set slots ((at + 3) % 4) f) ((at + 2) % 4) e) ≡ get_or seen ((at + 2) % 4) blank_record
  unfolding seen
  before_it =
      let apart : (at + 2) % 4 ≢ (at + 3) % 4 = omega (arith, t.low) in
      ap recorded (get_or-set_other slots ((at + 3) % 4) ((at + 2) % 4) f e apart)
      ∙ sym (get_or-map recorded slots ((at + 2) % 4) e blank_record (omega (arith, t.four)))

  pub turned : backwards ((at + 1) % 4) (map recorded (set (set (set slots ((at + 3) % 4) f) ((at + 2) % 4) g) at x))
      ≡ arrive_with lost frame (backwards at (map recorded slots))
  unfolding seen
  turned =
      let own = t.begins in
      let second = t.follows ∙ ap (followed lost frame) newest in
      let third = t.completes ∙ ap (completed lost frame) before_it in
      let rows = ap (backwards ((at + 1) % 4)) as_recorded ∙ turn at seen (recorded f) (recorded g) (recorded x) t.low (length-map slots recorded ∙ t.four) in
      cc

  pub still_four : length (set (set (set slots ((at + 3) % 4) f) ((at + 2) % 4) g) at x) ≡ 4
  still_four = simp length-set t.four
