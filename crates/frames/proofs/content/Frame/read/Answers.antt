use Rattle.std.proofs.Common.{◌≡◌, ℕ, ◌%◌, ◌<◌, false, eqb, List, length, sym, ap, ◌∙◌, subst}
use Rattle.std.proofs.lemmas.Bool.{cond-true, cond-false, eq-eqb}
use Rattle.words.specs.Answers.{gives}
use Rattle.frames.specs.Frame.{bit_at, heard_by, heard}
use Rattle.frames.specs.Content.{pair_in, listed}
use Rattle.frames.specs.Answers.{all_ones, Alike}
use Rattle.frames.specs.Sheet.{bit_of}
use Rattle.frames.proofs.Same.{listed_same, same_listed, octets_same, heard_same, written_again}
use Rattle.frames.proofs.content.Frame.read.Goals as goal

pub returns : goal.returns
returns c =
    let o = c.args.octets.now in
    let p = pair_in c.read.result in
    let row = bit_of c.of_octets.result.cells in
    let whole = c.in-Ok.ensures.1 in
    let long : length o ≡ 80 = whole.long in
    let quiet : all_ones o ≡ false = ap all_ones (sym whole.same) ∙ sym c.all_ones.ensures ∙ c.if-all_ones.false in
    let bits = subst (λ (x : List ℕ). (i : ℕ) → i < 640 → i % 80 < 79 → row i ≡ bit_at x i) whole.same c.of_octets.ensures in
    let e : listed p ≡ listed (heard o) = c.read.ensures ∙ listed_same (heard_by row) (heard o) (heard_same row (bit_at o) bits) in
    record {
      answer = ap gives e ∙ sym (cond-true (eqb (length o) 80) _ _ (eq-eqb _ _ long) ∙ cond-false (all_ones o) _ _ quiet);
      again = subst (λ (x : List ℕ). Alike x o) (sym (octets_same p (heard o) (same_listed p (heard o) e))) (written_again o);
    }
