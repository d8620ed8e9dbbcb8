use Rattle.std.proofs.Common.{◌≡◌, ℕ, ◌-◌, ◌*◌, ◌%◌, ◌^◌, ◌≤◌, Some, None, sym, ap, ◌∙◌, arith, rules}
use Rattle.std.proofs.lemmas.Iterator.{first_from_Range}
use Rattle.std.proofs.lemmas.Nat.{one_shl}
use Rattle.guards.specs.Codes.{alone, Position}
use Rattle.guards.proofs.Locating.{located_at, located_nowhere, flipped_at, flipped_nowhere}
use Rattle.guards.proofs.locator.locate.Goals as goal

-- the set that is shifted to the place of a position holds it alone
shifted : (n m k : ℕ) → m ≡ n → n ≤ 32 → Position n k → (1 * 2 ^ (m - k)) % 2 ^ 32 ≡ alone n k
shifted n m k e few p = one_shl (m - k) 32 (omega (arith, p.from)) ∙ ap (λ i. 2 ^ (i - k)) e

pub returns-in-Some : goal.returns-in-Some
returns-in-Some g c =
    let law = g.met.C.CheckCode.code in
    let s = g.C.CheckCode.syndrome in
    let n : ℕ = g.C.CheckCode.positions in
    let m : ℕ = c.positions-positions.result in
    let is = c.positions-positions.ensures in
    let k : ℕ = c.in-Some.k in
    let has : ℕ → Type 0 = λ j. s ((1 * 2 ^ (m - j)) % 2 ^ 32) ≡ c.args.syndrome in
    let first = first_from_Range _ _ _ (Some k) has (λ j. has j → ⊥) c.in-Some.ensures.ran (λ x q k. search rules) (λ x q k. search rules) in
    let p : Position n k = record { from = omega arith; upto = omega arith } in
    let e : s (alone n k) ≡ c.args.syndrome = ap s (sym (shifted n m k is law.few p)) ∙ first.2 in
    record { answer = sym (located_at law c.args.syndrome k p e); means = (p, e); flipped = flipped_at law c.args.syndrome k p e }

pub returns-in-None : goal.returns-in-None
returns-in-None g c =
    let law = g.met.C.CheckCode.code in
    let s = g.C.CheckCode.syndrome in
    let n : ℕ = g.C.CheckCode.positions in
    let m : ℕ = c.positions-positions.result in
    let is = c.positions-positions.ensures in
    let has : ℕ → Type 0 = λ j. s ((1 * 2 ^ (m - j)) % 2 ^ 32) ≡ c.args.syndrome in
    let first = first_from_Range _ _ _ None has (λ j. has j → ⊥) c.in-None.ensures.ran (λ x q k. search rules) (λ x q k. search rules) in
    let none : (k : ℕ) → Position n k → s (alone n k) ≡ c.args.syndrome → ⊥ = λ k p e.
    first k p.from (omega (arith, p.upto)) (ap s (shifted n m k is law.few p) ∙ e) in
    record {
      answer = sym (located_nowhere law c.args.syndrome c.if-syndrome-eq0.false none);
      means = (c.if-syndrome-eq0.false, none);
      flipped = flipped_nowhere law c.args.syndrome none;
    }
