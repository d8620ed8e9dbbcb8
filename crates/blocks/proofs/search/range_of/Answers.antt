use Rattle.std.proofs.Common.{ℕ, ◌*◌, ◌%◌, ◌^◌, ◌<◌, ◌≤◌, Some, None, Option, MatchOption, unwrap_or, subst, arith, pow_mono, rules}
use borrow.Author.Tests.{tests}
use Rattle.std.proofs.lemmas.Iterator.{first_from_Range}
use Rattle.std.proofs.lemmas.Nat.{mul-le}
use Rattle.blocks.proofs.search.range_of.Goals as goal

-- none is passed over before the one that is found
before : (r : Option ℕ) (top : ℕ) (Yes No : ℕ → Type 0)
    → MatchOption r ((k : ℕ) → 0 ≤ k → k < top → No k) (λ i. (0 ≤ i) × (i < top) × Yes i × ((k : ℕ) → 0 ≤ k → k < i → No k))
    → (k : ℕ) → k < unwrap_or r top → (k < top) × No k
before None top Yes No first k lt = (lt, first k (omega arith) lt)
before (Some i) top Yes No first k lt = (omega (arith, first.1), first.3 k (omega arith) lt)

pub returns-clause-least : goal.returns-clause-least
returns-clause-least c = λ k lt.
    let limit : ℕ → ℕ = λ r. (c.args.half * 2 ^ r) % 2 ^ 32 in
    let first = first_from_Range _ _ _ c.find.result (λ r. c.args.greatest < limit r) (λ r. limit r ≤ c.args.greatest) c.find.ensures.ran (λ x q k. search (rules, tests)) (λ x q k. search (rules, tests)) in
    let passed = before c.find.result c.args.top (λ r. c.args.greatest < limit r) (λ r. limit r ≤ c.args.greatest) first k (subst (λ r. k < r) c.unwrap_or.ensures lt) in
    let narrow : k ≤ 4 = omega (arith, passed.0) in
    omega (arith, passed.1, mul-le c.args.half (2 ^ k) (2 ^ 15) (2 ^ 4) c.requires.few_codes (pow_mono narrow))
