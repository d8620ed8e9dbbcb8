use Rattle.std.proofs.Common.{◌+◌, ◌^◌, ◌<◌, ◌≤◌, ◌++◌, [], ◌∷◌, length, get_or, pos, arith, w32, SFits, rules}
use lib.Signed.{mag}
use Rattle.std.proofs.lemmas.Int.{to_z-of_z}
use Rattle.std.proofs.lemmas.List.{length-append}
use Rattle.pairs.proofs.Placed.{and_one_more, in_both, long, is_block, small}
use Rattle.pairs.proofs.pair.Pair.second_block.Goals as goal

pub invariant_of-result : goal.invariant_of-result
invariant_of-result c =
    let xs = c.args.self.now.samples in
    let ys = c.args.next.now.samples in
    let row = c.copy_from_slice.new.self ++ get_or ys 0 (pos 0) ∷ [] in
    let room : 32 + 33 ≤ length (xs ++ ys) = omega (arith, length-append xs ys, c.args.self.now.all, c.args.next.now.all) in
    let cut = and_one_more xs ys c.copy_from_slice.new.self c.args.self.now.all (omega (arith, c.args.next.now.all)) c.copy_from_slice.ensures.after in
    let f : SFits w32 (get_or ys 0 (pos 0)) = search rules in
    simp to_z-of_z (record {
      all = long (xs ++ ys) row 32 room cut;
      bounded = small (xs ++ ys) row 32 room cut (in_both (λ v. mag v < 2 ^ 13) xs ys c.args.self.now.bounded c.args.next.now.bounded);
    })

pub returns : goal.returns
returns c =
    let xs = c.args.self.now.samples in
    let ys = c.args.next.now.samples in
    let room : 32 + 33 ≤ length (xs ++ ys) = omega (arith, length-append xs ys, c.args.self.now.all, c.args.next.now.all) in
    let f : SFits w32 (get_or ys 0 (pos 0)) = search rules in
    simp to_z-of_z (is_block (xs ++ ys) _ 32 room
    (and_one_more xs ys c.copy_from_slice.new.self c.args.self.now.all (omega (arith, c.args.next.now.all)) c.copy_from_slice.ensures.after))
