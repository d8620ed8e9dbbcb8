use Rattle.std.proofs.Common.{◌≡◌, ℕ, ◌+◌, ◌*◌, List, [], ◌∷◌, ◌++◌, map, length, get_or, take, drop, set, replicate, sym, ap, ◌∙◌, arith}
use Rattle.std.proofs.lemmas.List.{take_more, take_all, map_push, length-map, length-take-le}
use Rattle.raw.specs.Octets.{octets_in, numbers_in}
use Rattle.raw.proofs.Written.{put_octets, put_all, read_back}
use Rattle.raw.proofs.pair.write_pair.Goals as goal

pub loop-i-preserved : goal.loop-i-preserved
loop-i-preserved g c =
    let bits = g.N.RawNumber.bits in
    let value = g.N.RawNumber.value in
    let xs = c.args.numbers.now in
    let ys = c.loop-i.octets in
    let zs : List ℕ = replicate 128 0 in
    let i = c.loop-i.i in
    let x = get_or xs i c.index-numbers-i.result in
    let was = map bits (take i xs) in
    let more : take (i + 1) xs ≡ take i xs ++ x ∷ [] = take_more xs i c.index-numbers-i.result (omega arith) in
    let made : map bits (take (i + 1) xs) ≡ was ++ bits x ∷ [] = ap (map bits) more ∙ map_push bits (take i xs) x in
    let n : length was ≡ i = length-map (take i xs) bits ∙ length-take-le i xs (omega arith) in (
      ap (λ o. set (set ys (2 * i) (get_or o 0 0)) (2 * i + 1) (get_or o 1 0)) c.octets.ensures.answer
          ∙ put_octets was (bits x) ys zs i n (omega arith) c.loop-i.invariant.0
          ∙ ap (λ l. octets_in l ++ drop (2 * (i + 1)) zs) (sym made),
      ap (map value) made
          ∙ map_push value was (bits x)
          ∙ ap (λ l. l ++ value (bits x) ∷ []) c.loop-i.invariant.1
          ∙ ap (λ y. take i xs ++ y ∷ []) c.octets.ensures.back
          ∙ sym more,
      λ _. c.type_inv.numbers,
    )

pub returns : goal.returns
returns g c =
    let bits = g.N.RawNumber.bits in
    let value = g.N.RawNumber.value in
    let xs = c.args.numbers.now in
    let i = c.loop-i.i in
    let full : length xs ≡ 64 = c.loop-i.invariant.2 (omega arith) in
    let all = take_all i xs (omega arith) in
    let written =
    put_all (octets_in (map bits (take i xs))) c.loop-i.octets (replicate 128 0) (2 * i) c.loop-i.invariant.0 (omega arith)
    ∙ ap (λ l. octets_in (map bits l)) all
    in
    record {
      answer = written;
      back =
          ap (λ o. map value (numbers_in o)) written
          ∙ ap (map value) (read_back (map bits xs) (length-map xs bits ∙ omega arith))
          ∙ sym (ap (λ l. map value (map bits l)) all)
          ∙ c.loop-i.invariant.1
          ∙ all;
    }
