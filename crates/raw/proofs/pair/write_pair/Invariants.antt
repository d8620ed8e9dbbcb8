use Rattle.std.proofs.Common.{◌≡◌, ◌*◌, ◌<◌, ◌++◌, map, length, take, drop}
use Rattle.raw.specs.Octets.{octets_in}
use Rattle.raw.proofs.pair.write_pair.Given as goal

abbrev pub invariant-loop-i : goal.invariant-loop-i
invariant-loop-i g l =
    let bits = g.N.RawNumber.bits in
    (l.octets ≡ octets_in (map bits (take l.i l.numbers)) ++ drop (2 * l.i) l.initial.octets)
    × (map g.N.RawNumber.value (map bits (take l.i l.numbers)) ≡ take l.i l.numbers)
    × (0 < l.i → length l.numbers ≡ 64)
