use Rattle.std.proofs.Common.{rules}
use Rattle.raw.specs.Octets.{number_at}
use Rattle.words.proofs.Made.{made}
use Rattle.raw.proofs.pair.read_pair.Goals as goal

pub returns : goal.returns
returns g c =
    let value = g.N.RawNumber.value in
    made _ _ (λ i. value (number_at c.args.octets.now i)) 64 (value 0) (λ i x q within call. search rules) _ c.from_fn.ensures.items
