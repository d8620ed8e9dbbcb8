use Rattle.std.proofs.Common.{is_ok, sym, ap, ◌∙◌}
use Rattle.std.proofs.lemmas.List.{map-id}
use Rattle.raw.specs.Octets.{numbers_in}
use Rattle.words.specs.Lists.{making_all, reading_all}
use Rattle.words.specs.VariantB.{variant_b}
use Rattle.j41gate.specs.Crossing.{crossing}
use Rattle.j41gate.proofs.Crossed.{encoded, decoded}
use Rattle.j41gate.proofs.crossing.cross.Goals as goal

pub returns-in-Encode : goal.returns-in-Encode
returns-in-Encode c =
    let octets = c.args.octets.now in
    record {
      answer =
          c.encode-outcome.ensures.answer
          ∙ ap (λ l. making_all variant_b l 64) c.read_pair.ensures
          ∙ ap (λ d. crossing d octets) (sym c.in-Encode.is);
      buffer =
          encoded c.args.direction (is_ok c.encode-outcome.result) octets c.write_pair.result c.read_pair.result c.encode-outcome.new.words
          c.in-Encode.is c.read_pair.ensures c.encode-outcome.ensures.buffer c.write_pair.ensures.answer;
    }

pub returns-in-Decode : goal.returns-in-Decode
returns-in-Decode c =
    let octets = c.args.octets.now in
    record {
      answer =
          c.decode-outcome.ensures.answer
          ∙ ap (λ l. reading_all variant_b l 64) (c.read_pair-in-Decode.ensures ∙ map-id (numbers_in octets))
          ∙ ap (λ d. crossing d octets) (sym c.in-Decode.is);
      buffer =
          decoded c.args.direction (is_ok c.decode-outcome.result) octets c.write_pair-in-Decode.result c.read_pair-in-Decode.result c.decode-outcome.new.samples
          c.in-Decode.is c.read_pair-in-Decode.ensures c.decode-outcome.ensures.buffer c.write_pair-in-Decode.ensures.answer;
    }
