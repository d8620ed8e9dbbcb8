use Rattle.std.proofs.Common.{◌≡◌, ◌^◌, ◌<◌, [], get_or, List, ℤ, pos, sym, subst, ◌∙◌, rules}
use lib.Signed.{mag}
use Rattle.decoder.specs.Closeness.{StaysNear}
use Rattle.decoder.specs.Samples.{pair_of}
use Rattle.decoder.specs.Received.{received}
use Rattle.words.proofs.Made.{each_made}
use Rattle.decoder.proofs.Given.{muted_samples, heard_samples, samples_small}
use Rattle.decoder.proofs.Nearness.{stays_near}
use Rattle.decoder.proofs.received.ReceivedBlock.samples.Goals as goal

pub returns-in_default : goal.returns-in_default
returns-in_default c =
    let b = received c.args.self.now in
    let next = c.args.next.now in
    let value = muted_samples b next c.in_default.ensures in
    record {
      value = value;
      close = subst (StaysNear b next) (sym value) (stays_near b next);
      small = λ k. subst (λ (xs : List ℤ). mag (get_or xs k (pos 0)) < 2 ^ 13) (sym value) (samples_small b next k);
    }

pub returns : goal.returns
returns c =
    let b = received c.args.self.now in
    let next = c.args.next.now in
    let pairs = c.from_fn-pairs.result in
    let sides = c.sides-sides.result in
    let shares = c.shares-shares.result in
    let at_side = c.sides-sides.ensures in
    let at_share = c.shares-shares.ensures in
    let each = each_made (λ k ys. ys ≡ pair_of sides shares k) _ _ 16 [] (λ k ys q within call. search rules) pairs c.from_fn-pairs.ensures.items in
    let value = c.copy_from_slice.ensures.after ∙ c.as_flattened.ensures.value ∙ heard_samples b next sides shares c.in-Some.ensures.0 at_side at_share pairs (search rules) each in
    record {
      value = value;
      close = subst (StaysNear b next) (sym value) (stays_near b next);
      small = λ k. subst (λ (xs : List ℤ). mag (get_or xs k (pos 0)) < 2 ^ 13) (sym value) (samples_small b next k);
    }
