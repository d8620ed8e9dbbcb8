use Rattle.std.proofs.Common.{◌≡◌, ◌+◌, ◌^◌, ◌<◌, get_or}
use Rattle.guards.specs.Bits.{number}
use Rattle.frames.proofs.sheet.Sheet.read_word.Given as goal

abbrev pub invariant-loop-place : goal.invariant-loop-place
invariant-loop-place l = (l.word ≡ number (λ k. get_or l.self.cells (l.run.start + get_or l.run.places.now k 0) 0) l.place-index) × (l.word < 2 ^ l.place-index)
