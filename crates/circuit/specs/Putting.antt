-- What a put answers, writes and leaves.
use Rattle.std.specs.Prelude.{ℕ, ◌+◌, ◌-◌, ◌^◌, cond, List, [], ◌∷◌, map, length, ℤ, Some, None, Option, ◌==◌, nat_lt, slice_index, slice_index_or}
use Rattle.std.specs.Int.Signed.{mag}
use Rattle.words.specs.declared.faults.Layer.TheVariants.{Pair, Frame}
use Rattle.words.specs.Answers.{Answer, gives, refuses}
use Rattle.words.specs.Meaning.{Meaning, middle}
use Rattle.words.specs.Lists.{first_refused}
use Rattle.frames.specs.Frame.{Pair as Coded, frame_of, blank}
use Rattle.frames.specs.Content.{Listed, listed, coded}
use Rattle.pairs.specs.declared.pair.Pair.{Pair as Samples}
use Rattle.circuit.specs.declared.sender.Sent.{Sent}
use Rattle.circuit.specs.declared.sender.Sent.TheVariants.{Held, Written}
use Rattle.circuit.specs.declared.sender.Sender.{Sender}
use Rattle.pairs.specs.Sending.{sent_pair}

-- A coded pair from the lists of all that it has.
abbrev pub pair_from : Listed → Coded
pair_from l = record {
  word = λ block n. slice_index (slice_index_or l.words (block - 1) []) (n - 1);
  ranges = l.range_word;
  checks = λ block. slice_index l.check_words (block - 1);
}

-- A sender by what it holds: the pair that waits for its follower, and the coded pairs one and two before it.
pub record Source : Type 0 where
  pub held : Option (List ℤ)
  pub one : Listed
  pub two : Listed

abbrev pub samples_of : Option Samples → Option (List ℤ)
samples_of None = None
samples_of (Some pair) = Some pair.samples

abbrev pub source_of : Sender → Source
source_of s = record { held = samples_of s.held; one = listed (coded s.one); two = listed (coded s.two) }

abbrev pub fresh_source : Source
fresh_source = record { held = None; one = listed blank; two = listed blank }

-- What a put leaves, writes and answers.
pub record Put : Type 0 where
  pub source : Source
  pub frame : List ℕ
  pub answer : Answer Sent

-- The first value, counted from i, that is no sample.
abbrev pub first_outside : ℕ → List ℤ → Option ℕ
first_outside i [] = None
first_outside i (v ∷ vs) = cond (nat_lt (mag v) (2 ^ 13)) (first_outside (i + 1) vs) (Some i)

-- The buffer is measured first, then the count: 5, then 1.
abbrev pub measuring : ℕ → ℕ → Answer (Unit {0})
measuring count room = cond (room == 80) (cond (count == 64) (gives tt) (refuses 1 count Pair)) (refuses 5 room Frame)

module _ (s : Source) (frame : List ℕ) where
  abbrev pub refusing : Answer Sent → Put
  refusing a = record { source = s; frame = frame; answer = a }

  -- A pair is put: the first one is held; each later one lets the pair before it go.
  abbrev pub accepting : Option (List ℤ) → List ℤ → Put
  accepting None pair = record { source = record { held = Some pair; one = s.one; two = s.two }; frame = frame; answer = gives Held }
  accepting (Some held) pair = record {
    source = record { held = Some pair; one = listed (sent_pair held pair); two = s.one };
    frame = frame_of (sent_pair held pair) (pair_from s.one) (pair_from s.two);
    answer = gives Written;
  }

  -- Values are samples, or the first that is none is refused by 2.
  abbrev pub by_values : Option ℕ → List ℤ → Put
  by_values None values = accepting s.held values
  by_values (Some i) values = refusing (refuses 2 i Pair)

  abbrev pub valued : List ℤ → Put
  valued values = by_values (first_outside 0 values) values

  -- What is refused beforehand is put no more.
  abbrev pub unless_refused : Answer (Unit {0}) → Put → Put
  unless_refused (gives x) put = put
  unless_refused (refuses n p l) put = refusing (refuses n p l)

  abbrev pub putting : List ℤ → Put
  putting samples = unless_refused (measuring (length samples) (length frame)) (valued samples)

  -- Words are read, all of them before any value is looked at.
  abbrev pub putting_words : Meaning → List ℕ → Put
  putting_words law words = unless_refused (measuring (length words) (length frame)) (unless_refused (first_refused law.refusal 0 words) (valued (map (middle law) words)))
