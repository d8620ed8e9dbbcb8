-- What a take or a loss answers, writes and leaves.
use Rattle.std.specs.Prelude.{ℕ, ◌+◌, cond, List, length, Some, None, Option, ◌==◌}
use Rattle.words.specs.declared.faults.Layer.TheVariants.{Pair}
use Rattle.words.specs.Answers.{Answer, gives, refuses}
use Rattle.words.specs.Meaning.{Meaning}
use Rattle.frames.specs.Content.{Listed}
use Rattle.frames.specs.Answers.{reading}
use Rattle.reception.specs.Arrivals.{Arrival}
use Rattle.reception.specs.Given.{Told}
use Rattle.reception.specs.Recording.{Recorded}
use Rattle.reception.specs.Records.{no_records, arrive_by, oldest_given, recent_of}
use Rattle.reception.specs.Reports.{report_told}
use Rattle.reception.specs.declared.report.Report.{Report}
use Rattle.circuit.specs.declared.receiver.Receiver.{Receiver}

-- A receiver by the arrivals that it has seen, three at the most, and its records, the newest first.
pub record Sink : Type 0 where
  pub seen : ℕ
  pub recent : List Recorded

abbrev pub sink_of : {O : Type 0} → Receiver O → Sink
sink_of r = record { seen = r.seen; recent = recent_of r.records }

abbrev pub fresh_sink : Sink
fresh_sink = record { seen = 0; recent = no_records }

-- What an accepted arrival is answered: the report on the pair given, none where it is too early for one.
abbrev pub outcome_of : Option Report → Option Told
outcome_of None = None
outcome_of (Some report) = Some (report_told report)

abbrev pub outcome : Answer (Option Report) → Answer (Option Told)
outcome (gives taken) = gives (outcome_of taken)
outcome (refuses n p l) = refuses n p l

-- What a take or a loss leaves, writes and answers.
pub record Took : Type 0 where
  pub sink : Sink
  pub words : List ℕ
  pub answer : Answer (Option Told)

-- The buffer is measured first: 6.
abbrev pub measuring : ℕ → Answer (Unit {0})
measuring room = cond (room == 64) (gives tt) (refuses 6 room Pair)

module _ (outlet : Meaning) (s : Sink) (words : List ℕ) where
  abbrev pub refusing : Answer (Option Told) → Took
  refusing a = record { sink = s; words = words; answer = a }

  -- The records with the new arrival: the first three are early, each later one gives the oldest pair.
  abbrev pub answering : List Recorded → Took
  answering recent =
      cond (s.seen == 3)
      (record { sink = record { seen = s.seen; recent = recent }; words = (oldest_given outlet recent).words; answer = gives (Some (oldest_given outlet recent).report) })
      (record { sink = record { seen = s.seen + 1; recent = recent }; words = words; answer = gives None })

  abbrev pub arriving : Arrival → Took
  arriving a = answering (arrive_by a s.recent)

  -- What is refused beforehand is taken no more.
  abbrev pub unless_refused : Answer (Unit {0}) → Took → Took
  unless_refused (gives x) took = took
  unless_refused (refuses n p l) took = refusing (refuses n p l)

  -- Octets that are no frame are refused.
  abbrev pub by_reading : List ℕ → Answer Listed → Took
  by_reading octets (gives content) = arriving (Some octets)
  by_reading octets (refuses n p l) = refusing (refuses n p l)

  abbrev pub taking : List ℕ → Took
  taking octets = unless_refused (measuring (length words)) (by_reading octets (reading octets))

  abbrev pub losing : Took
  losing = unless_refused (measuring (length words)) (arriving None)
