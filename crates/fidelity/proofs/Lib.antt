-- From a pair put to the pair given. SentBlocks and SentPairs: what a pair is on the line. RangesTold, JudgingGuards, Judging: received
-- blocks are judged right. KeepPut, KeepClose, KeepGiven, Marked, Keeping: what is judged right is kept. Fidelity joins them.
pub mod Faithful
mod SentBlocks
mod SentPairs
mod RangesTold
mod JudgingGuards
mod Judging
mod KeepPut
mod KeepClose
mod KeepGiven
mod Marked
mod Keeping
pub mod Fidelity
