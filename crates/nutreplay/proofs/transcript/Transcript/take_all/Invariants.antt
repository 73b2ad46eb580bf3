use Rattle.std.proofs.Common.{◌≡◌, ◌-◌, ◌^◌, length}
use Rattle.nutreplay.specs.Transcript.{TranscriptState, TakesAgain, count_offered}
use Rattle.nutreplay.proofs.transcript.Transcript.take_all.Given as goal

-- what ends the taking from here on ends it from the first time on
abbrev pub invariant-loop-left : goal.invariant-loop-left
invariant-loop-left l = record {
  count : l.left ≡ count_offered l.peer l.self;
  ends : (t : TranscriptState) → TakesAgain l.line l.peer l.self t → TakesAgain l.line l.peer l.initial.self t;
}

-- each time one more taking is kept, and a vector has fewer than 2^64
abbrev pub decreases-loop-left : goal.decreases-loop-left
decreases-loop-left l = 2 ^ 64 - length l.self.taken
