use Rattle.std.proofs.Common.{◌≡◌, ◌≤◌, ◌-◌, ◌*◌, ◌<◌, ℕ, length, take}
use Rattle.tlb_edge.specs.Moves.{Writes}
use Rattle.tlb_files.specs.Counts.{RoseAtMost}
use Rattle.tlb_files.specs.Pieces.{pieces}
use Rattle.tlb_files.proofs.put.put_all.Given as goal

-- the prefix up to the place was put
abbrev pub invariant-loop-at : goal.invariant-loop-at
invariant-loop-at g l = record {
  within : l.at ≤ length l.text;
  put : Writes (g.K.Sink.written l.fn.sink) (g.K.Sink.written l.sink) (take l.at l.text);
  puts : RoseAtMost (pieces l.at) (g.K.Sink.puts l.fn.sink) (g.K.Sink.puts l.sink);
  whole : l.at < length l.text → pieces l.at * 256 ≡ l.at;
  calm : g.K.Sink.faults l.sink ≡ g.K.Sink.faults l.fn.sink;
}

abbrev pub decreases-loop-at : goal.decreases-loop-at
decreases-loop-at g l = length l.text - l.at
