-- What a sink in memory shows: what was written, its room, its counts, and which puts fail.
use Rattle.std.specs.Prelude.{ℕ, ◌-◌, List, length, vec_capacity}
use Rattle.tlb_edge.specs.declared.sink.MemSink.{MemSink}

-- what was written
abbrev pub written_by : MemSink → List ℕ
written_by s = s.written.items

-- how many bytes it takes in all
abbrev pub room_of : MemSink → ℕ
room_of s = s.room

-- how many bytes its memory has place for
abbrev pub capacity_of : MemSink → ℕ
capacity_of s = vec_capacity s.written

-- how many more bytes it takes
abbrev pub room_left : MemSink → ℕ
room_left s = room_of s - length (written_by s)

-- how many puts there were, so that it is the number of the last one
abbrev pub puts_of : MemSink → ℕ
puts_of s = s.puts

-- how many puts have failed
abbrev pub faults_of : MemSink → ℕ
faults_of s = s.faults

-- the numbers of the puts that fail
abbrev pub failing_of : MemSink → List ℕ
failing_of s = s.failing.items
