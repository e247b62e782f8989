-- What a sink that never fails shows: how many puts there were.
use Rattle.std.specs.Prelude.{ℕ}
use Rattle.tlb_edge.specs.declared.sink.SureSink.{SureSink}

abbrev pub puts_of : SureSink → ℕ
puts_of s = s.puts
