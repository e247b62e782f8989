-- What a sink over standard output shows: how many of its puts have failed.
use Rattle.std.specs.Prelude.{ℕ}
use Rattle.tlb_edge.specs.declared.real.RealSink.{RealSink}

abbrev pub faults_of : {P : Type 0} → RealSink P → ℕ
faults_of s = s.faults
