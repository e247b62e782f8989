-- What a shelf over the files of the system shows: whether a file is open, and its counts.
use Rattle.std.specs.Prelude.{ℕ, Bool, is_some}
use Rattle.tlb_edge.specs.declared.real.RealShelf.{RealShelf}

module _ {R File Dir : Type 0} where
  -- whether a file is open
  abbrev pub some_open : RealShelf R File Dir → Bool
  some_open s = is_some s.file

  -- how many bytes were handed out since the last open
  abbrev pub given_of : RealShelf R File Dir → ℕ
  given_of s = s.given

  -- how many calls of open there were
  abbrev pub opens_of : RealShelf R File Dir → ℕ
  opens_of s = s.opens

  -- how many calls have failed
  abbrev pub faults_of : RealShelf R File Dir → ℕ
  faults_of s = s.faults
