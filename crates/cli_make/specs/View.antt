-- Values of this crate, seen without where they lie in memory.
use Rattle.std.specs.Prelude.{ℕ, ◌≡◌, List, Vec, length}
use Rattle.std.specs.declared.alloc.Global.{Global}
use Rattle.bag_cells.specs.Written.{bag_of}
use Rattle.cell_pool.specs.Post.{post}
use Rattle.cli_make.specs.declared.written.Written.{Written}

abbrev pub text_by : Vec ℕ Global → List ℕ
text_by text = text.items

-- its bag is that of its cell, and it counts the distinct cells below it
abbrev pub IsWritten : Written → Type 0
IsWritten w = (w.cells ≡ length (post w.cell)) × (w.bag.items ≡ bag_of w.cell)
