-- What loading does to a shelf, by how it ends.
use Rattle.std.specs.Prelude.{◌≡◌, ℕ, ◌+◌, ◌<◌, List, length, Option, Some, slice_get}
use Rattle.tlb_edge.specs.Causes.{Rose}
use Rattle.tlb_edge.specs.Files.{Files}
use Rattle.tlb_files.specs.Contents.{AreShort, IsLoading}
use Rattle.tlb_files.specs.Counts.{Counts, FileName, Opens}
use Rattle.tlb_files.specs.Loading.{too_long, loaded}
use Rattle.tlb_files.specs.View.{file_by}
use Rattle.tlb_files.specs.declared.load.LoadError.{LoadError}
use Rattle.tlb_files.specs.declared.load.LoadError.TheVariants.{Fault, TooLong, NoMemory}

-- this file was opened last, after those before it
pub record OpensLast (files : List FileName) (before now : Counts) (file : FileName) : Type 0 where
  pub place : ℕ
  pub found : slice_get files place ≡ Some file
  pub opens : Opens files (place + 1) before now

-- each file was opened, and no call failed
pub record LoadsAll (held : Option Files) (files : List FileName) (before now : Counts)
    (contents : List (List ℕ)) : Type 0 where
  pub opens : Opens files (length files) before now
  pub calm : now.faults ≡ before.faults
  pub short : AreShort files contents
  pub holds : IsLoading held files (loaded contents)

-- a call failed at this file
pub record Fails (files : List FileName) (before now : Counts) (file : FileName) : Type 0 where
  pub last : OpensLast files before now file
  pub rose : Rose before.faults now.faults

-- the reads of this file gave more than its limit, and no call failed
pub record IsTooLong (held : Option Files) (files : List FileName) (before now : Counts)
    (file : FileName) : Type 0 where
  pub last : OpensLast files before now file
  pub more : file.limit < now.given
  pub calm : now.faults ≡ before.faults
  pub holds : IsLoading held files (too_long file)

-- memory ended after some of the files were opened, and no call failed
pub record EndsEarly (files : List FileName) (before now : Counts) : Type 0 where
  pub count : ℕ
  pub opens : Opens files count before now
  pub calm : now.faults ≡ before.faults

-- why loading stopped
abbrev pub Stops : Option Files → List FileName → Counts → Counts → LoadError → Type 0
Stops held files before now (Fault file) = Fails files before now (file_by file)
Stops held files before now (TooLong file) = IsTooLong held files before now (file_by file)
Stops held files before now NoMemory = EndsEarly files before now
