use Rattle.std.proofs.Common.{◌≡◌, ◌+◌, ◌++◌, ℕ, List, Option, drop, length, map, string_bytes}
use Rattle.pruned_proof.specs.Proved.{path_views}
use Rattle.typed_value.specs.Paths.{Stride}
use Rattle.cli_stages.specs.PathWords.{AreBegun}
use Rattle.cli_stages.proofs.path_words.paths_of.Given as goal

-- the words so far write the paths so far, so what the others write comes after these
abbrev pub invariant-words : goal.invariant-words
invariant-words l = record {
  counted : l.number ≡ l.word-index + 1;
  as_many : length l.paths.items ≡ l.word-index;
  begun : (others : List (List Stride)) (bad : Option ℕ)
      → AreBegun l.number (drop l.word-index (map string_bytes l.words)) others bad
      → AreBegun 1 (map string_bytes l.words) (path_views l.paths.items ++ others) bad;
}
