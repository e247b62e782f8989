-- `hash BAG`: the hash and the depth of the bag's root at each level from 0 to its own.
use Rattle.std.specs.Prelude.{ℕ, zero, suc, List, [], ◌∷◌, ◌++◌, codes, decimal}
use Rattle.hex.specs.Hex.{encode_lower}
use Rattle.cell_nodes.specs.Levels.{level_of}
use Rattle.cell_nodes.specs.Tree.{depth, hash as hash_at, mask}
use Rattle.cell_nodes.specs.declared.tree.Tree.{Tree}
use Rattle.cli_refusals.specs.Lines.{line_of, spaced}
use Rattle.cli_refusals.specs.Refusal.{Answer}
use Rattle.cli_stages.specs.Bag.{Bag as BagStage}
use Rattle.cli_stages.specs.Stage.{Gives, IsStage, Next}
use Rattle.cli_stages.specs.StageLaws.{last-stage, next-stage}
use Rattle.cli_stages.specs.Stages.{Stages}
use Rattle.cli_commands.specs.Command.{Command, at}
use Rattle.cli_commands.specs.declared.slot.Slot.TheVariants.{Bag}

-- a level, and the cell's hash and depth at it
abbrev pub level_line : Tree → ℕ → List ℕ
level_line t level =
    line_of (spaced (spaced (decimal level) (encode_lower (hash_at t level))) (decimal (depth t level)))

-- the lines of the levels from 0 to this one
abbrev pub level_lines : Tree → ℕ → List ℕ
level_lines t zero = level_line t 0
level_lines t (suc level) = level_lines t level ++ level_line t (suc level)

abbrev pub Hashes : List ℕ → Answer → Type 0
Hashes bag = Next (BagStage bag) (λ root. Gives (level_lines root (level_of (mask root))))

pub hashes_once : Stages → (bag : List ℕ) → IsStage (Hashes bag)
hashes_once stages bag = next-stage (stages.bag bag) (λ root given. last-stage _)

abbrev pub hash : Command
hash = record {
  word = codes "hash";
  slots = λ count. Bag ∷ [];
  Answers = λ words contents. Hashes (at contents 0);
  answers_once = λ stages words contents. hashes_once stages (at contents 0);
}
