use Rattle.std.proofs.Common.{◌≡◌, drop}
use Rattle.pruning.specs.Blanked.{some_begin}
use Rattle.path_knowledge.proofs.knowing.some_begin.Given as goal

abbrev pub invariant-parts : goal.invariant-parts
invariant-parts l = some_begin (drop l.prefix-index l.unknown) l.key ≡ some_begin l.unknown l.key
