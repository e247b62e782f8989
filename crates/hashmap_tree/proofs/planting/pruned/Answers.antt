use Rattle.std.proofs.Common.{◌≡◌, ◌<◌, ◌≤◌, length, Result, Ok, Err, sym, ap, ◌∙◌, ⊎_elim, arith}
use Rattle.std.proofs.lemmas.Bool.{cases_lt}
use Rattle.cell_nodes.specs.declared.tree.Mode.TheVariants.{Partial}
use Rattle.hashmap_tree.specs.Dict.{unseen}
use Rattle.hashmap_tree.specs.PrunedLaws.{hides-stored}
use Rattle.hashmap_tree.proofs.planting.pruned.Goals as goal

never : {A E : Type 0} (x : A) (e : E) → (◌≡◌ {A = Result A E} (Ok x) (Err e)) → ⊥
never x e h = cc

pub returns-in-Ok : goal.returns-in-Ok
returns-in-Ok c =
    let low : c.args.depth ≤ 1024 = ⊎_elim (λ (l : 1024 < c.args.depth). absurd (never _ _ (c.in-Ok.ensures.too_deep.1 l))) (λ (l : c.args.depth ≤ 1024). l) (cases_lt 1024 c.args.depth) in (
      ap (unseen Partial) c.in-Ok.ensures.made ∙ hides-stored _ (record { whole = omega arith; bytes = c.fits-hash; low = low }),
      c.good.ensures,
    )
