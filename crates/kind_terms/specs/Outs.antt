-- The `~` that stand in expressions.
use Rattle.std.specs.Prelude.{List, [], ◌∷◌, filter, option_map, Option}
use Rattle.kind_terms.specs.declared.outs.Outs.{Outs as ProgramOuts}
use Rattle.kind_terms.specs.declared.outs.Outs.TheVariants.{Nothing, One, Several}
use Rattle.tlb_syntax.specs.Tree.{ExprView}
use Rattle.kind_terms.specs.Words.{Word}
use Rattle.kind_terms.specs.Forms.{is_out, out_name}

-- none, one with the x of `~x`, or more
pub data Outs : Type 0 where
  nothing : Outs
  one : Option Word → Outs
  several : Outs

abbrev pub outs_by : ProgramOuts → Outs
outs_by Nothing = nothing
outs_by (One x) = one (option_map (λ n. n.now) x)
outs_by Several = several

abbrev pub summary : List ExprView → Outs
summary [] = nothing
summary (e ∷ []) = one (out_name e)
summary (e ∷ f ∷ es) = several

abbrev pub outs_of : List ExprView → Outs
outs_of es = summary (filter is_out es)

abbrev pub joined : Outs → Outs → Outs
joined nothing b = b
joined (one x) nothing = one x
joined (one x) (one y) = several
joined (one x) several = several
joined several b = several
