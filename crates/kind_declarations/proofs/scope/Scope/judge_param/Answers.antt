use Rattle.std.proofs.Common.{◌∙◌, [], ap, sym, refl}
use Rattle.tlb_syntax.specs.Tree.{an_expr, no_exprs}
use Rattle.kind_terms.specs.SumLaws.{of_sum}
use Rattle.kind_declarations.specs.Faults.{verdict}
use Rattle.kind_declarations.specs.Nodes.{output_nodes}
use Rattle.kind_declarations.specs.Views.{item_context}
use Rattle.kind_declarations.proofs.OutputNodes.{no_out}
use Rattle.kind_declarations.proofs.Verdicts.{verdict_none}
use Rattle.kind_declarations.proofs.scope.Scope.judge_param.Goals as goal

pub returns-in-Lit : goal.returns-in-Lit
returns-in-Lit c = no_out _ (item_context c.args.self.now) c.in-Lit.is

pub returns-in-Sum : goal.returns-in-Sum
returns-in-Sum c =
    sym (ap verdict (of_sum (λ v. output_nodes (an_expr v no_exprs) (item_context c.args.self.now)) [] (λ a b. refl) _ _ _ _ c.in-Sum.is))
    ∙ verdict_none

pub returns-in-Lit-2 : goal.returns-in-Lit-2
returns-in-Lit-2 c = no_out _ (item_context c.args.self.now) c.in-Lit.is

pub returns-in-Lit-3 : goal.returns-in-Lit-3
returns-in-Lit-3 c = no_out _ (item_context c.args.self.now) c.in-Lit.is

pub returns-in-Lit-4 : goal.returns-in-Lit-4
returns-in-Lit-4 c = no_out _ (item_context c.args.self.now) c.in-Lit.is

pub returns-in-Lit-5 : goal.returns-in-Lit-5
returns-in-Lit-5 c = no_out _ (item_context c.args.self.now) c.in-Lit.is

pub returns-in-Lit-6 : goal.returns-in-Lit-6
returns-in-Lit-6 c = no_out _ (item_context c.args.self.now) c.in-Lit.is

pub returns-in-Lit-7 : goal.returns-in-Lit-7
returns-in-Lit-7 c = no_out _ (item_context c.args.self.now) c.in-Lit.is

pub returns-in-Lit-8 : goal.returns-in-Lit-8
returns-in-Lit-8 c = no_out _ (item_context c.args.self.now) c.in-Lit.is

pub returns-in-Lit-9 : goal.returns-in-Lit-9
returns-in-Lit-9 c = no_out _ (item_context c.args.self.now) c.in-Lit.is
