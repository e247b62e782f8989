use Rattle.cell_nodes.specs.declared.tree.Kind.TheVariants.{Ordinary, Pruned, Library, Proof, Update}
use Rattle.cell_nodes.proofs.Known.{hidden-node, kind-of}
use Rattle.cell_nodes.proofs.cell.Cell.hidden.Goals as goal

pub returns-in-Ordinary : goal.returns-in-Ordinary
returns-in-Ordinary c = hidden-node Ordinary _ _ _ c.deref.ensures c.self.view_is c.in-Ordinary.is

pub returns-in-Library : goal.returns-in-Library
returns-in-Library c = hidden-node Library _ _ _ c.deref.ensures c.self.view_is c.in-Library.is

pub returns-in-Proof : goal.returns-in-Proof
returns-in-Proof c = hidden-node Proof _ _ _ c.deref.ensures c.self.view_is c.in-Proof.is

pub returns-in-Update : goal.returns-in-Update
returns-in-Update c = hidden-node Update _ _ _ c.deref.ensures c.self.view_is c.in-Update.is

pub hidden_part-requires : goal.hidden_part-requires
hidden_part-requires c = kind-of _ _ _ Pruned c.deref.ensures c.self.view_is c.in-Pruned.is
