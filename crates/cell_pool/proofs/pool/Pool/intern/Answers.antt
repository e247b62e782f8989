use Rattle.cell_pool.proofs.Interned.{meaning, few}
use Rattle.cell_pool.proofs.pool.Pool.intern.Goals as goal

pub returns-clause-meaning : goal.returns-clause-meaning
returns-clause-meaning c = meaning c.add.result c.args.self.now c.add.new.pool c.args.cell.now c.add.ensures.added c.add.ensures.number

pub returns-clause-few : goal.returns-clause-few
returns-clause-few c = few c.add.result c.args.self.now c.add.new.pool c.args.cell.now c.add.ensures.added c.add.ensures.partly
