use Rattle.tspinst.proofs.TableLemmas.{put_table}
use Rattle.tspinst.proofs.square.set_distance.Goals as goal

pub returns-clause-table : goal.returns-clause-table
returns-clause-table c = put_table c.args.n c.args.table.now c.args.u c.args.v c.args.d c.requires.table c.requires.from c.requires.to c.requires.apart c.requires.small
