use Rattle.tspinst.proofs.PlainPoints.{plain_points_read}
use Rattle.tspinst.proofs.PlainMatrix.{plain_matrices_read}
use Rattle.tspinst.proofs.laws.plain_texts_are_read.Goals as goal

pub returns-clause-points : goal.returns-clause-points
returns-clause-points c = plain_points_read

pub returns-clause-matrices : goal.returns-clause-matrices
returns-clause-matrices c = plain_matrices_read
