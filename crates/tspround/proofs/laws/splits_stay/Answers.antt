use Rattle.std.proofs.Common.{List, subst}
use Rattle.tspdef.specs.Paths.{root}
use Rattle.treebook.specs.Tables.{Node, tree_of}
use Rattle.tspround.specs.Splits.{SplitSince, kinds_of}
use Rattle.tspround.proofs.Growing.{all_more, grown_more}
use Rattle.tspround.proofs.laws.splits_stay.Goals as goal

pub returns-clause-from_root : goal.returns-clause-from_root
returns-clause-from_root g c = λ i l m gap first new alone le grown.
    let S = g.W.Worker.splits in
    all_more (kinds_of S i l gap) (kinds_of S i m gap) (λ at b may. g.W.Worker.splits_stay i at l m b gap le may) (root i) new
    (subst (λ (nodes : List Node). SplitSince S i l gap (tree_of nodes) new) alone grown)

pub returns-clause-since : goal.returns-clause-since
returns-clause-since g c = λ i l m gap first new le grown.
    let S = g.W.Worker.splits in
    grown_more (kinds_of S i l gap) (kinds_of S i m gap) (λ at b may. g.W.Worker.splits_stay i at l m b gap le may) (root i) first new grown
