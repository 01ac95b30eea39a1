use Rattle.onetree.proofs.ascent.Valued.turns.Goals as goal

pub returns-then-degree-lt2-clause-leaf : goal.returns-then-degree-lt2-clause-leaf
returns-then-degree-lt2-clause-leaf c = λ no low. c.in_ok-raised.ensures.still no

pub returns-then-degree-gt2-clause-hub : goal.returns-then-degree-gt2-clause-hub
returns-then-degree-gt2-clause-hub c = λ no high. c.in_ok-lowered.ensures.still no
