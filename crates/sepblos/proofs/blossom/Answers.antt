use Rattle.sepblos.proofs.ToothLemmas.{blossom_or_none}
use Rattle.cutform.specs.Cut.{cities_of_each}
use Rattle.sepblos.proofs.blossom.Goals as goal

pub returns-clause-blossom : goal.returns-clause-blossom
returns-clause-blossom c =
    let teeth = c.in_ok-teeth.ensures in
    blossom_or_none c.args.x.now c.args.handle.now (cities_of_each c.in_ok-teeth.teeth.items) c.in_ok-cut.cut teeth.value c.requires.set teeth.teeth c.in_ok-cut.ensures.comb
