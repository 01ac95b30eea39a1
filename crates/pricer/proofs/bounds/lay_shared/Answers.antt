use Rattle.std.proofs.Common.{◌^◌, arith, refl, sym, ◌∙◌, Some}
use Rattle.pricer.specs.Sizes.{IsWithin}
use Rattle.pricer.specs.Prices.{at}
use Rattle.pricer.proofs.SizeLemmas.{within_zero}
use Rattle.pricer.proofs.RowLemmas.{half_size}
use Rattle.pricer.proofs.bounds.lay_shared.Goals as goal

pub spread_cliques-requires : goal.spread_cliques-requires
spread_cliques-requires g c κs =
    let i = c.args.instance.now in
    let closing = c.requires.closing in
    let same = c.n-n.ensures.same in
    let kept = c.spread_cuts.auto.numbers in
    let long = c.requires.long in (
      (refl, tt),
      (
        c.requires.cities ∙ sym same,
        (
          omega arith,
          (
            rw c.conds.ensures closing.sizes.conds,
            (
              rw c.conds.ensures closing.counts.conds,
              λ k.
                  let empty : IsWithin (2 ^ 62) (at c.args.shared.now k) = rw (c.requires.empty k) (within_zero (2 ^ 62)) in
                  rw (c.spread_cuts.ensures k, c.cuts.ensures) (half_size i (g.T.Trail.conditions c.args.trail) c.args.closing.now (at c.args.shared.now k) (Some c.args.v) k c.n-n.ensures.instance.few closing empty),
            ),
          ),
        ),
      ),
    )
