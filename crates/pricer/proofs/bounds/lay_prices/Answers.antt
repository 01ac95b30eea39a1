use Rattle.std.proofs.Common.{◌^◌, arith, refl, sym, ◌∙◌, None}
use Rattle.pricer.specs.Sizes.{IsWithin}
use Rattle.pricer.specs.Prices.{at}
use Rattle.pricer.proofs.SizeLemmas.{city_size}
use Rattle.pricer.proofs.RowLemmas.{half_size}
use Rattle.pricer.proofs.bounds.lay_prices.Goals as goal

pub spread_cliques-requires : goal.spread_cliques-requires
spread_cliques-requires g c κs =
    let i = c.args.instance.now in
    let path = g.T.Trail.conditions c.args.trail in
    let closing = c.requires.closing in
    let same = c.n-n.ensures.same in
    let kept = c.spread_cuts.auto.numbers in
    let first = c.lay_duals.auto.price in
    let long = c.requires.long in (
      (refl, tt),
      (
        c.requires.cities ∙ sym same,
        (
          omega arith,
          (
            rw c.conds.ensures closing.sizes.conds,
            (
              rw c.conds.ensures closing.counts.conds,
              λ k.
                  let dual : IsWithin (2 ^ 62) (at c.lay_duals.new.price k) = rw (c.lay_duals.ensures k, c.city.ensures) (city_size i.n path c.args.closing.now k closing) in
                  rw (c.spread_cuts.ensures k, c.cuts.ensures) (half_size i path c.args.closing.now (at c.lay_duals.new.price k) None k c.n-n.ensures.instance.few closing dual),
            ),
          ),
        ),
      ),
    )
