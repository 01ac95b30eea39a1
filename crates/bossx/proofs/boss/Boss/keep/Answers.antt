use Rattle.std.proofs.Common.{◌≡◌, ◌<◌, sym, subst}
use Rattle.tspdef.specs.Instances.{IsTourOf, length_in}
use Rattle.bossx.specs.Books.{Book, best_length}
use Rattle.bossx.proofs.Kept.{keep_kept}
use Rattle.bossx.proofs.boss.Boss.keep.Goals as goal

pub invariant_of-self : goal.invariant_of-self
invariant_of-self c =
    let is = subst (λ (b : Book). IsTourOf b.instance c.args.tour.now) (sym c.self.view_is) c.requires.tour in
    let long = subst (λ (b : Book). c.args.length ≡ length_in b.instance c.args.tour.now) (sym c.self.view_is) c.requires.long in
    let shorter = subst (λ (b : Book). c.args.length < best_length b) (sym c.self.view_is) c.requires.shorter in
    keep_kept c.self.inside c.replace.new.tour c.args.tour.now c.args.length c.self.invariant is long shorter c.replace.ensures
