use Rattle.std.proofs.Common.{sym, ap, arith}
use Rattle.std.proofs.lemmas.Int.{ints}
use Rattle.onetree.specs.OneTrees.{IsOneTree, weight, reduced}
use Rattle.onetree.proofs.Home.{home_is_tree, home_is_least, two_pushed, pairs_below}
use Rattle.onetree.proofs.Growing.{reduced-sym}
use Rattle.onetree.proofs.tree.least_tree.Goals as goal

pub weigh-weight-requires-clause-below : goal.weigh-weight-requires-clause-below
weigh-weight-requires-clause-below c =
    let a = c.nearest_to_home-first in
    let b = c.nearest_to_home-second in
    let e = two_pushed c.in_ok-pairs.pairs.items c.push.new.self.items c.push-2.new.self.items (0, a.result) (0, b.result) c.in_ok-push.ensures.items c.in_ok-push-2.ensures.items in
    let t = home_is_tree c.args.instance.now.n c.in_ok-pairs.pairs.items a.result b.result c.in_ok-pairs.ensures.0 a.ensures.some a.ensures.below b.ensures.some b.ensures.below (λ q. b.ensures.other (sym q)) in
    let t2 : IsOneTree c.args.instance.now.n c.push-2.new.self.items = rw e t in
    rw c.deref.ensures.value (pairs_below c.args.instance.now.n c.push-2.new.self.items t2.within)

pub weigh-weight-requires-clause-few : goal.weigh-weight-requires-clause-few
weigh-weight-requires-clause-few c =
    let a = c.nearest_to_home-first in
    let b = c.nearest_to_home-second in
    let e = two_pushed c.in_ok-pairs.pairs.items c.push.new.self.items c.push-2.new.self.items (0, a.result) (0, b.result) c.in_ok-push.ensures.items c.in_ok-push-2.ensures.items in
    let t = home_is_tree c.args.instance.now.n c.in_ok-pairs.pairs.items a.result b.result c.in_ok-pairs.ensures.0 a.ensures.some a.ensures.below b.ensures.some b.ensures.below (λ q. b.ensures.other (sym q)) in
    let t2 : IsOneTree c.args.instance.now.n c.push-2.new.self.items = rw e t in
    let l = t2.all in
    let few = a.ensures.few in
    rw c.deref.ensures.value (omega arith)

pub returns-clause-tree : goal.returns-clause-tree
returns-clause-tree c =
    let a = c.nearest_to_home-first in
    let b = c.nearest_to_home-second in
    let e = two_pushed c.in_ok-pairs.pairs.items c.push.new.self.items c.push-2.new.self.items (0, a.result) (0, b.result) c.in_ok-push.ensures.items c.in_ok-push-2.ensures.items in
    let t = home_is_tree c.args.instance.now.n c.in_ok-pairs.pairs.items a.result b.result c.in_ok-pairs.ensures.0 a.ensures.some a.ensures.below b.ensures.some b.ensures.below (λ q. b.ensures.other (sym q)) in
    rw e t

pub returns-clause-least : goal.returns-clause-least
returns-clause-least c = λ pairs is.
    let a = c.nearest_to_home-first in
    let b = c.nearest_to_home-second in
    let f = reduced c.args.instance.now c.args.duals.now in
    let e = two_pushed c.in_ok-pairs.pairs.items c.push.new.self.items c.push-2.new.self.items (0, a.result) (0, b.result) c.in_ok-push.ensures.items c.in_ok-push-2.ensures.items in
    let low = home_is_least c.args.instance.now.n f c.in_ok-pairs.pairs.items a.result b.result (reduced-sym c.args.instance.now c.args.duals.now) c.in_ok-pairs.ensures
    (λ v v0 vn. a.ensures.least v v0 vn (λ q. omega arith)) (λ v v0 vn ne. b.ensures.least v v0 vn ne) pairs is in
    let same = ap (weight f) e in
    let whole = ap (weight f) c.deref.ensures.value in
    let value = c.weigh-weight.ensures.value in
    omega (arith, ints)
