use Rattle.std.proofs.Common.{arith}
use Rattle.flips.proofs.Words.{is_flipped}
use Rattle.flips.proofs.Paths.{flip_short, flip_long}
use Rattle.flips.proofs.places.Places.reverse_span.Goals as goal

pub returns-then-count-others-clause-flips : goal.returns-then-count-others-clause-flips
returns-then-count-others-clause-flips c =
    let t = c.args.self.now in
    let u = c.reverse_places.new.self in
    let e = c.span-count.ensures in
    is_flipped _ _ _ _ (flip_short t.n c.args.start c.args.end c.span-count.result t.order.items u.order.items c.args.backward (omega (arith, t.order_size)) c.requires.first e.some e.few e.counted c.reverse_places.ensures.turned)

pub returns-else-count-others-clause-flips : goal.returns-else-count-others-clause-flips
returns-else-count-others-clause-flips c =
    let t = c.args.self.now in
    let u = c.reverse_places-else-count-others.new.self in
    let e = c.span-count.ensures in
    is_flipped _ _ _ _ (flip_long t.n c.args.start c.args.end c.span-count.result c.above-after.result t.order.items u.order.items c.args.backward (omega (arith, t.order_size)) c.requires.first e.some e.few e.counted c.above-after.ensures.value c.reverse_places-else-count-others.ensures.turned)
