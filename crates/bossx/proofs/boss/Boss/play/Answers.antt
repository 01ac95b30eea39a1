use Rattle.std.proofs.Common.{rules, arith, ◌≡◌, List, [], ◌∷◌, ◌++◌, length, sym, ap, subst}
use Rattle.std.specs.Vec.Iter.{into_iter_items}
use Rattle.bossx.specs.declared.events.Event.{Event}
use Rattle.bossx.specs.declared.events.Reply.{Reply}
use Rattle.bossx.proofs.Playing.{IsPlayed, none_played, one_more}
use Rattle.bossx.proofs.boss.Boss.play.Goals as goal

pub loop-event-init : goal.loop-event-init
loop-event-init c =
    let b = c.args.self.now in
    let gives : into_iter_items c.into_iter-event-iterator.result ≡ c.args.events.items = search rules in
    let none : c.in_ok-replies.replies.items ≡ [] = search rules in
    let many = ap length gives in
    let all = c.len.ensures in
    let empty = c.in_ok-replies.ensures.len in
    let room = c.in_ok-replies.ensures.capacity in (
      tt,
      tt,
      subst (λ (es : List Event). IsPlayed b c.args.events.items es c.in_ok-replies.replies.items b) (sym gives)
          (subst (λ (rs : List Reply). IsPlayed b c.args.events.items c.args.events.items rs b) (sym none) (none_played b c.args.events.items c.requires)),
      omega (arith, many, all, empty, room),
    )

pub loop-event-preserved : goal.loop-event-preserved
loop-event-preserved c =
    let front : into_iter_items c.loop-event.event-iterator ≡ c.in-Some.event ∷ into_iter_items c.next.new.self = search rules in
    let less = ap length front in
    let long = c.push_reserved.ensures.len in
    let same = c.push_reserved.ensures.capacity in
    let room = c.loop-event.invariant.3 in
    let pushed : c.push_reserved.new.self.items ≡ c.loop-event.replies.items ++ c.act-reply.result ∷ [] = search rules in (
      tt,
      tt,
      subst (λ (rs : List Reply). IsPlayed c.args.self.now c.args.events.items (into_iter_items c.next.new.self) rs c.act-reply.new.self) (sym pushed)
          (one_more c.args.self.now c.loop-event.self c.act-reply.new.self c.args.events.items (into_iter_items c.next.new.self) c.loop-event.replies.items c.in-Some.event c.act-reply.result
          (subst (λ (es : List Event). IsPlayed c.args.self.now c.args.events.items es c.loop-event.replies.items c.loop-event.self) front c.loop-event.invariant.2) c.act-reply.ensures),
      omega (arith, less, long, same, room),
    )
