use Rattle.std.proofs.Common.{◌+◌, ◌≤◌, length}
use Rattle.std.specs.Prelude.{vec_len, vec_capacity}
use Rattle.std.specs.Vec.Iter.{into_iter_items}
use Rattle.bossx.proofs.Playing.{IsPlayed}
use Rattle.bossx.proofs.boss.Boss.play.Given as goal

abbrev pub invariant-loop-event : goal.invariant-loop-event
invariant-loop-event l =
    (goal.iterator-loop-event).can_next l.event-iterator ×
    (goal.iterator-loop-event).is_finite l.event-iterator ×
    IsPlayed l.fn.self l.fn.events.items (into_iter_items l.event-iterator) l.replies.items l.self ×
    (vec_len l.replies + length (into_iter_items l.event-iterator) ≤ vec_capacity l.replies)
