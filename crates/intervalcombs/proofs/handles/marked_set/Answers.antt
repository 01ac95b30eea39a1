use Rattle.sepblos.proofs.MarkLemmas.{set_push, set_wider}
use Rattle.intervalcombs.proofs.handles.marked_set.Goals as goal
use Rattle.intervalcombs.proofs.handles.marked_set.Goals.{then-is_marked+in_ok-push, else-is_marked}

pub loop-city-preserved : goal.loop-city-preserved
loop-city-preserved c = elim c.if-is_marked.branch [
  | then-is_marked+in_ok-push w ↦ rw (w.cities-is, w.in_ok-push.ensures.items) (set_push c.loop-city.city c.loop-city.cities.items c.loop-city.invariant)
  | else-is_marked w ↦ rw w.cities-is (set_wider c.loop-city.city c.loop-city.cities.items c.loop-city.invariant)
]
