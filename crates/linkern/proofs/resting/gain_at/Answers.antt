use Rattle.std.proofs.Common.{◌≡◌, ◌+◌, ◌≤◌, true, length, sym, ◌∙◌}
use Rattle.tspdef.specs.Instances.{dist}
use Rattle.linkern.specs.Exchanges.{are_free}
use Rattle.linkern.proofs.RestLemmas.{two_before, pair_rests, less_at, at_most_at, not_free}
use Rattle.linkern.proofs.resting.gain_at.Goals as goal
use Rattle.linkern.proofs.resting.gain_at.Goals.{else-joined-d-via-then-joined-d+else-may_go, else-joined-d-via-else-joined-d, else-d-joined-via-then-d-joined+else-may_go-2, else-d-joined-via-else-d-joined}

pub returns-then-may_go-2 : goal.returns-then-may_go-2
returns-then-may_go-2 c = record {
  into = c.prev-p.ensures.follows;
  out_of = c.prev-q.ensures.follows;
  two = two_before (length c.args.tour.now) c.args.tour.now c.args.a c.args.c c.prev-p.result c.prev-q.result c.n-n.ensures.tour c.prev-p.ensures.follows c.prev-q.ensures.follows c.if-a-c.false;
  free = sym c.may_go-then-d-joined.ensures ∙ c.if-may_go-2.true;
  gain = less_at _ _ _ _ _ _ _ _ c.d-4.ensures.same c.d-joined.ensures.same c.d-5.ensures.same c.d-6.ensures.same c.if-d-joined.true;
}

pub returns : goal.returns
returns c =
    let i = c.args.instance.now in
    let a = c.args.a in
    let z = c.args.c in
    let b = c.next-b.result in
    let d = c.next-d.result in
    let p = c.prev-p.result in
    let q = c.prev-q.result in
    let ahead : are_free i a b z d ≡ true → dist i a b + dist i z d ≤ dist i a z + dist i b d = elim c.else-joined-d.branch [
      | else-joined-d-via-then-joined-d+else-may_go w ↦ not_free _ _ _ w.may_go.ensures w.if-may_go.false
      | else-joined-d-via-else-joined-d w ↦ λ free. at_most_at _ _ _ _ _ _ _ _ c.d-2.ensures.same c.d-3.ensures.same c.d-joined.ensures.same c.d.ensures.same w.if-joined-d.false
    ] in
    let behind : are_free i p a q z ≡ true → dist i p a + dist i q z ≤ dist i p q + dist i a z = elim c.else-d-joined.branch [
      | else-d-joined-via-then-d-joined+else-may_go-2 w ↦ not_free _ _ _ w.may_go-then-d-joined.ensures w.if-may_go-2.false
      | else-d-joined-via-else-d-joined w ↦ λ free. at_most_at _ _ _ _ _ _ _ _ c.d-5.ensures.same c.d-6.ensures.same c.d-4.ensures.same c.d-joined.ensures.same w.if-d-joined.false
    ] in
    pair_rests i (length c.args.tour.now) c.args.tour.now a z b d p q c.n-n.ensures.tour c.next-b.ensures.follows c.next-d.ensures.follows c.prev-p.ensures.follows c.prev-q.ensures.follows ahead behind
