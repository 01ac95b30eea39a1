use Rattle.std.proofs.Common.{◌≡◌, ◌<◌, ◌++◌, ◌∷◌, [], arith, subst}
use Rattle.std.proofs.lemmas.List.{append-nil, length_push}
use Rattle.pathtour.specs.Neighbours.{two_at}
use Rattle.pathtour.specs.Rounds.{other_of, IsRound}
use Rattle.pathtour.proofs.RoundLemmas.{other_below, walk_ends, walk_begins, walk_none}
use Rattle.pathtour.proofs.rounds.walk.Goals as goal
use Rattle.pathtour.proofs.rounds.walk.Goals.{then-to-eq0, else-to-eq0}

pub loop-preserved : goal.loop-preserved
loop-preserved c =
    let pairs = c.args.pairs.now in
    let cities = c.loop.cities.items in
    let from = c.loop.from in
    let to = c.loop.to in
    let next = c.other-next.result in
    let more : c.push-in-loop.new.self.items ≡ cities ++ to ∷ [] = c.in_ok-push-2.ensures.items in
    record {
      long = rw more (omega (arith, length_push cities to));
      within = rw c.other-next.ensures (subst (λ k. other_of (two_at pairs to) from < k) c.requires.long (other_below (two_at pairs to) from _ (c.requires.within to (omega arith))));
      ends = rw more (walk_ends pairs cities from to next c.other-next.ensures c.loop.invariant.ends);
      begins = rw more (walk_begins c.args.n pairs cities from to next c.other-next.ensures (omega arith) c.loop.invariant.begins);
    }

pub returns : goal.returns
returns c =
    let pairs = c.args.pairs.now in
    let cities = c.loop.cities.items in
    elim c.if-to-eq0.branch [
      | then-to-eq0 w ↦ rw w.result-is (omega arith, subst (IsRound pairs) (append-nil cities) (c.loop.invariant.ends [] w.if-to-eq0.true))
      | else-to-eq0 w ↦ rw w.result-is (walk_none c.args.n pairs cities c.loop.from c.loop.to (omega arith) w.if-to-eq0.false c.loop.invariant.begins)
    ]
