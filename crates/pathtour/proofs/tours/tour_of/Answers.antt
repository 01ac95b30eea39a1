use Rattle.std.proofs.Common.{sym, subst}
use Rattle.std.proofs.lemmas.Option.{MatchOption-at_some, MatchOption-at_none, IfSome_then}
use Rattle.std.proofs.lemmas.Result.{IfOk-weaker}
use Rattle.tspdef.specs.Tours.{IsTour}
use Rattle.pathtour.specs.Neighbours.{LacksTwo, AreNeighbours}
use Rattle.pathtour.proofs.RoundLemmas.{round_is_used, none_used, none_weaker, lacking_used}
use Rattle.pathtour.proofs.tours.tour_of.Goals as goal

pub returns-in_default-clause-none : goal.returns-in_default-clause-none
returns-in_default-clause-none c =
    let n = c.args.path.now.n in
    let path = c.args.path.now.conditions in
    let lacks : LacksTwo n path = rw (sym c.n-n.ensures, sym c.conditions.ensures.value) (MatchOption-at_none _ _ c.in_default.is c.in_ok-pairs.ensures) in
    lacking_used n path c.requires.many c.conditions.ensures.is_path lacks

pub returns-clause-found : goal.returns-clause-found
returns-clause-found c =
    let n = c.args.path.now.n in
    let path = c.args.path.now.conditions in
    let near : AreNeighbours n path c.deref.result.now = rw (sym c.n-n.ensures, sym c.conditions.ensures.value, c.deref.ensures.value) (MatchOption-at_some _ _ c.in-Some.pairs c.in-Some.is c.in_ok-pairs.ensures) in
    IfOk-weaker c.round_along.result _ _ (λ t h. IfSome_then t h (λ tour p. round_is_used n path c.deref.result.now tour c.requires.many c.conditions.ensures.is_path near (rw (sym c.n-n.ensures) p.0) p.1)) c.round_along.ensures.found

pub returns-clause-none : goal.returns-clause-none
returns-clause-none c =
    let n = c.args.path.now.n in
    let path = c.args.path.now.conditions in
    let near : AreNeighbours n path c.deref.result.now = rw (sym c.n-n.ensures, sym c.conditions.ensures.value, c.deref.ensures.value) (MatchOption-at_some _ _ c.in-Some.pairs c.in-Some.is c.in_ok-pairs.ensures) in
    IfOk-weaker c.round_along.result _ _ (λ t h. none_weaker t (λ none. none_used n path c.deref.result.now c.requires.many c.conditions.ensures.is_path near (λ tour is. none tour (subst (λ k. IsTour k tour) (sym c.n-n.ensures) is))) h) c.round_along.ensures.none
