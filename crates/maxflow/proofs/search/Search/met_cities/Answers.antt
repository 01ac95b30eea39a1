use Rattle.std.proofs.Common.{◌≡◌, ◌+◌, sym, ◌∙◌, subst, get_or, arith}
use Rattle.std.proofs.lemmas.Bool.{lt-ltb, le-ltb}
use Rattle.std.proofs.lemmas.Grind.{get_or_default_zero}
use Rattle.maxflow.specs.Searches.{is_met}
use Rattle.maxflow.proofs.SideLemmas.{AreThoseBelow, those_push, those_skip}
use Rattle.maxflow.proofs.search.Search.met_cities.Goals as goal
use Rattle.maxflow.proofs.search.Search.met_cities.Goals.{After-index, then-index-gt0+in_ok-push, else-index-gt0}

read : (c : After-index) → c.index.result.now ≡ get_or c.args.self.now.rank.items c.loop-k.k 0
read c = let t = c.args.self.now in c.index.ensures ∙ get_or_default_zero t.rank.items c.loop-k.k c.index.result.now (let l = c.loop-k-test.true in omega (arith, t.rank_size, l))

pub loop-k-preserved : goal.loop-k-preserved
loop-k-preserved c =
    let is = read (goal.at.loop-k-preserved c).After-index in
    let rank = c.args.self.now.rank.items in
    let old = c.loop-k.cities.items in
    let k = c.loop-k.k in
    elim c.if-index-gt0.branch [
      | then-index-gt0+in_ok-push w ↦
          subst (λ xs. AreThoseBelow (k + 1) (is_met rank) xs.items) (sym w.cities-is)
          (subst (λ xs. AreThoseBelow (k + 1) (is_met rank) xs) (sym w.in_ok-push.ensures.items)
          (those_push k (is_met rank) old c.loop-k.invariant (lt-ltb 0 (get_or rank k 0) (let l = w.if-index-gt0.true in omega (arith, is, l)))))
      | else-index-gt0 w ↦
          subst (λ xs. AreThoseBelow (k + 1) (is_met rank) xs.items) (sym w.cities-is)
          (those_skip k (is_met rank) old c.loop-k.invariant (le-ltb 0 (get_or rank k 0) (let l = w.if-index-gt0.false in omega (arith, is, l))))
    ]
