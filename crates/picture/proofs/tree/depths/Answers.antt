use Rattle.std.proofs.Common.{◌≤◌, ℕ, ◌+◌, List, [], ◌∷◌, sym, ap, subst, ◌∙◌, arith, drop}
use Rattle.std.specs.List.{AllByRecursion}
use Rattle.std.proofs.lemmas.List.{drop_more, drop_all}
use Rattle.picture.specs.Trees.{depths_from}
use Rattle.picture.specs.declared.tree.Node.{Node}
use Rattle.picture.proofs.Walking.{Reaches, starts, goes_on, ends, still_low}
use Rattle.picture.proofs.tree.depths.Goals as goal

pub loop-place-init : goal.loop-place-init
loop-place-init c =
    let waiting = c.in_ok-push_front.ensures.items ∙ ap (λ (q : List ℕ). 0 ∷ q) c.new-waiting.ensures.items in record {
      reaches = λ tree e. subst (λ (w : List ℕ). Reaches c.args.nodes.now w c.new-depths.result.items (depths_from 0 tree)) (sym waiting)
          (subst (λ (o : List ℕ). Reaches c.args.nodes.now (0 ∷ []) o (depths_from 0 tree)) (sym c.new-depths.ensures.items) (starts tree c.args.nodes.now e));
      low = subst (λ (w : List ℕ). AllByRecursion (λ d. d ≤ 0) w) (sym waiting) (omega arith, tt);
    }

pub loop-place-preserved : goal.loop-place-preserved
loop-place-preserved c =
    let xs = c.args.nodes.now in
    let k = c.loop-place.place in
    let out = c.loop-place.depths.items in
    let rest = c.pop_front.new.self.items in record {
      reaches = λ tree e. subst (λ (o : List ℕ). Reaches (drop (k + 1) xs) c.put_trees.new.waiting.items o (depths_from 0 tree)) (sym c.in_ok-push.ensures.items)
          (goes_on _ c.in-Some.depth rest c.put_trees.new.waiting.items out (depths_from 0 tree) (drop (k + 1) xs)
          (subst (λ (l : List Node). Reaches l (c.in-Some.depth ∷ rest) out (depths_from 0 tree)) (drop_more xs k _ c.loop-place-test.true)
          (subst (λ (w : List ℕ). Reaches (drop k xs) w out (depths_from 0 tree)) c.in-Some.ensures.items (c.loop-place.invariant.reaches tree e)))
          c.in_ok-put_trees.ensures.leaf c.in_ok-put_trees.ensures.split);
      low = still_low _ k c.in-Some.depth rest c.put_trees.new.waiting.items
          (subst (λ (w : List ℕ). AllByRecursion (λ d. d ≤ k) w) c.in-Some.ensures.items c.loop-place.invariant.low)
          c.in_ok-put_trees.ensures.leaf c.in_ok-put_trees.ensures.split;
    }

pub returns : goal.returns
returns c = λ tree e. ends c.loop-place.waiting.items c.loop-place.depths.items (depths_from 0 tree)
    (subst (λ (l : List Node). Reaches l c.loop-place.waiting.items c.loop-place.depths.items (depths_from 0 tree)) (drop_all c.loop-place.place c.args.nodes.now (omega arith))
    (c.loop-place.invariant.reaches tree e))
