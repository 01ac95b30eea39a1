use Rattle.std.proofs.Common.{◌≡◌, ◌<◌, ℕ, ◌+◌, ◌==◌, true, false, ◌^◌, List, slice_index, sym, ◌∙◌, subst, arith}
use Rattle.std.proofs.lemmas.Bool.{lt-ltb, le-ltb}
use Rattle.tspdef.specs.Sets.{IsSet}
use Rattle.maxflow.specs.Searches.{is_met}
use Rattle.maxflow.proofs.FlowLemmas.{ends_least}
use Rattle.maxflow.specs.Crossings.{crossing}
use Rattle.maxflow.specs.Edges.{room}
use Rattle.maxflow.proofs.CrossingLemmas.{one_holds, one_free, total_fits}
use Rattle.maxflow.proofs.route.flow_below.Goals as goal

pub loop-t-init : goal.loop-t-init
loop-t-init c = record {
  residual_size = c.in_ok-residual.ensures.size;
  size = c.in_ok-search.ensures.same.0;
  start = c.in_ok-search.ensures.same.1;
  tree = c.in_ok-search.ensures.tree c.in_ok-residual.residual.edges.items;
  balance = λ p h l. let z = c.in_ok-residual.ensures.whole p in omega arith;
}

pub overflow_add-value : goal.overflow_add-value
overflow_add-value c =
    let p = λ (k : ℕ). k == c.args.s in
    let v = c.loop-t.invariant in
    let found = c.in-Some.ensures.found in
    let holds = one_holds c.args.s in
    let lacks = one_free c.args.n c.args.s c.args.stops.now c.requires.free in
    let b = v.balance p holds lacks in
    let s = c.send.ensures.sent p (subst (λ k. (k == c.args.s) ≡ true) (sym (c.in-Some.ensures.same.1 ∙ v.start)) holds) (lacks c.in-Some.t (omega arith) found.1.0) in
    let z = total_fits c.loop-t.value c.send.result (room c.send.new.self.edges.items p) (room c.loop-t.residual.edges.items p) (crossing c.args.pairs.now p) b s (c.requires.small p) in
    let k : c.loop-t.value + c.from-value.result < 2 ^ 64 = subst (λ y. c.loop-t.value + y < 2 ^ 64) (sym c.from-value.ensures) z in
    omega (arith, k)

more : (value sent result new old whole : ℕ) → result ≡ sent → value + old ≡ whole → new + sent ≡ old → value + result + new ≡ whole
more value sent result new old whole e b s = omega arith

pub loop-t-preserved : goal.loop-t-preserved
loop-t-preserved c =
    let v = c.loop-t.invariant in
    let found = c.in-Some.ensures.found in
    record {
      residual_size = c.send.ensures.size.0 ∙ v.residual_size;
      size = c.restart.ensures.same.0 ∙ c.in-Some.ensures.same.0 ∙ v.size;
      start = c.restart.ensures.same.1 ∙ c.in-Some.ensures.same.1 ∙ v.start;
      tree = c.restart.ensures.tree c.send.new.self.edges.items;
      balance = λ p h l. more c.loop-t.value c.send.result c.from-value.result (room c.send.new.self.edges.items p) (room c.loop-t.residual.edges.items p) (crossing c.args.pairs.now p)
          c.from-value.ensures (v.balance p h l)
          (c.send.ensures.sent p (subst (λ k. p k ≡ true) (sym (c.in-Some.ensures.same.1 ∙ v.start)) h) (l c.in-Some.t (omega arith) found.1.0));
    }

met_at : (rank : List ℕ) (start s : ℕ) → start ≡ s → 0 < slice_index rank start → is_met rank s ≡ true
met_at rank start s e h = subst (λ k. is_met rank k ≡ true) e (lt-ltb 0 (slice_index rank start) h)

unmet_at : (rank : List ℕ) (k : ℕ) → slice_index rank k ≡ 0 → is_met rank k ≡ false
unmet_at rank k e = le-ltb 0 (slice_index rank k) (omega arith)

pub returns : goal.returns
returns c =
    let v = c.loop-t.invariant in
    let found = c.in_default.ensures.found in
    let rank = c.reach.new.self.rank.items in
    let side = c.in_ok-side.ensures in (
      ends_least (record { n = c.args.n; entries = c.args.pairs.now }) c.loop-t.residual.edges.items c.args.s c.args.stops.now (is_met rank)
          (record { value = c.loop-t.value; side = c.in_ok-side.side }) v.balance
          (met_at rank c.reach.new.self.start c.args.s (c.in_default.ensures.same.1 ∙ v.start) c.in_default.ensures.tree.start_met)
          (λ k h t. unmet_at rank k (found.0 k (omega arith) t)) found.1
          (side.cities ∙ c.in_default.ensures.same.0 ∙ v.size)
          (subst (λ n. IsSet n c.in_ok-side.side.cities) (c.in_default.ensures.same.0 ∙ v.size) side.set)
          side.met,
      c.if-value-limit-2.false,
    )
