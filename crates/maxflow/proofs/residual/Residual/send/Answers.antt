use Rattle.std.proofs.Common.{◌<◌, ◌≤◌, ℕ, get_or, sym, ◌∙◌, subst, arith}
use Rattle.std.proofs.lemmas.Grind.{get_or_default_zero}
use Rattle.maxflow.proofs.SearchLemmas.{via_apart, via_leads, via_still}
use Rattle.maxflow.proofs.residual.Residual.send.Goals as goal

pub send_over-here-requires-clause-leads : goal.send_over-here-requires-clause-leads
send_over-here-requires-clause-leads c =
    let t = c.args.search.now in
    let v = c.loop-here.invariant in
    let es = c.loop-here.self.edges.items in
    let a = c.index-amount.result.now in
    let o = v.via c.loop-here.here v.inside v.met c.loop-here-test.true (omega arith) in
    let e = c.index.ensures ∙ get_or_default_zero t.parent.items c.loop-here.here c.index.result.now (omega (arith, t.parent_size, v.inside)) in
    record {
      from = o.from;
      apart = via_apart es t.n t.rank.items t.parent.items t.amount.items c.loop-here.here o;
      leads = via_leads es t.n t.rank.items t.parent.items t.amount.items c.loop-here.here a c.index.result.now o e v.enough;
    }

pub loop-here-smaller : goal.loop-here-smaller
loop-here-smaller c =
    let t = c.args.search.now in
    let v = c.loop-here.invariant in
    let es = c.loop-here.self.edges.items in
    let a = c.index-amount.result.now in
    let o = v.via c.loop-here.here v.inside v.met c.loop-here-test.true (omega arith) in
    let e = c.index.ensures ∙ get_or_default_zero t.parent.items c.loop-here.here c.index.result.now (omega (arith, t.parent_size, v.inside)) in
    let f = c.send_over-here.ensures.from o.from (via_apart es t.n t.rank.items t.parent.items t.amount.items c.loop-here.here o) (via_leads es t.n t.rank.items t.parent.items t.amount.items c.loop-here.here a c.index.result.now o e v.enough) in
    subst (λ k. get_or t.rank.items k 0 < get_or t.rank.items c.loop-here.here 0) (sym f) o.before

at_most : (x y z : ℕ) → x ≤ y → y ≤ z → x ≤ z
at_most x y z h l = omega arith

less : (x y z : ℕ) → x ≤ y → y < z → x < z
less x y z h l = omega arith

below_too : (x y z : ℕ) → x ≤ y → y < z → x ≤ z
below_too x y z h l = omega arith

pub loop-here-preserved : goal.loop-here-preserved
loop-here-preserved c =
    let t = c.args.search.now in
    let v = c.loop-here.invariant in
    let es = c.loop-here.self.edges.items in
    let now = c.send_over-here.new.self.edges.items in
    let a = c.index-amount.result.now in
    let h = c.loop-here.here in
    let o = v.via h v.inside v.met c.loop-here-test.true (omega arith) in
    let e = c.index.ensures ∙ get_or_default_zero t.parent.items h c.index.result.now (omega (arith, t.parent_size, v.inside)) in
    let f = c.send_over-here.ensures.from o.from (via_apart es t.n t.rank.items t.parent.items t.amount.items h o) (via_leads es t.n t.rank.items t.parent.items t.amount.items h a c.index.result.now o e v.enough) in
    let b = o.before in
    let s = o.shrinks in
    let r = v.enough in
    record {
      size = c.send_over-here.ensures.size.0 ∙ v.size;
      edges = c.send_over-here.ensures.size.1 ∙ v.edges;
      inside = subst (λ k. k < t.n) (sym f) o.from_in;
      met = subst (λ k. 0 < get_or t.rank.items k 0) (sym f) o.known;
      enough = subst (λ k. a ≤ get_or t.amount.items k 0) (sym f) (at_most _ _ _ r s);
      via = λ w hw kw ns lw.
          let below : get_or t.rank.items w 0 ≤ get_or t.rank.items o.from 0 = subst (λ k. get_or t.rank.items w 0 ≤ get_or t.rank.items k 0) f lw in
          via_still es now t.n t.rank.items t.parent.items t.amount.items h w o (v.via w hw kw ns (below_too _ _ _ below b)) (less _ _ _ below b) c.send_over-here.ensures.size.1
          (λ i ne. c.send_over-here.ensures.others i (λ q. ne (q ∙ e)));
      moved = λ p. c.send_over-here.ensures.moved p ∙ v.moved p;
    }
