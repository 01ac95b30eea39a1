use Rattle.std.proofs.Common.{◌≡◌, ◌-◌, ◌^◌, ℕ, ◌+◌, ◌<◌, min, sym, ap, subst, ◌∙◌, arith}
use Rattle.std.specs.List.{AllByRecursion}
use Rattle.std.proofs.lemmas.Nat.{pow_pos}
use Rattle.cyc.specs.Frac.{IsEntry}
use Rattle.tspplain.specs.Bits.{bit_of}
use Rattle.tspplain.specs.Crossings.{IsLeastCrossing}
use Rattle.tspplain.proofs.BitLemmas.{bit_of_within}
use Rattle.tspplain.proofs.CrossingLemmas.{least_with, least_of_proper}
use Rattle.tspplain.proofs.separation.least_of_all.Goals as goal

pub loop-set-preserved : goal.loop-set-preserved
loop-set-preserved c =
    let entries = c.args.x.now.entries in
    let set = c.loop-set.set in
    let kind : ℕ → Type 0 = λ s. 0 < s in
    record {
      end = omega arith;
      least = subst (IsLeastCrossing entries (set + 1) kind) (sym (c.min-least.ensures ∙ ap (min c.loop-set.least) c.crossing.ensures.value))
          (least_with entries set kind c.loop-set.least c.loop-set.invariant.least (omega arith));
    }

pub returns-clause-proper : goal.returns-clause-proper
returns-clause-proper c = λ entries few set some less.
    let m = c.args.x.now.n - 1 in
    let many = c.n.ensures.many in
    let same : m + 1 ≡ c.args.x.now.n = omega arith in
    let end : c.bit-set-end.result ≡ 2 ^ m = c.bit-set-end.ensures ∙ ap bit_of (c.saturating_sub.ensures ∙ ap (λ k. k - 1) c.n.ensures.value) ∙ bit_of_within m (omega arith) in
    let last : c.loop-set.set ≡ 2 ^ m = (let p = pow_pos m in omega arith) in
    least_of_proper m c.args.x.now.entries c.loop-set.least set
    (subst (λ k. IsLeastCrossing c.args.x.now.entries k (λ s. 0 < s) c.loop-set.least) last c.loop-set.invariant.least)
    (subst (λ k. AllByRecursion (IsEntry k) c.args.x.now.entries) (sym same) entries.each)
    some (subst (λ k. set + 1 < 2 ^ k) (sym same) less)
