use Rattle.std.proofs.Common.{◌≡◌, ◌<◌, length, get_or, sym, ◌∙◌, ap, arith, ⊎_elim, subst}
use Rattle.std.proofs.lemmas.List.{get_or-set_other}
use Rattle.std.proofs.lemmas.Grind.{get_or-set_at}
use Rattle.std.proofs.lemmas.Bool.{cases_eq}
use Rattle.flips.proofs.Tours.{apart_distinct, below_at, forth_from}
use Rattle.flips.proofs.places.places_of.Goals as goal

pub loop-k-preserved : goal.loop-k-preserved
loop-k-preserved c =
    let xs = c.args.cities.now in
    let k = c.loop-k.k in
    let v = c.loop-k.invariant in
    let ys = c.loop-k.place.items in
    let a = get_or xs k 0 in
    let n = length xs in
    let size = v.size in
    let inside : a < n = below_at n xs c.requires.tour.below k (omega arith) in
    let apart = apart_distinct xs c.requires.tour.distinct in
    record {
      size = v.size;
      within = λ m h. ⊎_elim
          (λ (e : m ≡ a). subst (λ t. t < n) (sym (get_or-set_at ys a m k 0 e (omega arith))) (omega arith))
          (λ (e : m ≡ a → ⊥). subst (λ t. t < n) (sym (get_or-set_other ys a m k 0 e)) (v.within m h))
          (cases_eq m a);
      back = λ m h. ⊎_elim
          (λ (e : m ≡ k). get_or-set_at ys a (get_or xs m 0) k 0 (ap (λ t. get_or xs t 0) e) (omega arith) ∙ sym e)
          (λ (e : m ≡ k → ⊥). get_or-set_other ys a (get_or xs m 0) k 0 (λ q. e (apart m k (omega arith) (omega arith) q)) ∙ v.back m (omega arith))
          (cases_eq m k);
    }

pub returns-clause-forth : goal.returns-clause-forth
returns-clause-forth c = λ a h. forth_from (length c.args.cities.now) c.args.cities.now c.loop-k.place.items c.requires.tour (λ k l. c.loop-k.invariant.back k (omega arith)) a h
