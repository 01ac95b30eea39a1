use Rattle.std.proofs.Common.{◌≡◌, ◌^◌, ◌<◌, length, set, sym, ap, subst, ◌∙◌, arith}
use Rattle.std.specs.Prelude.{nat_abs, ◌+ℤ◌}
use Rattle.std.proofs.lemmas.Int.{ints}
use Rattle.onetree.specs.OneTrees.{IsHeldKarp, AreDuals}
use Rattle.onetree.specs.Ascents.{least_gain, moved, changed}
use Rattle.onetree.proofs.Changes.{same_read, same_dual, duals_set, set_is_changed, set_back, still_outside, still_by_value, value_as, has_as}
use Rattle.onetree.proofs.ascent.Valued.gains.Goals as goal

pub returns-in_default-clause-still : goal.returns-in_default-clause-still
returns-in_default-clause-still c = λ no.
    let p = c.args.self.now.duals.items in
    let d = c.requires.value.duals in
    let e = same_read p c.args.instance.now.n c.args.city c.index-old.result.now d c.requires.city c.index-old.ensures in
    still_outside c.args.instance.now p c.args.self.now.value c.args.city c.args.up d c.requires.city (subst (λ y. 2 ^ 62 < nat_abs (y +ℤ moved c.args.up least_gain)) (e.1 ∙ e.0) c.in_default.ensures.none)

pub returns-then-self-value-clause-value : goal.returns-then-self-value-clause-value
returns-then-self-value-clause-value c =
    let p = c.args.self.now.duals.items in
    let i = c.args.instance.now in
    let put : c.set_dual.new.duals.items ≡ set p c.args.city c.in-Some.new = c.set_dual.ensures ∙ ap (λ y. set p c.args.city y) (same_dual c.in-Some.new c.in-Some.ensures.size) in record {
      duals = subst (λ ps. AreDuals i.n ps) (sym put) (duals_set i.n p c.args.city c.in-Some.new c.in-Some.ensures.size c.requires.value.duals);
      value = value_as i c.set_dual.new.duals.items c.deref.result.now _ c.in_ok-value.value c.in_ok-value.ensures.value c.deref.ensures.value (omega (arith, ints));
    }

pub returns-clause-value : goal.returns-clause-value
returns-clause-value c =
    let p = c.args.self.now.duals.items in
    let d = c.requires.value.duals in
    let long : c.args.city < length p = let a = d.all in let b = c.requires.city in omega arith in
    let e = same_read p c.args.instance.now.n c.args.city c.index-old.result.now d c.requires.city c.index-old.ensures in
    let put : c.set_dual.new.duals.items ≡ set p c.args.city c.in-Some.new = c.set_dual.ensures ∙ ap (λ y. set p c.args.city y) (same_dual c.in-Some.new c.in-Some.ensures.size) in
    let back : c.set_dual-2.new.duals.items ≡ p = c.set_dual-2.ensures ∙ (ap (λ y. set c.set_dual.new.duals.items c.args.city y) e.1 ∙ (ap (λ ps. set ps c.args.city c.index-old.result.now) put ∙ set_back p c.args.city c.index-old.result.now c.in-Some.new long e.0)) in
    has_as c.args.instance.now _ p c.args.self.now.value c.requires.value back

pub returns-clause-duals : goal.returns-clause-duals
returns-clause-duals c = λ no.
    let p = c.args.self.now.duals.items in
    let d = c.requires.value.duals in
    let long : c.args.city < length p = let a = d.all in let b = c.requires.city in omega arith in
    let e = same_read p c.args.instance.now.n c.args.city c.index-old.result.now d c.requires.city c.index-old.ensures in
    let put : c.set_dual.new.duals.items ≡ set p c.args.city c.in-Some.new = c.set_dual.ensures ∙ ap (λ y. set p c.args.city y) (same_dual c.in-Some.new c.in-Some.ensures.size) in
    c.set_dual-2.ensures ∙ (ap (λ y. set c.set_dual.new.duals.items c.args.city y) e.1 ∙ (ap (λ ps. set ps c.args.city c.index-old.result.now) put ∙ set_back p c.args.city c.index-old.result.now c.in-Some.new long e.0))

pub returns-clause-still : goal.returns-clause-still
returns-clause-still c = λ no.
    let p = c.args.self.now.duals.items in
    let i = c.args.instance.now in
    let d = c.requires.value.duals in
    let m = moved c.args.up least_gain in
    let e = same_read p c.args.instance.now.n c.args.city c.index-old.result.now d c.requires.city c.index-old.ensures in
    let put : c.set_dual.new.duals.items ≡ set p c.args.city c.in-Some.new = c.set_dual.ensures ∙ ap (λ y. set p c.args.city y) (same_dual c.in-Some.new c.in-Some.ensures.size) in
    let same : c.deref.result.now ≡ changed p c.args.city m = c.deref.ensures.value ∙ (put ∙ set_is_changed p c.args.city c.index-old.result.now c.in-Some.new m e.0 (c.in-Some.ensures.some ∙ ap (λ y. y +ℤ m) e.1)) in
    still_by_value i p c.args.self.now.value c.in_ok-value.value c.args.city c.args.up c.requires.value c.requires.city
    (subst (λ ps. IsHeldKarp i ps c.in_ok-value.value) same c.in_ok-value.ensures.value) (omega (arith, ints))
