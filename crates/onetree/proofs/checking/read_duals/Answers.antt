use Rattle.std.proofs.Common.{◌-◌, ◌++◌, ◌^◌, ◌<◌, ◌≤◌, [], ◌∷◌, length, map, set, refl, sym, ap, ◌∙◌, arith}
use Rattle.std.proofs.lemmas.List.{length-append, length-map}
use Rattle.verdict.proofs.Lines.{rises_length}
use Rattle.certdef.specs.Items.{city_line}
use Rattle.certdef.specs.Accepted.{duals_from}
use Rattle.onetree.specs.Readings.{next_city}
use mir.Syntax.{w64}
use mir.Val.{to_z, of_z}
use Rattle.onetree.proofs.Changes.{same_dual}
use Rattle.onetree.proofs.CertificateLemmas.{one_item, same_city}
use Rattle.onetree.proofs.DualLemmas.{none_yet, city_form, shorter, rising_pushed, rising_last, next_pushed, duals_pushed, length_duals, text_pushed}
use Rattle.onetree.proofs.checking.read_duals.Goals as goal

pub loop-rest-init : goal.loop-rest-init
loop-rest-init c = record { ps = []; so_far = refl; rising = record { fit = tt; rise = refl }; last = refl; place = refl; duals = c.requires.zeros ∙ none_yet 1 c.args.n }

pub returns-then-city-last : goal.returns-then-city-last
returns-then-city-last c =
    let l = c.loop-rest.invariant in
    let n = c.args.n in
    let rest = c.loop-rest.rest.now in
    let begins = rw c.in-Some.is at c.in_ok-city.ensures.some in
    let few : n < 2 ^ 32 = let f = c.requires.few in omega arith in record {
      said_duals = l.ps;
      rest = rest;
      whole = l.so_far;
      rising = l.rising;
      place = l.place;
      stuck = λ v y more h r.
          let same = same_city c.in-Some.city v c.in-Some.dual y (one_item n rest (city_line c.in-Some.city c.in-Some.dual) (city_line v y) c.in-Some.behind.now more few begins h).0 in
          let low = rising_last n l.ps v y r in
          let last = l.last in
          let test = c.if-city-last.true in
          omega arith;
      some = λ e. let s = shorter n rest c.in-Some.behind.now (city_line c.in-Some.city c.in-Some.dual) begins in let z = ap length e in omega arith;
    }

pub index_mut-requires : goal.index_mut-requires
index_mut-requires c =
    let l = c.loop-rest.invariant in
    let begins = rw c.in-Some.is at c.in_ok-city.ensures.some in
    let form = city_form c.args.n c.in-Some.city c.in-Some.dual begins.1 in
    let a = ap length l.duals in
    let b = length_duals l.ps 1 c.args.n in
    let o = c.loop-rest.duals.ok in
    omega arith

pub overflow_add-line : goal.overflow_add-line
overflow_add-line c =
    let l = c.loop-rest.invariant in
    let few = c.requires.few in
    let p = l.place in
    let m = length-map l.ps (λ p. p.0) in
    let s = rises_length 1 c.args.n (map (λ p. p.0) l.ps) (omega arith) l.rising.rise in
    omega arith

pub loop-rest-preserved : goal.loop-rest-preserved
loop-rest-preserved c =
    let l = c.loop-rest.invariant in
    let n = c.args.n in
    let v = c.in-Some.city in
    let y = c.in-Some.dual in
    let begins = rw c.in-Some.is at c.in_ok-city.ensures.some in
    let form = city_form n v y begins.1 in
    let low : next_city 1 l.ps ≤ v = let last = l.last in let test = c.if-city-last.false in omega arith in
    let long = length-append l.ps ((v, y) ∷ []) in
    let p = l.place in record {
      ps = l.ps ++ (v, y) ∷ [];
      so_far = text_pushed c.args.text.now c.loop-rest.rest.now c.in-Some.behind.now l.ps v y l.so_far begins.0;
      rising = rising_pushed n l.ps v y l.rising begins.1 low;
      last = next_pushed 1 l.ps v y;
      place = omega arith;
      duals = ap (λ zs. set zs (v - 1) (to_z w64 (of_z w64 y))) l.duals ∙ (ap (λ x. set (duals_from l.ps 1 n) (v - 1) x) (same_dual y form.size) ∙ sym (duals_pushed n l.ps v y l.rising begins.1 low));
    }
