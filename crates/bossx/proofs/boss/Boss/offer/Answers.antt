use Rattle.std.proofs.Common.{arith, ℕ, List, ◌≡◌, ◌<◌, ◌≤◌, length, sym, subst}
use Rattle.tspdef.specs.Tours.{steps}
use Rattle.tspdef.specs.Instances.{length_in}
use Rattle.bossx.specs.declared.replies.Offered.TheVariants.{OtherSize, OffFixed, NotShorter, Better}
use Rattle.bossx.specs.Books.{Book, best_length, with_best}
use Rattle.bossx.specs.BossInside.{book_of}
use Rattle.bossx.specs.Steps.{Step, IsFirstOff, offer_other_size, offer_off_fixed, offer_not_shorter, offer_better}
use Rattle.bossx.proofs.Offering.{tour_of}
use Rattle.bossx.proofs.boss.Boss.offer.Goals as goal
use Rattle.bossx.specs.declared.events.Event.TheVariants as event
use Rattle.bossx.specs.declared.events.Reply.TheVariants as heard

pub returns-then-n : goal.returns-then-n
returns-then-n c =
    let t = c.args.tour.now in
    subst (λ (b : Book). Step b (event.Offer t) (heard.Offered OtherSize) b) c.self.view_is (offer_other_size t (omega arith))

pub returns-in-Some : goal.returns-in-Some
returns-in-Some c =
    let t = c.args.tour.now in
    let fixed = c.self.inside.instance.fixed in
    let u = c.in-Some.pair.0 in
    let v = c.in-Some.pair.1 in
    let off = subst (λ (ts : List ℕ). IsFirstOff (steps ts) fixed u v) c.cities.ensures.value (subst (λ (fs : List (ℕ × ℕ)). IsFirstOff (steps c.cities.result.now) fs u v) c.fixed.ensures c.in-Some.ensures) in
    subst (λ (b : Book). Step b (event.Offer t) (heard.Offered (OffFixed u v)) b) c.self.view_is (offer_off_fixed t u v (omega arith) off)

pub returns-then-length-self : goal.returns-then-length-self
returns-then-length-self c =
    let t = c.args.tour.now in
    let i = c.self.inside.instance in
    let n : length t ≡ i.n = omega arith in
    let is = tour_of i t c.cities.result.now c.fixed.result.now c.cities.ensures.value c.fixed.ensures n c.cities.ensures.whole c.in_default.ensures in
    let same = c.self.invariant.long in
    let long : best_length (book_of c.self.inside) ≤ length_in i t = omega (arith, same) in
    subst (λ (b : Book). Step b (event.Offer t) (heard.Offered (NotShorter c.self.inside.length)) b) c.self.view_is
    (subst (λ (l : ℕ). Step (book_of c.self.inside) (event.Offer t) (heard.Offered (NotShorter l)) (book_of c.self.inside)) (sym same) (offer_not_shorter t is long))

pub returns : goal.returns
returns c =
    let t = c.args.tour.now in
    let i = c.self.inside.instance in
    let n : length t ≡ i.n = omega arith in
    let is = tour_of i t c.cities.result.now c.fixed.result.now c.cities.ensures.value c.fixed.ensures n c.cities.ensures.whole c.in_default.ensures in
    let same = c.self.invariant.long in
    let shorter : length_in i t < best_length (book_of c.self.inside) = omega (arith, same) in
    subst (Step c.args.self.now (event.Offer t) (heard.Offered Better)) (sym c.keep.ensures)
    (subst (λ (b : Book). Step b (event.Offer t) (heard.Offered Better) (with_best b t)) c.self.view_is (offer_better t is shorter))
