use Rattle.std.proofs.Common.{◌≡◌, ◌^◌, length, codes, refl, ap, arith}
use Rattle.std.proofs.lemmas.Bool.{and_parts, and_from, eq-eqb, eqb-true}
use Rattle.std.specs.Prelude.{◌==◌}
use Rattle.certdef.specs.Items.{tour_line, each_below}
use Rattle.certline.proofs.Lines.{numbers_read, no_tour}
use Rattle.certline.proofs.lists.tour.Goals as goal

pub returns-then-len-n : goal.returns-then-len-n
returns-then-len-n c =
    let cs = c.in-Some.cities.items in
    let said = rw c.in-Some.is at c.in_ok-cities.ensures.some in
    let small = rw c.in-Some.is at c.in_ok-cities.ensures.small in
    let long : length cs ≡ c.args.n = omega (arith, c.in-Some.cities.ok.0, c.len.ensures, c.if-len-n.true) in
    numbers_read c.args.n (tour_line cs) (codes "TOUR") c.args.tail.now cs (omega arith) refl said (and_from (length cs == c.args.n) (each_below (10 ^ 10) cs) (eq-eqb (length cs) c.args.n long) small) c.requires.short

pub returns-else-len-n : goal.returns-else-len-n
returns-else-len-n c = no_tour c.args.n c.args.tail.now c.requires.tail (λ cs b e.
    let p = and_parts (length cs == c.args.n) (each_below (10 ^ 10) cs) b in
    let only = rw c.in-Some.is at c.in_ok-cities.ensures.only in
    let same = ap length (only cs p.1 e) in
    let long = eqb-true (length cs) c.args.n p.0 in
    c.if-len-n.false (omega (arith, c.in-Some.cities.ok.0, c.len.ensures)))

pub returns-in-None : goal.returns-in-None
returns-in-None c = no_tour c.args.n c.args.tail.now c.requires.tail (λ cs b e.
    let p = and_parts (length cs == c.args.n) (each_below (10 ^ 10) cs) b in
    let never = rw c.in-None.is at c.in_ok-cities.ensures.none in
    never cs p.1 e)
