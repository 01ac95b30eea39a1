use Rattle.std.proofs.Common.{◌≡◌, length, drop, take, ◌++◌, ap, arith}
use Rattle.std.proofs.lemmas.List.{length-append, length-take, length-drop}
use Rattle.tspdef.proofs.Steps.{tour_has}
use Rattle.cyc.proofs.WholeTours.{is_canonical_form}
use Rattle.cyc.proofs.tour.canonical_form.Goals as goal

pub place_of_home-home-requires : goal.place_of_home-home-requires
place_of_home-home-requires c = tour_has (length c.args.cities.now) c.args.cities.now c.requires.is_tour 0 (let h = c.requires.many in omega arith)

pub rising-requires : goal.rising-requires
rising-requires c =
    let xs = c.args.cities.now in
    let p = c.place_of_home-home.result in
    let e : length c.in_ok-form.form.items ≡ length (drop p xs ++ take p xs) = ap length c.in_ok-form.ensures in
    let l = length-append (drop p xs) (take p xs) in
    let d = length-drop p xs in
    let t = length-take p xs in
    let h = c.requires.many in
    let v = c.in_ok-form.form.ok.0 in
    omega arith

pub returns : goal.returns
returns c = is_canonical_form c.args.cities.now c.in_ok-form.form.items c.rising.result.items c.place_of_home-home.result c.requires c.place_of_home-home.ensures.within c.place_of_home-home.ensures.home c.in_ok-form.ensures (rw c.in_ok-form.form.ok.0 at c.rising.ensures)
