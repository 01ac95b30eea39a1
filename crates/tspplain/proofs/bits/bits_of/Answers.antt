use Rattle.std.proofs.Common.{ap, ◌∙◌, ◌||◌, eqb, get_or, take}
use Rattle.std.proofs.lemmas.List.{take_more}
use Rattle.cyc.proofs.ListLemmas.{has-push}
use Rattle.tspplain.proofs.BitLemmas.{one_more}
use Rattle.tspplain.proofs.bits.bits_of.Goals as goal

pub loop-city-preserved : goal.loop-city-preserved
loop-city-preserved c = λ city below.
    let cities = c.cities-city-items.result.now in
    let i = c.loop-city.city-index in
    rw (c.bit-all.ensures, take_more cities i 0 c.loop-city-test.true, has-push (take i cities) (get_or cities i 0) city)
    (one_more c.loop-city.all (get_or cities i 0) city below ∙ ap (λ b. eqb (get_or cities i 0) city || b) (c.loop-city.invariant city below))
