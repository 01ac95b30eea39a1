use Rattle.certtests.proofs.TourLemmas.{canonical_from_home}
use Rattle.certtests.proofs.tours.is_canonical.Goals as goal

pub returns-then-cities-eq0 : goal.returns-then-cities-eq0
returns-then-cities-eq0 c = canonical_from_home c.args.cities.now c.if-cities-lt2.false c.if-cities-eq0.true
