use Rattle.tspdef.proofs.RayLemmas.{rays_close}
use Rattle.tspdef.proofs.rays_close.Goals as goal

pub returns : goal.returns
returns c = rays_close
