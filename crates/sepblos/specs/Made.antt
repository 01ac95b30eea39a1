-- Cuts that sets make, one or none each.
use Rattle.std.specs.Prelude.{◌≡◌, List, [], ◌∷◌, ◌⊎◌}
use Rattle.tspdef.specs.Cuts.{Cut}
use Rattle.cyc.specs.CitySet.{Members}

-- the cut of each set that makes one, in order of the sets
abbrev pub AreMade : (Members → Cut → Type 0) → List Members → List Cut → Type 0
AreMade Makes [] cuts = cuts ≡ []
AreMade Makes (s ∷ ss) cuts =
    ((cut : Cut) × (rest : List Cut) × Makes s cut × (cuts ≡ cut ∷ rest) × AreMade Makes ss rest)
    ⊎ (((cut : Cut) → ¬ Makes s cut) × AreMade Makes ss cuts)
