-- Instances that are drawn: for each city two words of a Pcg32, of which the 20 high bits count.
use Rattle.std.specs.Prelude.{ℕ, zero, suc, ◌/◌, ◌^◌, List, [], ◌∷◌, pos}
use Rattle.rand_core.specs.Pcg32Seed.{pcg32_seed}
use Rattle.rand_pcg.specs.Lcg.{Lcg}
use Rattle.rand_pcg.specs.Pcg.{pcg32, pcg32_of_seed}
use Rattle.tspdef.specs.Instances.{Instance}
use Rattle.tspdef.specs.Distances.{euclidean}
use Rattle.tspinst.specs.Tables.{Point, instance_of}

-- the generator that a seed starts
unfoldable pub seeded : ℕ → Lcg
seeded seed = pcg32_of_seed (pcg32_seed 16 seed)

-- the coordinate that is drawn next, below 2^20
abbrev pub coordinate : Lcg → ℕ
coordinate g = (pcg32 g).0 / 2 ^ 12

-- the generator after one word
abbrev pub after : Lcg → Lcg
after g = (pcg32 g).1

-- the x that is drawn next, and then the y
abbrev pub point : Lcg → Point
point g = (pos (coordinate g), pos (coordinate (after g)))

-- so many points that are drawn next
abbrev pub points : ℕ → Lcg → List Point
points zero g = []
points (suc k) g = point g ∷ points k (after (after g))

-- the instance of n points that a seed draws, by distances of EUC_2D
abbrev pub drawn : ℕ → ℕ → Instance
drawn seed n = instance_of euclidean (points n (seeded seed))
