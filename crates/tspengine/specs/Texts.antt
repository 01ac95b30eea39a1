-- What is printed. Cities count from 1, and each line ends with one LF.
use Rattle.std.specs.Prelude.{ℕ, ◌+◌, ◌==◌, if◌then◌else◌, List, ◌∷◌, ◌++◌, codes, decimal}
use Rattle.std.specs.List.{flat_map}

-- a city behind a space
abbrev pub city_text : ℕ → List ℕ
city_text c = 32 ∷ decimal (c + 1)

abbrev pub cities_text : List ℕ → List ℕ
cities_text tour = flat_map city_text tour

-- a shortest tour of length l
abbrev pub optimal_text : ℕ → List ℕ → List ℕ
optimal_text l tour = codes "OPTIMAL " ++ decimal l ++ codes "\nTOUR" ++ cities_text tour ++ codes "\n"

-- the length of a shortest tour alone
abbrev pub length_text : ℕ → List ℕ
length_text l = codes "OPTIMAL " ++ decimal l ++ codes "\n"

-- a tour of length l, and b, below l, than which no tour is shorter
abbrev pub within_text : ℕ → ℕ → List ℕ → List ℕ
within_text l b tour = codes "WITHIN " ++ decimal l ++ codes " " ++ decimal b ++ codes "\nTOUR" ++ cities_text tour ++ codes "\n"

-- a tour of length l, where no tour is shorter than b
abbrev pub closed_text : ℕ → ℕ → List ℕ → List ℕ
closed_text l b tour = if b == l then optimal_text l tour else within_text l b tour

-- the first refusal of a body, and its line
abbrev pub restart_text : ℕ → ℕ → List ℕ
restart_text refusal line = codes "RESTART " ++ decimal refusal ++ codes " " ++ decimal line ++ codes "\n"

-- the best length so far, and how many nodes are open
abbrev pub stopped_text : ℕ → ℕ → List ℕ
stopped_text best open_nodes = codes "STOPPED " ++ decimal best ++ codes " " ++ decimal open_nodes ++ codes "\n"

abbrev pub usage_text : List ℕ
usage_text = codes "USAGE tspc solve/verify/tour/bench/replay/bound/checkbound\n"
