-- The first refusal of a text as numbers: which one it is, its line (0 for the whole text), and what more is told.
use Rattle.std.specs.Prelude.{ℕ, List, [], ◌∷◌, ◌++◌, codes, decimal, flat_map}
use Rattle.tsplex.specs.declared.number.NumberFault.{NumberFault}
use Rattle.tsplex.specs.declared.number.NumberFault.TheVariants.{NotANumber, Fractional, OutOfRange}
use Rattle.tspinst.specs.declared.refusals.Part.{Part}
use Rattle.tspinst.specs.declared.refusals.Part.TheVariants as parts
use Rattle.tspinst.specs.declared.refusals.PairFault.{PairFault}
use Rattle.tspinst.specs.declared.refusals.PairFault.TheVariants as pair_faults
use Rattle.tspinst.specs.declared.refusals.Refusal.{Refusal}
use Rattle.tspinst.specs.declared.refusals.Refusal.TheVariants as refusals

abbrev pub fault_number : NumberFault → ℕ
fault_number NotANumber = 1
fault_number Fractional = 2
fault_number OutOfRange = 3

abbrev pub part_number : Part → ℕ
part_number parts.Type = 1
part_number parts.Dimension = 2
part_number parts.EdgeWeightType = 3
part_number parts.Distances = 4

abbrev pub pair_fault_number : PairFault → ℕ
pair_fault_number pair_faults.Loop = 1
pair_fault_number pair_faults.Third = 2
pair_fault_number pair_faults.Cycle = 3
pair_fault_number pair_faults.NoCity = 4

abbrev pub number_of : Refusal → ℕ
number_of refusals.TooLong = 1
number_of (refusals.UnknownKeyword k) = 2
number_of (refusals.Repeated k) = 3
number_of (refusals.WrongType k) = 4
number_of (refusals.WrongWeightType k) = 5
number_of (refusals.WrongWeightFormat k) = 6
number_of (refusals.WrongDimension k) = 7
number_of (refusals.Misplaced k) = 8
number_of (refusals.BadNumber k fault) = 9
number_of (refusals.BadNode k) = 10
number_of (refusals.Asymmetric k i j) = 11
number_of refusals.Truncated = 12
number_of (refusals.Missing part) = 13
number_of (refusals.FixedEdges k fault) = 14

abbrev pub line_of : Refusal → ℕ
line_of refusals.TooLong = 0
line_of (refusals.UnknownKeyword k) = k
line_of (refusals.Repeated k) = k
line_of (refusals.WrongType k) = k
line_of (refusals.WrongWeightType k) = k
line_of (refusals.WrongWeightFormat k) = k
line_of (refusals.WrongDimension k) = k
line_of (refusals.Misplaced k) = k
line_of (refusals.BadNumber k fault) = k
line_of (refusals.BadNode k) = k
line_of (refusals.Asymmetric k i j) = k
line_of refusals.Truncated = 0
line_of (refusals.Missing part) = 0
line_of (refusals.FixedEdges k fault) = k

-- what is wrong with a number, or the two cities of an asymmetric pair, counted from 1, or what is missing, or what is wrong with a
-- fixed pair
abbrev pub extras_of : Refusal → List ℕ
extras_of refusals.TooLong = []
extras_of (refusals.UnknownKeyword k) = []
extras_of (refusals.Repeated k) = []
extras_of (refusals.WrongType k) = []
extras_of (refusals.WrongWeightType k) = []
extras_of (refusals.WrongWeightFormat k) = []
extras_of (refusals.WrongDimension k) = []
extras_of (refusals.Misplaced k) = []
extras_of (refusals.BadNumber k fault) = fault_number fault ∷ []
extras_of (refusals.BadNode k) = []
extras_of (refusals.Asymmetric k i j) = i ∷ j ∷ []
extras_of refusals.Truncated = []
extras_of (refusals.Missing part) = part_number part ∷ []
extras_of (refusals.FixedEdges k fault) = pair_fault_number fault ∷ []

-- the numbers of a refusal as they are printed, one space between them
abbrev pub refusal_text : Refusal → List ℕ
refusal_text r = decimal (number_of r) ++ codes " " ++ decimal (line_of r) ++ flat_map (λ x. codes " " ++ decimal x) (extras_of r)
