-- One plain layout of points, and one of a matrix: what a text says, in a user's words.
use Rattle.std.specs.Prelude.{◌≡◌, ◌≤◌, ◌+◌, ◌*◌, ◌^◌, ℕ, zero, suc, false, List, [], ◌∷◌, ◌++◌, length, slice_index, nat_abs, decimal, codes}
use Rattle.std.specs.List.{AllByRecursion}
use Rattle.std.specs.Fmt.{signed_decimal}
use Rattle.tspdef.specs.Instances.{Instance, IsInstance}
use Rattle.distx.specs.declared.Kind.{Kind}
use Rattle.distx.specs.declared.Kind.TheVariants.{Euc, Ceil, Att, Man, Max}
use Rattle.distx.specs.Kind.{rule_of}
use Rattle.tsplex.specs.Text.{is_line_end}
use Rattle.tspinst.specs.Tables.{Point, instance_of}
use Rattle.tspinst.specs.Texts.{InstanceText}

-- Each of these texts stands before some rest.

-- `KEYWORD : value` and a line feed
abbrev pub header : List ℕ → List ℕ → List ℕ → List ℕ
header keyword value rest = keyword ++ 32 ∷ 58 ∷ 32 ∷ (value ++ 10 ∷ rest)

-- a word and a line feed
abbrev pub word_line : List ℕ → List ℕ → List ℕ
word_line word rest = word ++ 10 ∷ rest

-- the lines that each text begins with: any name, and how many cities there are
abbrev pub front : List ℕ → ℕ → List ℕ → List ℕ
front name n rest = header (codes "NAME") name (header (codes "TYPE") (codes "TSP") (header (codes "DIMENSION") (decimal n) rest))

-- a line for each point, `number x y`, numbered from i on
unfoldable pub point_lines : ℕ → List Point → List ℕ → List ℕ
point_lines i [] rest = rest
point_lines i (p ∷ ps) rest = decimal i ++ 32 ∷ (signed_decimal p.0 ++ 32 ∷ (signed_decimal p.1 ++ 10 ∷ point_lines (i + 1) ps rest))

-- m numbers of row i of a table, from column j on, a space behind each, and a line feed
unfoldable pub row_line : Instance → ℕ → ℕ → ℕ → List ℕ → List ℕ
row_line t i j zero rest = 10 ∷ rest
row_line t i j (suc m) rest = decimal (slice_index t.table (i * t.n + j)) ++ 32 ∷ row_line t i (j + 1) m rest

-- m rows of a table, from row i on
unfoldable pub row_lines : Instance → ℕ → ℕ → List ℕ → List ℕ
row_lines t i zero rest = rest
row_lines t i (suc m) rest = row_line t i 0 t.n (row_lines t (i + 1) m rest)

abbrev pub kind_word : Kind → List ℕ
kind_word Euc = codes "EUC_2D"
kind_word Ceil = codes "CEIL_2D"
kind_word Att = codes "ATT"
kind_word Man = codes "MAN_2D"
kind_word Max = codes "MAX_2D"

-- points, whose distances are of a kind
abbrev pub plain_points : List ℕ → Kind → List Point → List ℕ
plain_points name kind ps = front name (length ps) (header (codes "EDGE_WEIGHT_TYPE") (kind_word kind) (word_line (codes "NODE_COORD_SECTION") (point_lines 1 ps (word_line (codes "EOF") []))))

-- the whole table of an instance
abbrev pub plain_matrix : List ℕ → Instance → List ℕ
plain_matrix name t = front name t.n (header (codes "EDGE_WEIGHT_TYPE") (codes "EXPLICIT") (header (codes "EDGE_WEIGHT_FORMAT") (codes "FULL_MATRIX") (word_line (codes "EDGE_WEIGHT_SECTION") (row_lines t 0 t.n (word_line (codes "EOF") [])))))

-- bytes that stand on one line
abbrev pub IsLine : List ℕ → Type 0
IsLine bytes = AllByRecursion (λ b. is_line_end b ≡ false) bytes

abbrev pub IsNear : Point → Type 0
IsNear p = (nat_abs p.0 ≤ 2 ^ 24) × (nat_abs p.1 ≤ 2 ^ 24)

-- The plain text of points is read as exactly their distances.
abbrev pub PlainPointsAreRead : Type 0
PlainPointsAreRead = (name : List ℕ) (kind : Kind) (ps : List Point) → IsLine name → 3 ≤ length ps → length ps ≤ 2000 → AllByRecursion IsNear ps
    → length (plain_points name kind ps) ≤ 2 ^ 26 → InstanceText (plain_points name kind ps) (instance_of (rule_of kind) ps)

-- The plain text of an instance's table is read as exactly that instance, where it fixes no pair.
abbrev pub PlainMatricesAreRead : Type 0
PlainMatricesAreRead = (name : List ℕ) (t : Instance) → IsLine name → IsInstance t → t.fixed ≡ []
    → length (plain_matrix name t) ≤ 2 ^ 26 → InstanceText (plain_matrix name t) t
