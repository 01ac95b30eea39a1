-- The words that a header may have (Reinelt 1995, TSPLIB 95).
use Rattle.std.specs.Prelude.{ℕ, if◌then◌else◌, List, [], ◌∷◌, Option, Some, None, codes}
use Rattle.std.specs.Str.{bytes_eq}
use Rattle.tspinst.specs.declared.keywords.Keyword.{Keyword}
use Rattle.tspinst.specs.declared.keywords.Keyword.TheVariants as keywords
use Rattle.distx.specs.declared.Kind.TheVariants as kinds
use Rattle.tspinst.specs.declared.keywords.WeightType.{WeightType}
use Rattle.tspinst.specs.declared.keywords.WeightType.TheVariants as types
use Rattle.tspinst.specs.declared.keywords.Format.{Format}
use Rattle.tspinst.specs.declared.keywords.Format.TheVariants as formats

-- what stands beside a word in a table
abbrev pub beside : {A : Type 0} → List ℕ → List (List ℕ × A) → Option A
beside word [] = None
beside word (row ∷ rows) = (if bytes_eq word row.0 then Some row.1 else beside word rows)

abbrev pub keyword_table : List (List ℕ × Keyword)
keyword_table =
    (codes "NAME", keywords.Name) ∷
    (codes "COMMENT", keywords.Comment) ∷
    (codes "TYPE", keywords.Type) ∷
    (codes "DIMENSION", keywords.Dimension) ∷
    (codes "EDGE_WEIGHT_TYPE", keywords.EdgeWeightType) ∷
    (codes "EDGE_WEIGHT_FORMAT", keywords.EdgeWeightFormat) ∷
    (codes "NODE_COORD_TYPE", keywords.NodeCoordType) ∷
    (codes "DISPLAY_DATA_TYPE", keywords.DisplayDataType) ∷
    (codes "NODE_COORD_SECTION", keywords.NodeCoordSection) ∷
    (codes "EDGE_WEIGHT_SECTION", keywords.EdgeWeightSection) ∷
    (codes "DISPLAY_DATA_SECTION", keywords.DisplayDataSection) ∷
    (codes "FIXED_EDGES_SECTION", keywords.FixedEdgesSection) ∷
    (codes "EOF", keywords.Eof) ∷ []

abbrev pub weight_type_table : List (List ℕ × WeightType)
weight_type_table =
    (codes "EUC_2D", types.Points kinds.Euc) ∷
    (codes "CEIL_2D", types.Points kinds.Ceil) ∷
    (codes "ATT", types.Points kinds.Att) ∷
    (codes "MAN_2D", types.Points kinds.Man) ∷
    (codes "MAX_2D", types.Points kinds.Max) ∷
    (codes "EXPLICIT", types.Explicit) ∷ []

-- a column of the lower triangle lists the same pairs as a row of the upper one, and the other way round
abbrev pub format_table : List (List ℕ × Format)
format_table =
    (codes "FUNCTION", formats.Function) ∷
    (codes "FULL_MATRIX", formats.Full) ∷
    (codes "UPPER_ROW", formats.Upper) ∷
    (codes "LOWER_COL", formats.Upper) ∷
    (codes "LOWER_ROW", formats.Lower) ∷
    (codes "UPPER_COL", formats.Lower) ∷
    (codes "UPPER_DIAG_ROW", formats.UpperDiagonal) ∷
    (codes "LOWER_DIAG_COL", formats.UpperDiagonal) ∷
    (codes "LOWER_DIAG_ROW", formats.LowerDiagonal) ∷
    (codes "UPPER_DIAG_COL", formats.LowerDiagonal) ∷ []

abbrev pub keyword_of : List ℕ → Option Keyword
keyword_of word = beside word keyword_table

abbrev pub weight_type_of : List ℕ → Option WeightType
weight_type_of word = beside word weight_type_table

abbrev pub format_of : List ℕ → Option Format
format_of word = beside word format_table
