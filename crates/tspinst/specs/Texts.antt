-- Texts of instances: what their lines say, one after the other, and what the whole text says at its end, or the
-- first refusal. After TSPLIB 95 (Reinelt 1995).
use Rattle.std.specs.Prelude.{◌≡◌, ℕ, zero, suc, ◌*◌, ◌^◌, ◌&&◌, ◌==◌, Bool, true, false, not, nat_lt, if◌then◌else◌, List, [], ◌∷◌, length, replicate, Option, Some, None, Result, Ok, Err, slice_index_or, slice_set, codes}
use Rattle.std.specs.Str.{bytes_eq}
use Rattle.tspdef.specs.Instances.{Instance}
use Rattle.distx.specs.Kind.{rule_of}
use Rattle.tsplex.specs.Text.{tokens, behind_line}
use Rattle.tspinst.specs.declared.refusals.Part.TheVariants as parts
use Rattle.tspinst.specs.declared.refusals.Refusal.{Refusal}
use Rattle.tspinst.specs.declared.refusals.Refusal.TheVariants as refusals
use Rattle.tspinst.specs.declared.keywords.Keyword.{Keyword}
use Rattle.tspinst.specs.declared.keywords.Keyword.TheVariants as keywords
use Rattle.tspinst.specs.declared.keywords.WeightType.{WeightType}
use Rattle.tspinst.specs.declared.keywords.WeightType.TheVariants.{Points, Explicit}
use Rattle.tspinst.specs.declared.keywords.Format.{Format}
use Rattle.tspinst.specs.declared.keywords.Format.TheVariants.{Function}
use Rattle.tspinst.specs.Refusals.{number_of, line_of, extras_of}
use Rattle.tspinst.specs.Keywords.{keyword_of, weight_type_of, format_of}
use Rattle.tspinst.specs.Headers.{Token, name_of, value_of, dimension_of}
use Rattle.tspinst.specs.Sections.{passed, weights_read, points_read, edges_read, ◌>>=◌}

-- ---- what was said so far

-- which keywords were seen, a flag each, and what they said; and the fixed pairs, none where there is no section of them
pub record Said : Type 0 where
  pub seen : List Bool
  pub dimension : Option ℕ
  pub weight_type : Option WeightType
  pub format : Option Format
  pub instance : Option Instance
  pub fixed : List (ℕ × ℕ)

-- a keyword's place among the flags
abbrev pub place_of : Keyword → ℕ
place_of keywords.Name = 0
place_of keywords.Comment = 1
place_of keywords.Type = 2
place_of keywords.Dimension = 3
place_of keywords.EdgeWeightType = 4
place_of keywords.EdgeWeightFormat = 5
place_of keywords.NodeCoordType = 6
place_of keywords.DisplayDataType = 7
place_of keywords.NodeCoordSection = 8
place_of keywords.EdgeWeightSection = 9
place_of keywords.DisplayDataSection = 10
place_of keywords.FixedEdgesSection = 11
place_of keywords.Eof = 12

abbrev pub has_seen : List Bool → Keyword → Bool
has_seen seen keyword = slice_index_or seen (place_of keyword) false

abbrev pub now_seen : List Bool → Keyword → List Bool
now_seen seen keyword = slice_set seen (place_of keyword) true

abbrev pub nothing_said : Said
nothing_said = record { seen = replicate 13 false; dimension = None; weight_type = None; format = None; instance = None; fixed = [] }

abbrev pub is_comment : Keyword → Bool
is_comment keyword = place_of keyword == place_of keywords.Comment

-- only a comment may be repeated
abbrev pub is_repeated : List Bool → Keyword → Bool
is_repeated seen keyword = not (is_comment keyword) && has_seen seen keyword

-- ---- what one line says

-- Each of these answers what was said then, and the words behind the line and its section.
abbrev pub Saying : Type 0
Saying = Result (Said × List Token) Refusal

abbrev pub with_dimension : Said → ℕ → List Token → Option ℕ → Saying
with_dimension s k ts None = Err (refusals.WrongDimension k)
with_dimension s k ts (Some n) = Ok (record s { dimension = Some n }, ts)

abbrev pub with_weight_type : Said → ℕ → List Token → Option WeightType → Saying
with_weight_type s k ts None = Err (refusals.WrongWeightType k)
with_weight_type s k ts (Some t) = Ok (record s { weight_type = Some t }, ts)

abbrev pub with_format : Said → ℕ → List Token → Option Format → Saying
with_format s k ts None = Err (refusals.WrongWeightFormat k)
with_format s k ts (Some f) = Ok (record s { format = Some f }, ts)

abbrev pub with_table : Said → ℕ → Result (List ℕ × List Token) Refusal → Saying
with_table s n read = (read >>= λ x. Ok (record s { instance = Some (record { n = n; table = x.0; fixed = [] }) }, x.1))

-- three words for each node, passed over
unfoldable pub display_data : Said → ℕ → List Token → Option ℕ → Saying
display_data s k ts None = Err (refusals.Misplaced k)
display_data s k ts (Some n) = (passed (3 * n) ts >>= λ rest. Ok (s, rest))

-- the points of all nodes; with explicit weights they are passed over
unfoldable pub node_coords : Said → ℕ → List Token → Option ℕ → Option WeightType → Saying
node_coords s k ts None t = Err (refusals.Misplaced k)
node_coords s k ts (Some n) None = Err (refusals.Misplaced k)
node_coords s k ts (Some n) (Some Explicit) = (passed (3 * n) ts >>= λ rest. Ok (s, rest))
node_coords s k ts (Some n) (Some (Points kind)) = with_table s n (points_read (rule_of kind) n ts)

-- the weights that a format lists
abbrev pub listed_weights : Said → ℕ → ℕ → List Token → Format → Saying
listed_weights s k n ts Function = Err (refusals.WrongWeightFormat k)
listed_weights s k n ts f = with_table s n (weights_read f n ts)

-- they need a dimension, explicit weights and a format
unfoldable pub edge_weights : Said → ℕ → List Token → Option ℕ → Option WeightType → Option Format → Saying
edge_weights s k ts (Some n) (Some Explicit) (Some f) = listed_weights s k n ts f
edge_weights s k ts n t f = Err (refusals.Misplaced k)

-- fixed pairs
unfoldable pub fixed_edges : Said → ℕ → List Token → Option ℕ → Saying
fixed_edges s k ts None = Err (refusals.Misplaced k)
fixed_edges s k ts (Some n) = (edges_read n ts >>= λ x. Ok (record s { fixed = x.0 }, x.1))

-- what line k says by its keyword, where its value has this first word and these words stand behind it
unfoldable pub said : Said → ℕ → List ℕ → List Token → Keyword → Saying
said s k value ts keywords.Name = Ok (s, ts)
said s k value ts keywords.Comment = Ok (s, ts)
said s k value ts keywords.NodeCoordType = Ok (s, ts)
said s k value ts keywords.DisplayDataType = Ok (s, ts)
said s k value ts keywords.Type = (if bytes_eq value (codes "TSP") then Ok (s, ts) else Err (refusals.WrongType k))
said s k value ts keywords.Dimension = with_dimension s k ts (dimension_of value)
said s k value ts keywords.EdgeWeightType = with_weight_type s k ts (weight_type_of value)
said s k value ts keywords.EdgeWeightFormat = with_format s k ts (format_of value)
said s k value ts keywords.NodeCoordSection = node_coords s k ts s.dimension s.weight_type
said s k value ts keywords.EdgeWeightSection = edge_weights s k ts s.dimension s.weight_type s.format
said s k value ts keywords.DisplayDataSection = display_data s k ts s.dimension
said s k value ts keywords.FixedEdgesSection = fixed_edges s k ts s.dimension
said s k value ts keywords.Eof = Ok (s, [])

unfoldable pub keyword_line : Said → ℕ → List ℕ → List Token → Option Keyword → Saying
keyword_line s k value ts None = Err (refusals.UnknownKeyword k)
keyword_line s k value ts (Some w) = (if is_repeated s.seen w then Err (refusals.Repeated k) else said (record s { seen = now_seen s.seen w }) k value ts w)

-- what line k says, from its first word and the words behind that; sections end where the words behind them begin
abbrev pub line : Said → ℕ → List ℕ → List Token → Saying
line s k first ts = keyword_line s k (value_of k first ts) (behind_line k ts) (keyword_of (name_of first))

-- ---- what the whole text says

-- what is missing at the end, the least first
abbrev pub at_end : Bool → Option ℕ → Option WeightType → Option Instance → List (ℕ × ℕ) → Result Instance Refusal
at_end false n t i fixed = Err (refusals.Missing parts.Type)
at_end true None t i fixed = Err (refusals.Missing parts.Dimension)
at_end true (Some n) None i fixed = Err (refusals.Missing parts.EdgeWeightType)
at_end true (Some n) (Some t) None fixed = Err (refusals.Missing parts.Distances)
at_end true (Some n) (Some t) (Some i) fixed = Ok (record { n = i.n; table = i.table; fixed = fixed })

abbrev pub end_of : Said → Result Instance Refusal
end_of s = at_end (has_seen s.seen keywords.Type) s.dimension s.weight_type s.instance s.fixed

-- m lines at most
unfoldable pub lines : ℕ → Said → List Token → Result Instance Refusal
lines zero s ts = end_of s
lines (suc m) s [] = end_of s
lines (suc m) s (t ∷ ts) = (line s t.0 t.1 ts >>= λ x. lines m x.0 x.1)

-- what a text says, or its first refusal; a text has no more lines with words than words
unfoldable pub outcome : List ℕ → Result Instance Refusal
outcome bytes = (if nat_lt (2 ^ 26) (length bytes) then Err refusals.TooLong else lines (length (tokens bytes)) nothing_said (tokens bytes))

-- the bytes are the text of this instance
abbrev pub InstanceText : List ℕ → Instance → Type 0
InstanceText bytes i = outcome bytes ≡ Ok i

-- the bytes are the text of no instance, and this is the first refusal, on this line, with these numbers more
pub record BadInstanceText (bytes : List ℕ) (number line : ℕ) (extras : List ℕ) : Type 0 where
  pub refusal : Refusal
  pub first : outcome bytes ≡ Err refusal
  pub numbered : number_of refusal ≡ number
  pub placed : line_of refusal ≡ line
  pub told : extras_of refusal ≡ extras
