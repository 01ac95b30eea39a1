-- The plain text of points.
use Rattle.std.proofs.Common.{◌≡◌, ℕ, suc, ◌+◌, ◌-◌, ◌^◌, ◌<◌, ◌≤◌, true, ltb, List, [], ◌∷◌, ◌++◌, length, get_or, set, map, replicate, codes, decimal, Option, Some, None, Ok, ℤ, nat_abs, refl, sym, ap, ◌∙◌, arith, append_assoc, length-append, rules}
use Rattle.std.specs.List.{AllByRecursion}
use Rattle.std.specs.Fmt.{signed_decimal}
use Rattle.std.proofs.lemmas.Bool.Decides.{nat_tests}
use Rattle.tspdef.specs.Instances.{Instance}
use Rattle.distx.specs.declared.Kind.{Kind}
use Rattle.distx.specs.declared.Kind.TheVariants.{Euc, Ceil, Att, Man, Max}
use Rattle.distx.specs.Kind.{rule_of}
use Rattle.tsplex.specs.Text.{tokens, tokens_from}
use Rattle.tsplex.proofs.PlainLemmas.{plain_number, plain_signed}
use Rattle.tsplex.proofs.TextLemmas.{IsWord}
use Rattle.tspinst.specs.declared.keywords.Keyword.TheVariants as keywords
use Rattle.tspinst.specs.declared.keywords.WeightType.TheVariants.{Points}
use Rattle.tspinst.specs.Headers.{Token}
use Rattle.tspinst.specs.Tables.{Point, distances, instance_of}
use Rattle.tspinst.specs.Sections.{node_read, point_read, points_from, points_read, coordinate_read, all_points}
use Rattle.tspinst.specs.Texts.{Said, nothing_said, node_coords, said, keyword_line, line, lines}
use Rattle.tspinst.specs.Keywords.{weight_type_of}
use Rattle.tspinst.specs.Plain.{IsLine, IsNear, header, word_line, kind_word, point_lines, plain_points, PlainPointsAreRead}
use Rattle.tspinst.proofs.LineLemmas.{lines_step, lines_none}
use Rattle.tspinst.proofs.PlainLines.{number_word, signed_word, spaced, ended, header_line, header_read, next_line, sized, front_read}
use Rattle.tspinst.proofs.PointLemmas.{points_step, points_done}
use Rattle.tspinst.proofs.Shrinking.{outcome_short}

-- ---- one point

coordinate_plain : (k : ℕ) (x : ℤ) (ts : List Token) → nat_abs x ≤ 2 ^ 24 → coordinate_read ((k, signed_decimal x) ∷ ts) ≡ Ok (x, ts)
unfolding coordinate_read
coordinate_plain k x ts l = rw (plain_signed x (2 ^ 24) l (omega arith)) refl

node_plain : (k n v : ℕ) (points : List (Option Point)) (ts : List Token) → v < n → n ≤ 2000 → get_or points v None ≡ None → node_read n points ((k, decimal (v + 1)) ∷ ts) ≡ Ok (v, ts)
unfolding node_read
node_plain k n v points ts l small free =
    let a : ltb 0 (v + 1) ≡ true = grind (arith, nat_tests) in
    let c : v + 1 - 1 ≡ v = omega arith in
    rw (plain_number (v + 1) n (omega arith) (omega arith)) (rw (a, c, free) refl)

point_plain : (k n v : ℕ) (p : Point) (points : List (Option Point)) (ts : List Token) → v < n → n ≤ 2000 → get_or points v None ≡ None → IsNear p → point_read n points ((k, decimal (v + 1)) ∷ (k, signed_decimal p.0) ∷ (k, signed_decimal p.1) ∷ ts) ≡ Ok (set points v (Some p), ts)
unfolding point_read
point_plain k n v p points ts l small free s =
    rw (node_plain k n v points ((k, signed_decimal p.0) ∷ (k, signed_decimal p.1) ∷ ts) l small free)
    (rw (coordinate_plain k p.0 ((k, signed_decimal p.1) ∷ ts) s.0)
    (rw (coordinate_plain k p.1 ts s.1) refl))

point_line : (k i : ℕ) (p : Point) (rest : List ℕ) → i < 2 ^ 64 → IsNear p → tokens_from k (decimal i ++ 32 ∷ (signed_decimal p.0 ++ 32 ∷ (signed_decimal p.1 ++ 10 ∷ rest))) ≡ (k, decimal i) ∷ (k, signed_decimal p.0) ∷ (k, signed_decimal p.1) ∷ tokens_from (k + 1) rest
point_line k i p rest l s =
    let a = number_word i l in
    let b = signed_word p.0 (omega (arith, s.0)) in
    let c = signed_word p.1 (omega (arith, s.1)) in
    spaced k (decimal i) (signed_decimal p.0 ++ 32 ∷ (signed_decimal p.1 ++ 10 ∷ rest)) a.0 a.1
    ∙ ap (λ (ts : List Token). (k, decimal i) ∷ ts) (spaced k (signed_decimal p.0) (signed_decimal p.1 ++ 10 ∷ rest) b.0 b.1)
    ∙ ap (λ (ts : List Token). (k, decimal i) ∷ (k, signed_decimal p.0) ∷ ts) (ended k (signed_decimal p.1) rest c.0 c.1)

-- ---- all points

-- the first of the points that are still unknown
free_at : (done : List (Option Point)) (m : ℕ) → get_or (done ++ None ∷ replicate m None) (length done) None ≡ None
free_at [] m = refl
free_at (d ∷ done) m = free_at done m

set_next : (done : List (Option Point)) (m : ℕ) (v : Option Point) → set (done ++ None ∷ replicate m None) (length done) v ≡ (done ++ v ∷ []) ++ replicate m None
set_next [] m v = refl
set_next (d ∷ done) m v = ap (λ (xs : List (Option Point)). d ∷ xs) (set_next done m v)

abbrev known : List Point → List (Option Point)
known ps = map (λ (p : Point). Some p) ps

points_plain : (n k : ℕ) (ps : List Point) (done : List (Option Point)) (rest : List ℕ) → length done + length ps ≡ n → n ≤ 2000 → AllByRecursion IsNear ps → points_from n (length ps) (done ++ replicate (length ps) None) (tokens_from k (point_lines (length done + 1) ps rest)) ≡ Ok (done ++ known ps, tokens_from (k + length ps) rest)
unfolding point_lines
points_plain n k [] done rest e small h = points_done n 0 (done ++ []) (tokens_from k rest) refl ∙ ap (λ j. Ok (done ++ [], tokens_from j rest)) (omega arith)
points_plain n k (p ∷ ps) done rest e small h =
    let v : ℕ = length done in
    let m : ℕ = length ps in
    let more : List ℕ = point_lines (v + 1 + 1) ps rest in
    let next : List (Option Point) = done ++ Some p ∷ [] in
    let long : length next ≡ v + 1 = length-append done (Some p ∷ []) in
    ap (points_from n (suc m) (done ++ None ∷ replicate m None)) (point_line k (v + 1) p more (omega arith) h.0)
    ∙ points_step n (suc m) m (done ++ None ∷ replicate m None) _ (set (done ++ None ∷ replicate m None) v (Some p), tokens_from (k + 1) more) (omega arith)
    (point_plain k n v p (done ++ None ∷ replicate m None) (tokens_from (k + 1) more) (omega arith) small (free_at done m) h.0)
    ∙ ap (λ (xs : List (Option Point)). points_from n m xs (tokens_from (k + 1) more)) (set_next done m (Some p))
    ∙ ap (λ j. points_from n m (next ++ replicate m None) (tokens_from (k + 1) (point_lines (j + 1) ps rest))) (sym long)
    ∙ points_plain n (k + 1) ps next rest (omega (arith, long)) small h.1
    ∙ ap (λ j. Ok (next ++ known ps, tokens_from j rest)) (omega arith)
    ∙ ap (λ (xs : List (Option Point)). Ok (xs, tokens_from (k + suc m) rest)) (append_assoc done (Some p ∷ []) (known ps))

all_known : (ps : List Point) → all_points (known ps) ≡ ps
all_known [] = refl
all_known (p ∷ ps) = ap (λ (qs : List Point). p ∷ qs) (all_known ps)

-- ---- the text

kind_is_word : (kind : Kind) → (0 < length (kind_word kind)) × IsWord (kind_word kind)
kind_is_word Euc = (omega arith, search rules)
kind_is_word Ceil = (omega arith, search rules)
kind_is_word Att = (omega arith, search rules)
kind_is_word Man = (omega arith, search rules)
kind_is_word Max = (omega arith, search rules)

kind_read : (kind : Kind) → weight_type_of (kind_word kind) ≡ Some (Points kind)
kind_read Euc = refl
kind_read Ceil = refl
kind_read Att = refl
kind_read Man = refl
kind_read Max = refl

weighed : ℕ → Kind → Said
weighed n kind = record (sized n) { seen = set (sized n).seen 4 true; weight_type = Some (Points kind) }

pointed : ℕ → Kind → Instance → Said
pointed n kind i = record (sized n) { seen = set (set (sized n).seen 4 true) 8 true; weight_type = Some (Points kind); instance = Some i }

weight_type_read : (n : ℕ) (kind : Kind) (rest : List ℕ) → line (sized n) 4 (codes "EDGE_WEIGHT_TYPE") ((4, 58 ∷ []) ∷ (4, kind_word kind) ∷ tokens_from 5 rest) ≡ Ok (weighed n kind, tokens_from 5 rest)
unfolding weighed keyword_line said
weight_type_read n kind rest = header_read (sized n) 4 (codes "EDGE_WEIGHT_TYPE") (kind_word kind) rest keywords.EdgeWeightType refl refl ∙ rw (kind_read kind) refl

section_read : (n : ℕ) (kind : Kind) (ps : List Point) (rest : List ℕ) (ts : List Token) → points_from n n (replicate n None) (tokens_from 6 rest) ≡ Ok (known ps, ts) → line (weighed n kind) 5 (codes "NODE_COORD_SECTION") (tokens_from 6 rest) ≡ Ok (pointed n kind (record { n = n; table = distances (rule_of kind) ps; fixed = [] }), ts)
unfolding weighed pointed keyword_line said node_coords points_read
section_read n kind ps rest ts e = rw (next_line 5 rest) (rw (e, all_known ps) refl)

eof_read : (n k : ℕ) (kind : Kind) (i : Instance) (m : ℕ) (ts : List Token) → lines (1 + m) (pointed n kind i) ((k, codes "EOF") ∷ ts) ≡ Ok (record { n = i.n; table = i.table; fixed = [] })
unfolding pointed keyword_line said
eof_read n k kind i m ts =
    lines_step (1 + m) m (pointed n kind i) ((k, codes "EOF") ∷ ts) ts (k, codes "EOF") (record (pointed n kind i) { seen = set (pointed n kind i).seen 12 true }, []) (omega arith) refl refl
    ∙ lines_none m (record (pointed n kind i) { seen = set (pointed n kind i).seen 12 true }) [] refl ∙ refl

points_lines : (m : ℕ) (name : List ℕ) (kind : Kind) (ps : List Point) → IsLine name → 3 ≤ length ps → length ps ≤ 2000 → AllByRecursion IsNear ps → lines (6 + m) nothing_said (tokens (plain_points name kind ps)) ≡ Ok (instance_of (rule_of kind) ps)
points_lines m name kind ps h l g near =
    let n : ℕ = length ps in
    let w = kind_is_word kind in
    let eof : List ℕ = word_line (codes "EOF") [] in
    let coords : List ℕ = word_line (codes "NODE_COORD_SECTION") (point_lines 1 ps eof) in
    front_read (6 + m) (3 + m) n name (header (codes "EDGE_WEIGHT_TYPE") (kind_word kind) coords) (omega arith) h l g
    ∙ lines_step (3 + m) (2 + m) (sized n) _ _ (4, codes "EDGE_WEIGHT_TYPE") (weighed n kind, tokens_from 5 coords) (omega arith)
    (header_line 4 (codes "EDGE_WEIGHT_TYPE") (kind_word kind) coords (omega arith) (search rules) w.0 w.1) (weight_type_read n kind coords)
    ∙ lines_step (2 + m) (1 + m) (weighed n kind) _ _ (5, codes "NODE_COORD_SECTION") (pointed n kind (instance_of (rule_of kind) ps), tokens_from (6 + n) eof) (omega arith)
    (ended 5 (codes "NODE_COORD_SECTION") (point_lines 1 ps eof) (omega arith) (search rules))
    (section_read n kind ps (point_lines 1 ps eof) (tokens_from (6 + n) eof) (points_plain n 6 ps [] eof (omega arith) g near))
    ∙ ap (lines (1 + m) (pointed n kind (instance_of (rule_of kind) ps))) (ended (6 + n) (codes "EOF") [] (omega arith) (search rules))
    ∙ eof_read n (6 + n) kind (instance_of (rule_of kind) ps) m (tokens_from (6 + n + 1) [])

pub plain_points_read : PlainPointsAreRead
plain_points_read name kind ps h l g near short =
    outcome_short (plain_points name kind ps) (6 + length (tokens (plain_points name kind ps))) short (omega arith)
    ∙ points_lines (length (tokens (plain_points name kind ps))) name kind ps h l g near
