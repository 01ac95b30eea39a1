-- Readings leave no more words than they found, so a text has no more lines than words.
use Rattle.std.proofs.Common.{◌≡◌, ℕ, zero, suc, ◌*◌, ◌^◌, ◌<◌, ◌≤◌, Bool, true, false, cond, eqb, ltb, List, [], ◌∷◌, length, replicate, Option, Some, None, Result, Ok, Err, refl, sym, ◌∙◌, subst, arith}
use Rattle.tsplex.specs.Number.{whole_of}
use Rattle.tsplex.specs.Text.{behind_line, tokens}
use Rattle.tsplex.proofs.CountLemmas.{count_tokens}
use Rattle.std.proofs.lemmas.Bool.Decides.{nat_tests}
use Rattle.tspdef.specs.Distances.{Rule}
use Rattle.distx.specs.Kind.{rule_of}
use Rattle.std.specs.Prelude.{codes}
use Rattle.std.specs.Str.{bytes_eq}
use Rattle.tspinst.specs.declared.refusals.Refusal.{Refusal}
use Rattle.tspinst.specs.declared.refusals.Refusal.TheVariants.{WrongType, Repeated, TooLong}
use Rattle.tspinst.specs.declared.keywords.Keyword.{Keyword}
use Rattle.tspinst.specs.declared.keywords.Keyword.TheVariants as keywords
use Rattle.tspinst.specs.declared.keywords.WeightType.{WeightType}
use Rattle.tspinst.specs.declared.keywords.WeightType.TheVariants.{Points, Explicit}
use Rattle.tspinst.specs.declared.keywords.Format.{Format}
use Rattle.tspinst.specs.declared.keywords.Format.TheVariants.{Function, Full, Upper, Lower, UpperDiagonal, LowerDiagonal}
use Rattle.tspinst.specs.Headers.{Token, dimension_of, value_of, name_of}
use Rattle.tspinst.specs.Tables.{Point, distances}
use Rattle.tspinst.specs.declared.refusals.ReadError.{ReadError}
use Rattle.tspinst.specs.declared.refusals.ReadError.TheVariants.{NoMemory, Failed, Refused}
use Rattle.tspinst.specs.Views.{Answers}
use Rattle.tspinst.specs.Sections.{◌>>=◌, next, passed, with_entry, entry_read, entries_read, entries, weights_read, coordinate_read, node_read, point_read, points_from, points_read, all_points, ends_edges, city_if, edge_if, second_read, edge_read, edges_from, edges_read}
use Rattle.tspinst.specs.Fixings.{fixed_with}
use Rattle.tspinst.specs.Texts.{Said, with_dimension, with_weight_type, with_format, with_table, display_data, node_coords, listed_weights, edge_weights, fixed_edges, said, keyword_line, line, lines, now_seen, is_repeated, nothing_said, outcome}
use Rattle.tspinst.specs.Keywords.{keyword_of, weight_type_of, format_of}

-- what is left behind is no longer than what was there
abbrev pub Shrinks : {A : Type 0} → Result (A × List Token) Refusal → List Token → Type 0
Shrinks (Ok x) ts = length x.1 ≤ length ts
Shrinks (Err e) ts = Unit {0}

abbrev ShrinksAlone : Result (List Token) Refusal → List Token → Type 0
ShrinksAlone (Ok rest) ts = length rest ≤ length ts
ShrinksAlone (Err e) ts = Unit {0}

then : {A B : Type 0} (r : Result (A × List Token) Refusal) (f : A × List Token → Result (B × List Token) Refusal) (ts : List Token) → Shrinks r ts → ((x : A × List Token) → length x.1 ≤ length ts → Shrinks (f x) ts) → Shrinks (r >>= f) ts
then (Ok x) f ts h g = g x h
then (Err e) f ts h g = tt

-- the same, where the first answers no words
then_plain : {A B : Type 0} (r : Result A Refusal) (f : A → Result (B × List Token) Refusal) (ts : List Token) → ((x : A) → Shrinks (f x) ts) → Shrinks (r >>= f) ts
then_plain (Ok x) f ts g = g x
then_plain (Err e) f ts g = tt

then_alone : {B : Type 0} (r : Result (List Token) Refusal) (f : List Token → Result (B × List Token) Refusal) (ts : List Token) → ShrinksAlone r ts → ((x : List Token) → length x ≤ length ts → Shrinks (f x) ts) → Shrinks (r >>= f) ts
then_alone (Ok x) f ts h g = g x h
then_alone (Err e) f ts h g = tt

-- from fewer words
wider : {A : Type 0} (r : Result (A × List Token) Refusal) (us ts : List Token) → length us ≤ length ts → Shrinks r us → Shrinks r ts
wider (Ok x) us ts l h = omega arith
wider (Err e) us ts l h = tt

next_shrinks : (ts : List Token) → Shrinks (next ts) ts
next_shrinks [] = tt
next_shrinks (t ∷ ts) = omega arith

passed_shrinks : (m : ℕ) (ts : List Token) → ShrinksAlone (passed m ts) ts
unfolding passed
passed_shrinks zero ts = omega arith
passed_shrinks (suc m) [] = tt
passed_shrinks (suc m) (t ∷ ts) = wider_alone (passed m ts) (passed_shrinks m ts)
  where
    wider_alone : (r : Result (List Token) Refusal) → ShrinksAlone r ts → ShrinksAlone r (t ∷ ts)
    wider_alone (Ok x) h = omega arith
    wider_alone (Err e) h = tt

entry_shrinks : (f : Format) (n : ℕ) (place : ℕ × ℕ) (table : List ℕ) (ts : List Token) → Shrinks (entry_read f n place table ts) ts
unfolding entry_read
entry_shrinks f n place table ts = then (next ts) (λ t. with_entry f n table place.0 place.1 t.0 >>= λ x. Ok (x, t.1)) ts (next_shrinks ts) (λ t l. then_plain (with_entry f n table place.0 place.1 t.0) (λ x. Ok (x, t.1)) ts (λ x. l))

entries_shrinks : (f : Format) (n : ℕ) (places : List (ℕ × ℕ)) (table : List ℕ) (ts : List Token) → Shrinks (entries_read f n places table ts) ts
unfolding entries_read
entries_shrinks f n [] table ts = omega arith
entries_shrinks f n (place ∷ places) table ts = then (entry_read f n place table ts) (λ x. entries_read f n places x.0 x.1) ts (entry_shrinks f n place table ts) (λ x l. wider (entries_read f n places x.0 x.1) x.1 ts l (entries_shrinks f n places x.0 x.1))

coordinate_shrinks : (ts : List Token) → Shrinks (coordinate_read ts) ts
unfolding coordinate_read
coordinate_shrinks ts = then (next ts) _ ts (next_shrinks ts) (λ t l. then_plain _ (λ x. Ok (x, t.1)) ts (λ x. l))

node_shrinks : (n : ℕ) (points : List (Option Point)) (ts : List Token) → Shrinks (node_read n points ts) ts
unfolding node_read
node_shrinks n points ts = then (next ts) _ ts (next_shrinks ts) (λ t l. then_plain _ (λ x. Ok (x, t.1)) ts (λ x. l))

point_shrinks : (n : ℕ) (points : List (Option Point)) (ts : List Token) → Shrinks (point_read n points ts) ts
unfolding point_read
point_shrinks n points ts = then (node_read n points ts) _ ts (node_shrinks n points ts) (λ v l. then (coordinate_read v.1) _ ts (wider (coordinate_read v.1) v.1 ts l (coordinate_shrinks v.1)) (λ x h. then (coordinate_read x.1) _ ts (wider (coordinate_read x.1) x.1 ts h (coordinate_shrinks x.1)) (λ y g. g)))

all_shrinks : (n m : ℕ) (points : List (Option Point)) (ts : List Token) → Shrinks (points_from n m points ts) ts
unfolding points_from
all_shrinks n zero points ts = omega arith
all_shrinks n (suc m) points ts = then (point_read n points ts) (λ x. points_from n m x.0 x.1) ts (point_shrinks n points ts) (λ x l. wider (points_from n m x.0 x.1) x.1 ts l (all_shrinks n m x.0 x.1))

behind_shrinks : (k : ℕ) (ts : List Token) → length (behind_line k ts) ≤ length ts
unfolding behind_line
behind_shrinks k [] = omega arith
behind_shrinks k (t ∷ ts) = at (eqb t.0 k) (behind_shrinks k ts)
  where
    at : (b : Bool) → length (behind_line k ts) ≤ length ts → length (cond b (behind_line k ts) (t ∷ ts)) ≤ length (t ∷ ts)
    at true h = omega arith
    at false h = omega arith

second_shrinks : (n : ℕ) (pairs : List (ℕ × ℕ)) (u : ℕ) (ts : List Token) → Shrinks (second_read n pairs u ts) ts
unfolding second_read
second_shrinks n pairs u [] = tt
second_shrinks n pairs u (t ∷ ts) = then_plain (city_if t.0 n (whole_of t.1 n)) (λ v. edge_if t.0 (fixed_with n pairs u v) >>= λ more. Ok (more, ts)) (t ∷ ts) (λ v. then_plain (edge_if t.0 (fixed_with n pairs u v)) (λ more. Ok (more, ts)) (t ∷ ts) (λ more. omega arith))

-- after a pair there are fewer words
abbrev pub Lessens : Result ((Bool × List (ℕ × ℕ)) × List Token) Refusal → List Token → Type 0
Lessens (Ok x) ts = length x.1 < length ts
Lessens (Err e) ts = Unit {0}

lessens_then : {A : Type 0} (r : Result A Refusal) (f : A → Result ((Bool × List (ℕ × ℕ)) × List Token) Refusal) (ts : List Token) → ((x : A) → Lessens (f x) ts) → Lessens (r >>= f) ts
lessens_then (Ok x) f ts g = g x
lessens_then (Err e) f ts g = tt

lessens_second : (r : Result (List (ℕ × ℕ) × List Token) Refusal) (t : Token) (ts : List Token) → Shrinks r ts → Lessens (r >>= λ x. Ok ((true, x.0), x.1)) (t ∷ ts)
lessens_second (Ok x) t ts h = omega arith
lessens_second (Err e) t ts h = tt

lessens_choice : (b : Bool) (x y : Result ((Bool × List (ℕ × ℕ)) × List Token) Refusal) (ts : List Token) → Lessens x ts → Lessens y ts → Lessens (cond b x y) ts
lessens_choice true x y ts h g = h
lessens_choice false x y ts h g = g

pub edge_lessens : (n : ℕ) (pairs : List (ℕ × ℕ)) (ts : List Token) → Lessens (edge_read n pairs ts) ts
unfolding edge_read
edge_lessens n pairs [] = tt
edge_lessens n pairs (t ∷ ts) = lessens_choice (ends_edges (whole_of t.1 n)) _ _ (t ∷ ts) (omega arith) (lessens_then (city_if t.0 n (whole_of t.1 n)) _ (t ∷ ts) (λ u. lessens_second (second_read n pairs u ts) t ts (second_shrinks n pairs u ts)))

more_shrinks : (n m : ℕ) (x : Bool × List (ℕ × ℕ)) (us ts : List Token) → length us ≤ length ts → Shrinks (edges_from n m x.1 us) us → Shrinks (cond x.0 (edges_from n m x.1 us) (Ok (x.1, us))) ts
more_shrinks n m (true, pairs) us ts l h = wider (edges_from n m pairs us) us ts l h
more_shrinks n m (false, pairs) us ts l h = l

edge_shrinks : (r : Result ((Bool × List (ℕ × ℕ)) × List Token) Refusal) (f : (Bool × List (ℕ × ℕ)) × List Token → Result (List (ℕ × ℕ) × List Token) Refusal) (ts : List Token) → Lessens r ts → ((x : (Bool × List (ℕ × ℕ)) × List Token) → length x.1 ≤ length ts → Shrinks (f x) ts) → Shrinks (r >>= f) ts
edge_shrinks (Ok x) f ts h g = g x (omega arith)
edge_shrinks (Err e) f ts h g = tt

edges_from_shrinks : (n m : ℕ) (pairs : List (ℕ × ℕ)) (ts : List Token) → Shrinks (edges_from n m pairs ts) ts
unfolding edges_from
edges_from_shrinks n zero pairs ts = tt
edges_from_shrinks n (suc m) pairs ts = edge_shrinks (edge_read n pairs ts) _ ts (edge_lessens n pairs ts) (λ x l. more_shrinks n m x.0 x.1 ts l (edges_from_shrinks n m x.0.1 x.1))

fixed_shrinks : (s : Said) (k : ℕ) (ts : List Token) (n : Option ℕ) → Shrinks (fixed_edges s k ts n) ts
unfolding fixed_edges edges_read
fixed_shrinks s k ts None = tt
fixed_shrinks s k ts (Some n) = then (edges_from n (length ts) [] ts) _ ts (edges_from_shrinks n (length ts) [] ts) (λ x l. l)

-- as many pairs as there are words are all pairs
same_more : (n a b : ℕ) (x : Bool × List (ℕ × ℕ)) (us : List Token) → edges_from n a x.1 us ≡ edges_from n b x.1 us → cond x.0 (edges_from n a x.1 us) (Ok (x.1, us)) ≡ cond x.0 (edges_from n b x.1 us) (Ok (x.1, us))
same_more n a b (true, pairs) us e = e
same_more n a b (false, pairs) us e = refl

same_edges : (r : Result ((Bool × List (ℕ × ℕ)) × List Token) Refusal) (f g : (Bool × List (ℕ × ℕ)) × List Token → Result (List (ℕ × ℕ) × List Token) Refusal) (ts : List Token) → Lessens r ts → ((x : (Bool × List (ℕ × ℕ)) × List Token) → length x.1 < length ts → f x ≡ g x) → (r >>= f) ≡ (r >>= g)
same_edges (Ok x) f g ts h same = same x h
same_edges (Err e) f g ts h same = refl

pub all_edges : (n a b : ℕ) (pairs : List (ℕ × ℕ)) (ts : List Token) → length ts ≤ a → length ts ≤ b → edges_from n a pairs ts ≡ edges_from n b pairs ts
unfolding edges_from edge_read
all_edges n zero zero pairs ts l h = refl
all_edges n zero (suc b) pairs [] l h = refl
all_edges n zero (suc b) pairs (t ∷ ts) l h = absurd (omega arith)
all_edges n (suc a) zero pairs [] l h = refl
all_edges n (suc a) zero pairs (t ∷ ts) l h = absurd (omega arith)
all_edges n (suc a) (suc b) pairs ts l h = same_edges (edge_read n pairs ts) _ _ ts (edge_lessens n pairs ts) (λ x k. same_more n a b x.0 x.1 (all_edges n a b x.0.1 x.1 (omega arith) (omega arith)))

pub edges_begin : (n : ℕ) (ts : List Token) → edges_from n (length ts) [] ts ≡ edges_read n ts
unfolding edges_read
edges_begin n ts = refl

pub edge_fewer : (n : ℕ) (pairs : List (ℕ × ℕ)) (ts : List Token) (x : (Bool × List (ℕ × ℕ)) × List Token) → edge_read n pairs ts ≡ Ok x → length x.1 < length ts
edge_fewer n pairs ts x e = subst (λ (r : Result ((Bool × List (ℕ × ℕ)) × List Token) Refusal). Lessens r ts) e (edge_lessens n pairs ts)

-- one pair, and then the others
pub edges_step : (n : ℕ) (pairs more : List (ℕ × ℕ)) (b : Bool) (ts us : List Token) → edge_read n pairs ts ≡ Ok ((b, more), us)
    → cond b (edges_from n (length us) more us) (Ok (more, us)) ≡ edges_from n (length ts) pairs ts
unfolding edges_from
edges_step n pairs more b [] us e = absurd (let l = edge_fewer n pairs [] ((b, more), us) e in omega arith)
edges_step n pairs more b (t ∷ ts) us e =
    let l : length us < length (t ∷ ts) = edge_fewer n pairs (t ∷ ts) ((b, more), us) e in
    rw e (same_more n (length us) (length ts) (b, more) us (all_edges n (length us) (length ts) more us (omega arith) (omega arith)))

edges_stop : (n : ℕ) (pairs : List (ℕ × ℕ)) (ts : List Token) (r : Refusal) → edge_read n pairs ts ≡ Err r → edges_from n (length ts) pairs ts ≡ Err r
unfolding edges_from edge_read
edges_stop n pairs [] r e = cc
edges_stop n pairs (t ∷ ts) r e = rw e refl

-- where a pair is refused, the section is
pub edges_failed : {B D : Type 0} (view : B → Bool × List (ℕ × ℕ)) (shown : D → List (ℕ × ℕ)) (error : ReadError) (us : List Token) (n : ℕ) (pairs : List (ℕ × ℕ)) (ts : List Token) (whole : Result (List (ℕ × ℕ) × List Token) Refusal)
    → Answers view (Err error) us (edge_read n pairs ts) → edges_from n (length ts) pairs ts ≡ whole → Answers shown (Err error) us whole
edges_failed view shown NoMemory us n pairs ts whole h same = tt
edges_failed view shown Failed us n pairs ts whole h same = h
edges_failed view shown (Refused r) us n pairs ts whole h same = sym same ∙ edges_stop n pairs ts r h

display_shrinks : (s : Said) (k : ℕ) (ts : List Token) (n : Option ℕ) → Shrinks (display_data s k ts n) ts
unfolding display_data
display_shrinks s k ts None = tt
display_shrinks s k ts (Some n) = then_alone (passed (3 * n) ts) (λ rest. Ok (s, rest)) ts (passed_shrinks (3 * n) ts) (λ x l. l)

points_shrinks : (rule : Rule) (n : ℕ) (ts : List Token) → Shrinks (points_read rule n ts) ts
unfolding points_read
points_shrinks rule n ts = then (points_from n n (replicate n None) ts) (λ x. Ok (distances rule (all_points x.0), x.1)) ts (all_shrinks n n (replicate n None) ts) (λ x l. l)

weights_shrinks : (f : Format) (n : ℕ) (ts : List Token) → Shrinks (weights_read f n ts) ts
unfolding weights_read
weights_shrinks f n ts = entries_shrinks f n (entries f n) (replicate (n * n) 0) ts

table_shrinks : (s : Said) (n : ℕ) (read : Result (List ℕ × List Token) Refusal) (ts : List Token) → Shrinks read ts → Shrinks (with_table s n read) ts
table_shrinks s n (Ok x) ts h = h
table_shrinks s n (Err e) ts h = tt

coords_shrinks : (s : Said) (k : ℕ) (ts : List Token) (n : Option ℕ) (t : Option WeightType) → Shrinks (node_coords s k ts n t) ts
unfolding node_coords
coords_shrinks s k ts None t = tt
coords_shrinks s k ts (Some n) None = tt
coords_shrinks s k ts (Some n) (Some Explicit) = then_alone (passed (3 * n) ts) (λ rest. Ok (s, rest)) ts (passed_shrinks (3 * n) ts) (λ x l. l)
coords_shrinks s k ts (Some n) (Some (Points kind)) = table_shrinks s n (points_read (rule_of kind) n ts) ts (points_shrinks (rule_of kind) n ts)

listed_shrinks : (s : Said) (k n : ℕ) (ts : List Token) (f : Format) → Shrinks (listed_weights s k n ts f) ts
listed_shrinks s k n ts Function = tt
listed_shrinks s k n ts Full = table_shrinks s n (weights_read Full n ts) ts (weights_shrinks Full n ts)
listed_shrinks s k n ts Upper = table_shrinks s n (weights_read Upper n ts) ts (weights_shrinks Upper n ts)
listed_shrinks s k n ts Lower = table_shrinks s n (weights_read Lower n ts) ts (weights_shrinks Lower n ts)
listed_shrinks s k n ts UpperDiagonal = table_shrinks s n (weights_read UpperDiagonal n ts) ts (weights_shrinks UpperDiagonal n ts)
listed_shrinks s k n ts LowerDiagonal = table_shrinks s n (weights_read LowerDiagonal n ts) ts (weights_shrinks LowerDiagonal n ts)

edges_shrinks : (s : Said) (k : ℕ) (ts : List Token) (n : Option ℕ) (t : Option WeightType) (f : Option Format) → Shrinks (edge_weights s k ts n t f) ts
unfolding edge_weights
edges_shrinks s k ts (Some n) (Some Explicit) (Some f) = listed_shrinks s k n ts f
edges_shrinks s k ts (Some n) (Some Explicit) None = tt
edges_shrinks s k ts (Some n) (Some (Points kind)) f = tt
edges_shrinks s k ts (Some n) None f = tt
edges_shrinks s k ts None t f = tt

size_shrinks : (s : Said) (k : ℕ) (ts : List Token) (n : Option ℕ) → Shrinks (with_dimension s k ts n) ts
size_shrinks s k ts None = tt
size_shrinks s k ts (Some n) = omega arith

weight_type_shrinks : (s : Said) (k : ℕ) (ts : List Token) (t : Option WeightType) → Shrinks (with_weight_type s k ts t) ts
weight_type_shrinks s k ts None = tt
weight_type_shrinks s k ts (Some t) = omega arith

format_shrinks : (s : Said) (k : ℕ) (ts : List Token) (f : Option Format) → Shrinks (with_format s k ts f) ts
format_shrinks s k ts None = tt
format_shrinks s k ts (Some f) = omega arith

choice_shrinks : {A : Type 0} (b : Bool) (x y : Result (A × List Token) Refusal) (ts : List Token) → Shrinks x ts → Shrinks y ts → Shrinks (cond b x y) ts
choice_shrinks true x y ts h g = h
choice_shrinks false x y ts h g = g

said_shrinks : (s : Said) (k : ℕ) (value : List ℕ) (ts : List Token) (w : Keyword) → Shrinks (said s k value ts w) ts
unfolding said
said_shrinks s k value ts keywords.Name = omega arith
said_shrinks s k value ts keywords.Comment = omega arith
said_shrinks s k value ts keywords.NodeCoordType = omega arith
said_shrinks s k value ts keywords.DisplayDataType = omega arith
said_shrinks s k value ts keywords.Type = choice_shrinks (bytes_eq value (codes "TSP")) (Ok (s, ts)) (Err (WrongType k)) ts (omega arith) tt
said_shrinks s k value ts keywords.Dimension = size_shrinks s k ts (dimension_of value)
said_shrinks s k value ts keywords.EdgeWeightType = weight_type_shrinks s k ts (weight_type_of value)
said_shrinks s k value ts keywords.EdgeWeightFormat = format_shrinks s k ts (format_of value)
said_shrinks s k value ts keywords.NodeCoordSection = coords_shrinks s k ts s.dimension s.weight_type
said_shrinks s k value ts keywords.EdgeWeightSection = edges_shrinks s k ts s.dimension s.weight_type s.format
said_shrinks s k value ts keywords.DisplayDataSection = display_shrinks s k ts s.dimension
said_shrinks s k value ts keywords.FixedEdgesSection = fixed_shrinks s k ts s.dimension
said_shrinks s k value ts keywords.Eof = omega arith

keyword_shrinks : (s : Said) (k : ℕ) (value : List ℕ) (ts : List Token) (w : Option Keyword) → Shrinks (keyword_line s k value ts w) ts
unfolding keyword_line
keyword_shrinks s k value ts None = tt
keyword_shrinks s k value ts (Some w) =
    let heard : Said = record s { seen = now_seen s.seen w } in
    choice_shrinks (is_repeated s.seen w) (Err (Repeated k)) (said heard k value ts w) ts tt (said_shrinks heard k value ts w)

line_shrinks : (s : Said) (k : ℕ) (first : List ℕ) (ts : List Token) → Shrinks (line s k first ts) ts
line_shrinks s k first ts = wider (line s k first ts) (behind_line k ts) ts (behind_shrinks k ts) (keyword_shrinks s k (value_of k first ts) (behind_line k ts) (keyword_of (name_of first)))

same_lines : (a b : ℕ) (read : Result (Said × List Token) Refusal) (ts : List Token) → Shrinks read ts → ((x : Said × List Token) → length x.1 ≤ length ts → lines a x.0 x.1 ≡ lines b x.0 x.1) → (read >>= λ x. lines a x.0 x.1) ≡ (read >>= λ x. lines b x.0 x.1)
same_lines a b (Ok x) ts h g = g x h
same_lines a b (Err e) ts h g = refl

-- as many lines as there are words are all lines
pub all_lines : (a b : ℕ) (s : Said) (ts : List Token) → length ts ≤ a → length ts ≤ b → lines a s ts ≡ lines b s ts
unfolding lines
all_lines zero zero s ts l h = refl
all_lines zero (suc b) s [] l h = refl
all_lines zero (suc b) s (t ∷ ts) l h = absurd (omega arith)
all_lines (suc a) zero s [] l h = refl
all_lines (suc a) zero s (t ∷ ts) l h = absurd (omega arith)
all_lines (suc a) (suc b) s [] l h = refl
all_lines (suc a) (suc b) s (t ∷ ts) l h = same_lines a b (line s t.0 t.1 ts) ts (line_shrinks s t.0 t.1 ts) (λ x g. all_lines a b x.0 x.1 (omega arith) (omega arith))

pub outcome_long : (bytes : List ℕ) → 2 ^ 26 < length bytes → outcome bytes ≡ Err TooLong
unfolding outcome
outcome_long bytes l = let e : ltb (2 ^ 26) (length bytes) ≡ true = grind (arith, nat_tests) in rw e refl

pub outcome_read : (bytes : List ℕ) → length bytes ≤ 2 ^ 26 → lines (length bytes) nothing_said (tokens bytes) ≡ outcome bytes
unfolding outcome
outcome_read bytes l =
    let e : ltb (2 ^ 26) (length bytes) ≡ false = grind (arith, nat_tests) in
    rw e (all_lines (length bytes) (length (tokens bytes)) nothing_said (tokens bytes) (count_tokens 1 bytes) (omega arith))

pub ruleset outcomes = (outcome_long, outcome_read)

-- with more lines than there are words
pub outcome_short : (bytes : List ℕ) (m : ℕ) → length bytes ≤ 2 ^ 26 → length (tokens bytes) ≤ m → outcome bytes ≡ lines m nothing_said (tokens bytes)
unfolding outcome
outcome_short bytes m l h =
    let e : ltb (2 ^ 26) (length bytes) ≡ false = grind (arith, nat_tests) in
    rw e (all_lines (length (tokens bytes)) m nothing_said (tokens bytes) (omega arith) h)
