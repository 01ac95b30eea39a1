-- The text of a report: its cuts as a proof text lists them, and one closed leaf with its duals; or no cut, and one split. And the text
-- of a tour. What a text says is read line by line; no line has a choice.
use Rattle.std.specs.Prelude.{ℕ, Bool, zero, suc, ◌-◌, ◌==◌, ◌&&◌, nat_le, if◌then◌else◌, List, [], ◌∷◌, ◌++◌, length, Option, Some, None, ℤ}
use Rattle.std.specs.Option.{option_map}
use Rattle.certdef.specs.Items.{Item, subtour_line, comb_line, odd_line, edge_line, clique_line, leaf_line}
use Rattle.certdef.specs.Proofs.{Listed, subtour_cut, comb_cut, odd_cut, Duals}
use Rattle.certdef.specs.Accepted.{from_zero, cut_of, cuts_of, closing_of}
use Rattle.certdef.specs.Tests.{each_positive, is_tour, is_cut}
use Rattle.certdef.specs.Verdicts.{after}
use Rattle.branchx.specs.declared.branch.Branch.TheVariants.{Edge, Clique}
use Rattle.pricer.specs.declared.closing.Report.{Report}
use Rattle.pricer.specs.declared.closing.Report.TheVariants.{Closed, Split}
use Rattle.tapeboss.specs.Lines.{are_over, first_line, other_lines, set_of_handle, set_of_tooth, pair_of, city_of, cut_dual_of, condition_dual_of, count_of, cities_of}

-- what a report says of its node: duals that close it, or by what it is split; cities count from 1
pub data Content : Type 0 where
  closed : (duals : Duals) → Content
  edge : (u v : ℕ) → Content
  clique : (set : List ℕ) → Content

-- a report as it is spelled
pub record Message : Type 0 where
  pub cuts : List Listed
  pub content : Content

-- goes on with what was read, if anything
abbrev pub onward : {A B : Type 0} → Option A → (A → Option B) → Option B
onward None f = None
onward (Some a) f = f a

-- so many things more, behind those so far, each of which may depend on those before it; and the rest of the text
abbrev pub listed_on : {X : Type 0} → (List X → List ℕ → Option (X × List ℕ)) → List X → ℕ → List ℕ → Option (List X × List ℕ)
listed_on next xs zero text = Some (xs, text)
listed_on next xs (suc k) text = onward (next xs text) (λ r. listed_on next (xs ++ r.0 ∷ []) k r.1)

-- what a line says, and what stands behind the line
abbrev pub with_rest : {X : Type 0} → List ℕ → Option X → Option (X × List ℕ)
with_rest text None = None
with_rest text (Some x) = Some (x, other_lines text)

-- the same, where it may come behind those so far
abbrev pub with_rest_if : {X : Type 0} → (X → Bool) → List ℕ → Option X → Option (X × List ℕ)
with_rest_if may text None = None
with_rest_if may text (Some x) = if may x then Some (x, other_lines text) else None

-- ---- cuts

abbrev pub next_tooth : ℕ → List (List ℕ) → List ℕ → Option (List ℕ × List ℕ)
next_tooth n ts text = with_rest text (set_of_tooth (first_line n text))

abbrev pub teeth_on : ℕ → List (List ℕ) → ℕ → List ℕ → Option (List (List ℕ) × List ℕ)
teeth_on n ts t text = listed_on (next_tooth n) ts t text

abbrev pub next_pair : ℕ → List (ℕ × ℕ) → List ℕ → Option ((ℕ × ℕ) × List ℕ)
next_pair n ps text = with_rest text (pair_of (first_line n text))

abbrev pub pairs_on : ℕ → List (ℕ × ℕ) → ℕ → List ℕ → Option (List (ℕ × ℕ) × List ℕ)
pairs_on n ps t text = listed_on (next_pair n) ps t text

-- what is listed is a cut
abbrev pub if_cut : ℕ → Listed → List ℕ → Option (Listed × List ℕ)
if_cut n c text = if is_cut n (cut_of n c) then Some (c, text) else None

-- a comb of so many teeth, behind its first line
abbrev pub comb_in : ℕ → ℕ → List ℕ → Option (Listed × List ℕ)
comb_in n t text = onward (set_of_handle (first_line n text)) (λ h. onward (teeth_on n [] t (other_lines text)) (λ r. if_cut n (comb_cut h r.0) r.1))

-- an odd cut of so many pairs, behind its first line
abbrev pub odd_in : ℕ → ℕ → List ℕ → Option (Listed × List ℕ)
odd_in n t text = onward (set_of_handle (first_line n text)) (λ h. onward (pairs_on n [] t (other_lines text)) (λ r. if_cut n (odd_cut h r.0) r.1))

abbrev pub cut_by : ℕ → Option Item → List ℕ → Option (Listed × List ℕ)
cut_by n (Some (subtour_line s)) text = if_cut n (subtour_cut s) text
cut_by n (Some (comb_line t)) text = comb_in n t text
cut_by n (Some (odd_line t)) text = odd_in n t text
cut_by n _ text = None

-- the cut that comes next
abbrev pub cut_in : ℕ → List ℕ → Option (Listed × List ℕ)
cut_in n text = cut_by n (first_line n text) (other_lines text)

abbrev pub next_cut : ℕ → List Listed → List ℕ → Option (Listed × List ℕ)
next_cut n cs text = cut_in n text

abbrev pub cuts_on : ℕ → List Listed → ℕ → List ℕ → Option (List Listed × List ℕ)
cuts_on n cs m text = listed_on (next_cut n) cs m text

-- ---- duals

-- the numbers of cities rise
abbrev pub next_city : ℕ → List (ℕ × ℤ) → List ℕ → Option ((ℕ × ℤ) × List ℕ)
next_city n ps text = with_rest_if (λ p. nat_le (after ps) p.0) text (city_of (first_line n text))

abbrev pub cities_on : ℕ → List (ℕ × ℤ) → ℕ → List ℕ → Option (List (ℕ × ℤ) × List ℕ)
cities_on n ps a text = listed_on (next_city n) ps a text

-- so do those of cuts, of which k are listed
abbrev pub next_cut_dual : ℕ → ℕ → List (ℕ × ℕ) → List ℕ → Option ((ℕ × ℕ) × List ℕ)
next_cut_dual n k ps text = with_rest_if (λ p. nat_le (after ps) p.0 && nat_le p.0 k) text (cut_dual_of (first_line n text))

abbrev pub cut_duals_on : ℕ → ℕ → List (ℕ × ℕ) → ℕ → List ℕ → Option (List (ℕ × ℕ) × List ℕ)
cut_duals_on n k ps b text = listed_on (next_cut_dual n k) ps b text

-- and depths; what they name is the boss's to judge
abbrev pub next_condition_dual : ℕ → List (ℕ × ℕ) → List ℕ → Option ((ℕ × ℕ) × List ℕ)
next_condition_dual n ps text = with_rest_if (λ p. nat_le (after ps) p.0) text (condition_dual_of (first_line n text))

abbrev pub condition_duals_on : ℕ → List (ℕ × ℕ) → ℕ → List ℕ → Option (List (ℕ × ℕ) × List ℕ)
condition_duals_on n ps c text = listed_on (next_condition_dual n) ps c text

-- so many duals of cities, of cuts and of conditions, where k cuts are listed
abbrev pub duals_in : ℕ → ℕ → (a b c : ℕ) → List ℕ → Option (Duals × List ℕ)
duals_in n k a b c text = onward (cities_on n [] a text) (λ p. onward (cut_duals_on n k [] b p.1) (λ q. onward (condition_duals_on n [] c q.1) (λ r.
    Some (record { cities = p.0; cuts = q.0; conds = r.0 }, r.1))))

-- ---- the report

-- a split, where no cut is listed
abbrev pub if_alone : ℕ → Content → List ℕ → Option (Content × List ℕ)
if_alone k what text = if k == 0 then Some (what, text) else None

abbrev pub content_by : ℕ → ℕ → Option Item → List ℕ → Option (Content × List ℕ)
content_by n k (Some (leaf_line a b c)) text = onward (duals_in n k a b c text) (λ r. Some (closed r.0, r.1))
content_by n k (Some (edge_line u v)) text = if_alone k (edge u v) text
content_by n k (Some (clique_line s)) text = if_alone k (clique s) text
content_by n k _ text = None

-- a leaf or a split, where k cuts are listed
abbrev pub content_in : ℕ → ℕ → List ℕ → Option (Content × List ℕ)
content_in n k text = content_by n k (first_line n text) (other_lines text)

-- a leaf or a split behind these cuts, with nothing behind it
abbrev pub message_behind : ℕ → List Listed → List ℕ → Option Message
message_behind n cs text = onward (content_in n (length cs) text) (λ r. if are_over r.1 then Some (record { cuts = cs; content = r.0 }) else None)

-- the report that a text for n cities says, if it is of the form and its cuts are cuts
abbrev pub message_in : ℕ → List ℕ → Option Message
message_in n text = onward (count_of (first_line n text)) (λ k. onward (cuts_on n [] k (other_lines text)) (λ r. message_behind n r.0 r.1))

-- what a content says, where these cuts are listed; the closing's cuts are the leaf's in the order of their numbers
abbrev pub report_by : ℕ → List Listed → Content → Report
report_by n cs (closed d) = Closed (closing_of n (cuts_of n cs) d)
report_by n cs (edge u v) = Split (Edge (u - 1) (v - 1))
report_by n cs (clique s) = Split (Clique (record { n = n; cities = from_zero s }))

abbrev pub report_of : ℕ → Message → Report
report_of n m = report_by n m.cuts m.content

abbrev pub report_in : ℕ → List ℕ → Option Report
report_in n text = option_map (report_of n) (message_in n text)

-- ---- the tour

-- any order of the n cities, which count from 1, with nothing behind the line
abbrev pub tour_in : ℕ → List ℕ → Option (List ℕ)
tour_in n text = onward (cities_of (first_line n text)) (λ cs.
    if are_over (other_lines text) && (each_positive cs && is_tour n (from_zero cs)) then Some (from_zero cs) else None)
