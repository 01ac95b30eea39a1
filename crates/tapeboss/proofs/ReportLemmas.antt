-- Tours and reports that are read.
use Rattle.std.proofs.Common.{◌≡◌, ℕ, ◌<◌, List, [], ◌∷◌, map, length, Option, Some, None, true, cond, ◌&&◌, refl, sym, ap, ◌∙◌, subst, arith}
use Rattle.std.specs.Prelude.{MatchOption, nat_lt}
use Rattle.std.specs.List.{AllByRecursion}
use Rattle.std.proofs.lemmas.Bool.{false_from_ne_true, and_parts, ltb-true}
use Rattle.std.proofs.lemmas.Bool.Decides.{nat_tests}
use Rattle.tspdef.specs.Tours.{IsTour}
use Rattle.certdef.specs.Accepted.{from_zero, closing_of}
use Rattle.certdef.specs.Proofs.{Listed, Duals}
use Rattle.certdef.specs.Items.{leaf_line}
use Rattle.certdef.specs.Tests.{each_positive, is_tour}
use Rattle.certtests.specs.Places.{AreFromOne}
use Rattle.verdict.proofs.Decisions.{tour_yes, yes_tour}
use Rattle.tapeboss.specs.Lines.{are_over, first_line, other_lines, cities_of, count_of}
use Rattle.tapeboss.specs.Messages.{onward, tour_in, Content, closed, Message, content_by, content_in, cuts_on, message_behind, report_by, report_of, report_in, duals_in}
use Rattle.std.specs.Option.{option_map}
use Rattle.tspdef.specs.Closings.{Closing}
use Rattle.tspdef.specs.Cuts.{Cut, IsCut}
use Rattle.certtests.specs.Listed.{listed}
use Rattle.certtests.proofs.Listing.{cuts_again}
use Rattle.pricer.specs.declared.closing.Report.{Report}
use Rattle.pricer.specs.declared.closing.Report.TheVariants.{Closed}

are_positive : (n : ℕ) (cs : List ℕ) → AreFromOne n cs → each_positive cs ≡ true
are_positive n [] h = refl
are_positive n (c ∷ cs) h =
    let low = h.0.0 in
    let first : nat_lt 0 c ≡ true = grind (arith, nat_tests) in
    ap (λ b. b && each_positive cs) first ∙ are_positive n cs h.1

are_within : (n : ℕ) (cs : List ℕ) → each_positive cs ≡ true → AllByRecursion (λ c. c < n) (from_zero cs) → AreFromOne n cs
are_within n [] p h = tt
are_within n (c ∷ cs) p h =
    let q = and_parts (nat_lt 0 c) (each_positive cs) p in
    let low = ltb-true 0 c q.0 in
    let high = h.0 in
    ((omega arith, omega arith), are_within n cs q.1 h.1)

-- what is read of a line that is the last one
abbrev pub tour_if : ℕ → List ℕ → Option (List ℕ)
tour_if n cs = cond (each_positive cs && is_tour n (from_zero cs)) (Some (from_zero cs)) None

pub of_last_line : (n : ℕ) (text cs : List ℕ) → cities_of (first_line n text) ≡ Some cs → are_over (other_lines text) ≡ true → tour_in n text ≡ tour_if n cs
of_last_line n text cs e over =
    ap (λ o. onward o (λ (ds : List ℕ). cond (are_over (other_lines text) && (each_positive ds && is_tour n (from_zero ds))) (Some (from_zero ds)) None)) e
    ∙ ap (λ b. cond (b && (each_positive cs && is_tour n (from_zero cs))) (Some (from_zero cs)) None) over

pub out_of_range : (n : ℕ) (cs : List ℕ) → (AreFromOne n cs → ⊥) → tour_if n cs ≡ None
out_of_range n cs refuted =
    ap (λ b. cond b (Some (from_zero cs)) None) (false_from_ne_true (each_positive cs && is_tour n (from_zero cs)) (λ e.
    let q = and_parts (each_positive cs) (is_tour n (from_zero cs)) e in
    refuted (are_within n cs q.0 (tour_yes n (from_zero cs) q.1).below)))

-- what making a tour of the cities answers
pub tour_made : (n : ℕ) (cs xs : List ℕ) (o : Option (List ℕ)) → AreFromOne n cs → xs ≡ from_zero cs → MatchOption o (¬ IsTour n xs) (λ t. IsTour n xs × (t ≡ xs)) → o ≡ tour_if n cs
tour_made n cs xs None from e none =
    sym (ap (λ b. cond b (Some (from_zero cs)) None) (false_from_ne_true (each_positive cs && is_tour n (from_zero cs)) (λ f.
    let q = and_parts (each_positive cs) (is_tour n (from_zero cs)) f in
    none (subst (IsTour n) (sym e) (tour_yes n (from_zero cs) q.1)))))
tour_made n cs xs (Some t) from e some =
    let both : (each_positive cs && is_tour n (from_zero cs)) ≡ true =
    ap (λ b. b && is_tour n (from_zero cs)) (are_positive n cs from) ∙ yes_tour n (from_zero cs) (subst (IsTour n) e some.0) in
    ap Some (some.1 ∙ e) ∙ sym (ap (λ b. cond b (Some (from_zero cs)) None) both)

-- ---- reports

some_is : {A : Type 0} (a b : A) → Some a ≡ Some b → a ≡ b
some_is a b e = cc

some_is_none : {A : Type 0} (a : A) → Some a ≡ None → ⊥
some_is_none a e = cc

content_told : (n : ℕ) (cs : List Listed) (o : Option (Content × List ℕ)) (r : Report) (rest : List ℕ) → Some (r, rest) ≡ option_map {T = Content × List ℕ} {U = Report × List ℕ} (λ q. (report_by n cs q.0, q.1)) o → are_over rest ≡ true
    → option_map (report_of n) (onward o (λ (q : Content × List ℕ). cond (are_over q.1) (Some (record { cuts = cs; content = q.0 })) None)) ≡ Some r
content_told n cs None r rest e over = absurd (some_is_none (r, rest) e)
content_told n cs (Some q) r rest e over =
    let f : (r, rest) ≡ (report_by n cs q.0, q.1) = some_is (r, rest) (report_by n cs q.0, q.1) e in
    let over' : are_over q.1 ≡ true = ap are_over (sym (ap (λ (p : Report × List ℕ). p.1) f)) ∙ over in
    let message : Message = record { cuts = cs; content = q.0 } in
    ap (λ b. option_map (report_of n) (cond b (Some message) None)) over' ∙ ap Some (sym (ap (λ (p : Report × List ℕ). p.0) f))

pub report_read : (n k : ℕ) (text rest end : List ℕ) (cs : List Listed) (count : ℕ) (r : Report) → count_of (first_line n text) ≡ Some k → cuts_on n [] k (other_lines text) ≡ Some (cs, rest) → length cs ≡ count
    → Some (r, end) ≡ option_map {T = Content × List ℕ} {U = Report × List ℕ} (λ q. (report_by n cs q.0, q.1)) (content_in n count rest) → are_over end ≡ true → Some r ≡ report_in n text
report_read n k text rest end cs count r e f same g over =
    let told = content_told n cs (content_in n (length cs) rest) r end (subst (λ j. Some (r, end) ≡ option_map {T = Content × List ℕ} {U = Report × List ℕ} (λ q. (report_by n cs q.0, q.1)) (content_in n j rest)) (sym same) g) over in
    sym (ap (λ o. option_map (report_of n) (onward o (λ (j : ℕ). onward (cuts_on n [] j (other_lines text)) (λ (p : List Listed × List ℕ). message_behind n p.0 p.1)))) e
    ∙ (ap (λ o. option_map (report_of n) (onward o (λ (p : List Listed × List ℕ). message_behind n p.0 p.1))) f ∙ told))

-- a closed leaf
pub leaf_told : (n : ℕ) (cuts : List Cut) (o : Option (Duals × List ℕ)) (c : Closing) (rest : List ℕ) → AllByRecursion (IsCut n) cuts → Some (c, rest) ≡ option_map {T = Duals × List ℕ} {U = Closing × List ℕ} (λ q. (closing_of n cuts q.0, q.1)) o
    → Some (Closed c, rest) ≡ option_map {T = Content × List ℕ} {U = Report × List ℕ} (λ q. (report_by n (map listed cuts) q.0, q.1)) (onward o (λ (q : Duals × List ℕ). Some (closed q.0, q.1)))
leaf_told n cuts None c rest k e = absurd (some_is_none (c, rest) e)
leaf_told n cuts (Some q) c rest k e =
    let f : (c, rest) ≡ (closing_of n cuts q.0, q.1) = some_is (c, rest) (closing_of n cuts q.0, q.1) e in
    ap (λ (p : Closing × List ℕ). Some (Closed p.0, p.1)) f ∙ ap (λ ks. Some (Closed (closing_of n ks q.0), q.1)) (sym (cuts_again n cuts k))

pub leaf_read : (n m k a b d : ℕ) (cuts : List Cut) (text rest end : List ℕ) (c : Closing) → m ≡ n → rest ≡ other_lines text → first_line n text ≡ Some (leaf_line a b d) → AllByRecursion (IsCut n) cuts
    → Some (c, end) ≡ option_map {T = Duals × List ℕ} {U = Closing × List ℕ} (λ q. (closing_of m cuts q.0, q.1)) (duals_in m k a b d rest)
    → Some (Closed c, end) ≡ option_map {T = Content × List ℕ} {U = Report × List ℕ} (λ q. (report_by n (map listed cuts) q.0, q.1)) (content_in n k text)
leaf_read n m k a b d cuts text rest end c e f line are told =
    let here : Some (c, end) ≡ option_map {T = Duals × List ℕ} {U = Closing × List ℕ} (λ q. (closing_of n cuts q.0, q.1)) (duals_in n k a b d (other_lines text)) =
    subst (λ (j : ℕ). Some (c, end) ≡ option_map {T = Duals × List ℕ} {U = Closing × List ℕ} (λ q. (closing_of j cuts q.0, q.1)) (duals_in j k a b d (other_lines text))) e
    (subst (λ (z : List ℕ). Some (c, end) ≡ option_map {T = Duals × List ℕ} {U = Closing × List ℕ} (λ q. (closing_of m cuts q.0, q.1)) (duals_in m k a b d z)) f told) in
    leaf_told n cuts (duals_in n k a b d (other_lines text)) c end are here
    ∙ ap (λ o. option_map {T = Content × List ℕ} {U = Report × List ℕ} (λ q. (report_by n (map listed cuts) q.0, q.1)) (content_by n k o (other_lines text))) (sym line)

-- cuts that are read behind the first line
pub cuts_here : (n m k : ℕ) (text from : List ℕ) (v : Option (List Listed × List ℕ)) → m ≡ n → from ≡ other_lines text → v ≡ cuts_on m [] k from → cuts_on n [] k (other_lines text) ≡ v
cuts_here n m k text from v e f h = sym (h ∙ (ap (λ (j : ℕ). cuts_on j [] k from) e ∙ ap (λ (z : List ℕ). cuts_on n [] k z) f))

pub content_here : (n m : ℕ) (cs : List Listed) (count : ℕ) (rest : List ℕ) (v : Option (Report × List ℕ)) → m ≡ n → v ≡ option_map {T = Content × List ℕ} {U = Report × List ℕ} (λ q. (report_by m cs q.0, q.1)) (content_in m count rest)
    → v ≡ option_map {T = Content × List ℕ} {U = Report × List ℕ} (λ q. (report_by n cs q.0, q.1)) (content_in n count rest)
content_here n m cs count rest v e h = h ∙ ap (λ (j : ℕ). option_map {T = Content × List ℕ} {U = Report × List ℕ} (λ q. (report_by j cs q.0, q.1)) (content_in j count rest)) e
