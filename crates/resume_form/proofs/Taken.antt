-- What is read out of a body, and the laws of it.
use Rattle.std.proofs.Common.{◌≡◌, ℕ, ◌+◌, ◌-◌, ◌*◌, ◌^◌, ◌<◌, ◌≤◌, Bool, true, false, ◌&&◌, List, ◌∷◌, length, refl, sym, ap, subst, ◌∙◌, arith, inl, inr}
use Rattle.std.specs.Prelude.{not, nat_le, nat_lt, Option, Some, None}
use Rattle.std.specs.List.{AllByRecursion}
use Rattle.std.proofs.lemmas.Bool.{and_parts, ltb-true}
use Rattle.std.proofs.lemmas.Bool.Decides.{nat_tests}
use Rattle.tspdef.specs.Instances.{Instance}
use Rattle.tspdef.specs.Trees.{Tree, IsSoundFor}
use Rattle.treebook.specs.Tables.{tree_of}
use Rattle.treebook.specs.Tree.{Table}
use Rattle.certdef.specs.Items.{size_line, line, longest, fits}
use Rattle.certdef.specs.Proofs.{Listed, Written, Proof, items}
use Rattle.certdef.specs.Accepted.{from_zero, tree_in, most_bytes}
use Rattle.certdef.specs.Verdicts.{yes, no}
use Rattle.verdict.specs.Bodies.{merged, reopened_for, resumed, body_verdict, IsBodyOf, IsBodyText, YesIsBodyText, ResumedIsSound}
use Rattle.verdict.specs.Parts.{Part, the_tour, preorder, parts_of, body_says, BodiesSayTheirParts}
use Rattle.verdict.specs.Spellings.{BytesHaveOneValue}
use Rattle.certcheck.specs.Keeping.{Kept}
use Rattle.certcheck.specs.Parts as kept
use Rattle.certcheck.specs.Restarts.{IsRefusalOfBody}
use Rattle.certcheck.specs.declared.part.Part as P
use Rattle.certcheck.specs.declared.answer.Trouble.{Trouble}
use Rattle.certcheck.specs.declared.answer.Trouble.TheVariants as troubles
use Rattle.resume_form.specs.Growing.{IsSaid, IsGrown, BeginsWithTour}
use Rattle.resume_form.specs.Resumed.{nodes_in, most_nodes, told_as, IsResumed, IsRefused, OneReading, OneTree, BodiesAreRead}
use Rattle.resume_form.specs.Told.{IsToldOf}
use Rattle.resume_form.specs.declared.error.ReadError.{ReadError}
use Rattle.resume_form.specs.declared.error.ReadError.TheVariants as errors
use Rattle.resume_form.proofs.Taking.{length_parts}
use Rattle.resume_form.proofs.Fitting.{body_is_said}

-- ---- the parts that are kept

all_kept : (ps : List P.Part) (full : Bool) (said : List Part) (budget : ℕ) → Kept ps full said → (not full && nat_le (length ps + 2 * budget) 1048577) ≡ true
    → (kept.parts_of ps ≡ said) × (length said + 2 * budget ≤ 1048577)
all_kept ps true said budget k e = absurd cc
all_kept ps false said budget k e =
    let same = k.all refl in
    let few : length ps + 2 * budget ≤ 1048577 = grind (arith, nat_tests) in
    (same, omega (arith, ap length same, length_parts kept.part_of ps, few))

too_many_kept : (ps : List P.Part) (full : Bool) (said : List Part) (budget : ℕ) → Kept ps full said → (not full && nat_le (length ps + 2 * budget) 1048577) ≡ false
    → 1048577 < length said + 2 * budget
too_many_kept ps true said budget k e = let h = k.over refl in omega arith
too_many_kept ps false said budget k e =
    let many : 1048577 < length ps + 2 * budget = grind (arith, nat_tests) in
    omega (arith, ap length (k.all refl), length_parts kept.part_of ps, many)

-- the parts of a body, all of them
pub record IsWhole (i : Instance) (body : List ℕ) (l b budget : ℕ) (ps : List P.Part) : Type 0 where
  pub value : Proof
  pub few_bytes : length body ≤ most_bytes
  pub said : IsBodyOf i body l b value
  pub parts : kept.parts_of ps ≡ parts_of i.n value
  pub room : nodes_in i.n value + 2 * budget ≤ most_nodes

pub whole : (i : Instance) (body : List ℕ) (l b budget : ℕ) (ps : List P.Part) (full : Bool) → YesIsBodyText → BodiesSayTheirParts → i.n < 2 ^ 32 → body_verdict i body ≡ yes l b
    → Kept ps full (body_says i body) → (not full && nat_le (length ps + 2 * budget) 1048577) ≡ true → IsWhole i body l b budget ps
whole i body l b budget ps full exact says n e k f =
    let told : IsBodyText i body l b = (exact i body l b n).0 e in
    let all = all_kept ps full (body_says i body) budget k f in
    let same : body_says i body ≡ parts_of i.n told.1 = says i body l b told.1 n told.0 told.2 in
    record { value = told.1; few_bytes = told.0; said = told.2; parts = all.0 ∙ same; room = omega (arith, all.1, ap length same) }

-- too many
pub too_many : (i : Instance) (body : List ℕ) (l b budget gap k at : ℕ) (ps : List P.Part) (full : Bool) → YesIsBodyText → BodiesSayTheirParts → i.n < 2 ^ 32 → body_verdict i body ≡ yes l b
    → Kept ps full (body_says i body) → (not full && nat_le (length ps + 2 * budget) 1048577) ≡ false → k ≡ 5 → at ≡ 0 → IsRefused i budget gap body k at
too_many i body l b budget gap k at ps full exact says n e s f refusal place =
    let told : IsBodyText i body l b = (exact i body l b n).0 e in
    let many = too_many_kept ps full (body_says i body) budget s f in
    let same : body_says i body ≡ parts_of i.n told.1 = says i body l b told.1 n told.0 told.2 in
    inr (record { refusal = refusal; line = place; long = l; bound = b; value = told.1; few_bytes = told.0; said = told.2; many = omega (arith, many, ap length same) })

-- ---- the tour and the nodes

pub whole_begins : (i : Instance) (body : List ℕ) (l b budget : ℕ) (ps : List P.Part) → IsWhole i body l b budget ps → BeginsWithTour (kept.parts_of ps)
whole_begins i body l b budget ps w = subst BeginsWithTour (sym w.parts) tt

-- once the tour is taken
pub record IsTaken (i : Instance) (value : Proof) (budget : ℕ) (tour : List ℕ) (ps : List P.Part) : Type 0 where
  pub same : tour ≡ from_zero value.tour
  pub nodes : kept.parts_of ps ≡ preorder (merged (tree_in i.n value))
  pub many : length ps ≡ nodes_in i.n value

pub taken : (i : Instance) (body : List ℕ) (l b budget : ℕ) (ps qs : List P.Part) (tour : List ℕ) (w : IsWhole i body l b budget ps) → kept.parts_of ps ≡ the_tour tour ∷ kept.parts_of qs
    → IsTaken i w.value budget tour qs
taken i body l b budget ps qs tour w e =
    let same : the_tour tour ∷ kept.parts_of qs ≡ parts_of i.n w.value = sym e ∙ w.parts in
    let nodes : kept.parts_of qs ≡ preorder (merged (tree_in i.n w.value)) = cc in
    record { same = cc; nodes = nodes; many = omega (arith, ap length nodes, length_parts kept.part_of qs) }

pub taken_said : (i : Instance) (body : List ℕ) (l b budget : ℕ) (ps qs : List P.Part) (tour : List ℕ) (w : IsWhole i body l b budget ps) → IsTaken i w.value budget tour qs
    → IsSaid i b (kept.parts_of qs) (merged (tree_in i.n w.value))
taken_said i body l b budget ps qs tour w t = subst (λ xs. IsSaid i b xs (merged (tree_in i.n w.value))) (sym t.nodes) (body_is_said i body l b w.value w.said)

-- ---- what is read

resumed_of : (i : Instance) (budget gap : ℕ) (body : List ℕ) (l b : ℕ) (p : Proof) → ResumedIsSound → length body ≤ most_bytes → IsBodyOf i body l b p → nodes_in i.n p + 2 * budget ≤ most_nodes
    → IsResumed i budget gap body (resumed i (l - gap) p) (from_zero p.tour)
resumed_of i budget gap body l b p sound few said room = record {
  value = p;
  text = said.text;
  few_bytes = few;
  long = l;
  bound = b;
  said = said;
  tours_are_one = refl;
  is_tour = said.body.is_tour;
  canonical = said.body.canonical;
  length_told = sym said.body.long;
  reopened = refl;
  kept = subst (λ k. IsSoundFor i (k - gap) (resumed i (l - gap) p)) said.body.long (sound i l b (l - gap) p said.body);
  room = room;
}

pub was_read : (i : Instance) (budget gap level : ℕ) (body : List ℕ) (l b : ℕ) (ps qs : List P.Part) (tour : List ℕ) (table : Table) → ResumedIsSound → (w : IsWhole i body l b budget ps) → IsTaken i w.value budget tour qs
    → level ≡ l - gap → IsGrown i (reopened_for i level (merged (tree_in i.n w.value))) (length qs) table → IsResumed i budget gap body (tree_of table.nodes) tour
was_read i budget gap level body l b ps qs tour table sound w t e g =
    let read = resumed_of i budget gap body l b w.value sound w.few_bytes w.said w.room in
    let tree : tree_of table.nodes ≡ resumed i (l - gap) w.value = g.tree ∙ ap (λ m. reopened_for i m (merged (tree_in i.n w.value))) e in
    subst (λ (r : Tree). IsResumed i budget gap body r tour) (sym tree) (subst (IsResumed i budget gap body (resumed i (l - gap) w.value)) (sym t.same) read)

pub few_read : (i : Instance) (budget : ℕ) (body : List ℕ) (l b : ℕ) (ps qs : List P.Part) (tour : List ℕ) (goal : Tree) (table : Table) (w : IsWhole i body l b budget ps) → IsTaken i w.value budget tour qs
    → IsGrown i goal (length qs) table → length table.nodes + 2 * budget ≤ 1048576
few_read i budget body l b ps qs tour goal table w t g = omega (arith, g.count, t.many, w.room)

-- ---- refusals

pub refusal_told : (i : Instance) (budget gap : ℕ) (body : List ℕ) (t : Trouble) (e : ReadError) (k at : ℕ) → IsRefusalOfBody i t body → IsToldOf t e → e ≡ errors.Refused k at → IsRefused i budget gap body k at
refusal_told i budget gap body troubles.NoMemory e k at h told is = absurd cc
refusal_told i budget gap body (troubles.Refused j from) e k at h told is =
    let number : k ≡ told_as j = cc in
    let place : from ≡ at = cc in
    inl (record { refusal = j; verdict = h ∙ ap (no j) place; told = number })

-- ---- the laws

few_for : (n cities long : ℕ) (o : Option ℕ) (tour : List ℕ) (cuts : List Listed) (tree : Written)
    → AllByRecursion (λ x. fits n x ≡ true) (items (record { cities = cities; long = long; bound = o; tour = tour; cuts = cuts; tree = tree })) → cities < 2 ^ 32
few_for n cities long None tour cuts tree h = ltb-true cities (2 ^ 32) (and_parts (nat_lt cities (2 ^ 32)) (nat_le (length (line (size_line cities))) longest) h.1.0).0
few_for n cities long (Some b) tour cuts tree h = ltb-true cities (2 ^ 32) (and_parts (nat_lt cities (2 ^ 32)) (nat_le (length (line (size_line cities))) longest) h.1.0).0

few_cities : (i : Instance) (body : List ℕ) (l b : ℕ) (p : Proof) → IsBodyOf i body l b p → i.n < 2 ^ 32
few_cities i body l b p s = subst (λ k. k < 2 ^ 32) s.body.about.size (few_for i.n p.cities p.long p.bound p.tour p.cuts p.tree s.form.readable.lines)

pub one_reading : YesIsBodyText → BodiesSayTheirParts → OneReading
one_reading exact says i budget gap body tree tour refusal at r (inl q) =
    let n = few_cities i body r.long r.bound r.value r.said in
    let a = (exact i body r.long r.bound n).1 (r.few_bytes, r.value, r.said) in
    let e = sym a ∙ q.verdict in cc
one_reading exact says i budget gap body tree tour refusal at r (inr q) =
    let n = few_cities i body r.long r.bound r.value r.said in
    let a = says i body r.long r.bound r.value n r.few_bytes r.said in
    let b = says i body q.long q.bound q.value n q.few_bytes q.said in
    let same = ap length (sym a ∙ b) in
    let few = r.room in
    let many = q.many in
    absurd (omega arith)

same_read : (i : Instance) (l m gap : ℕ) (p q : Proof) → p ≡ q → l ≡ m → resumed i (l - gap) p ≡ resumed i (m - gap) q
same_read i l m gap p q e f = ap (λ r. resumed i (l - gap) r) e ∙ ap (λ k. resumed i (k - gap) q) f

pub one_tree : BytesHaveOneValue → OneTree
one_tree one i budget gap body tree other tour another r q =
    let n = few_cities i body r.long r.bound r.value r.said in
    let values : r.value ≡ q.value = one i.n i.n r.value q.value n n r.said.form.readable q.said.form.readable (sym r.text ∙ q.text) in
    let long : r.long ≡ q.long = sym r.said.body.about.same ∙ (ap (λ (p : Proof). p.long) values ∙ q.said.body.about.same) in (
      r.reopened ∙ (same_read i r.long q.long gap r.value q.value values long ∙ sym q.reopened),
      r.tours_are_one ∙ (ap (λ (p : Proof). from_zero p.tour) values ∙ sym q.tours_are_one),
    )

pub bodies_are_read : ResumedIsSound → BodiesAreRead
bodies_are_read sound i budget gap body l b p few said room = resumed_of i budget gap body l b p sound few said room
