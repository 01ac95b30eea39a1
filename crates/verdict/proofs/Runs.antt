-- the machine says yes exactly on the lines of values that pass its tests
use Rattle.std.proofs.Common.{◌≡◌, ℕ, zero, suc, ◌+◌, ◌^◌, ◌<◌, ◌≤◌, ◌&&◌, true, List, [], ◌∷◌, ◌++◌, length, map, Option, Some, None, refl, sym, ap, ◌∙◌, subst, arith, append_assoc, ◌⊎◌, inl, inr, ⊎_elim}
use Rattle.std.specs.Prelude.{◌↔◌, nat_lt, nat_le}
use Rattle.std.specs.List.{flat_map, AllByRecursion}
use Rattle.std.proofs.lemmas.Bool.{and_parts, ltb-true, leb-true}
use Rattle.certdef.specs.Items.{Item, title_line, size_line, length_line, bound_line, tour_line, cuts_line, line, longest, fits, item_of}
use Rattle.certdef.specs.Proofs.{Listed, Written, Proof, listed_items, tree_items, head_items, items, lines}
use Rattle.certdef.specs.Accepted.{rises_in_cut}
use Rattle.certdef.specs.Tests.{Tests}
use Rattle.certdef.specs.Verdicts.{Stage, wants_title, yes, Outcome, go, refused, line_step, step, run, verdict_by}
use Rattle.verdict.proofs.Left.{Good, LeftOf, SizeLeft, TourLeft, TitleLeft}
use Rattle.verdict.proofs.CutSteps.{append_nil}
use Rattle.verdict.proofs.Steps.{step_forth, step_back, end_forth, end_back}
use Rattle.verdict.proofs.Lines.{item_said, item_again}

-- each line is of the form by itself
abbrev pub AreOfForm : ℕ → List Item → Type 0
AreOfForm n xs = AllByRecursion (λ i. fits n i ≡ true) xs

-- ---- runs

-- lines that are spelled, of form, and left
abbrev Spelled : Tests → ℕ × ℕ → Outcome → List (List ℕ) → Type 0
Spelled j l o ls = (xs : List Item) × (ls ≡ map line xs) × AreOfForm j.n xs × LeftOf j l o xs

one_line : (j : Tests) (l : ℕ × ℕ) (at : ℕ) (s : Stage) (w : List ℕ) (ws : List (List ℕ)) (r : Option Item) → item_of j.n w ≡ r → Spelled j l (line_step j at s r) ws → Spelled j l (go s) (w ∷ ws)
one_line j l at s w ws None e k = absurd k.3
one_line j l at s w ws (Some x) e k =
    let said = item_said j.n w x e in
    (x ∷ k.0, ap (λ r. r ∷ ws) said.0 ∙ ap (λ r. line x ∷ r) k.1, (said.1, k.2), step_back j l at s x k.0 said.1 k.3)

lines_yes : (j : Tests) (l : ℕ × ℕ) (at : ℕ) (o : Outcome) (ls : List (List ℕ)) → run j at o (map (item_of j.n) ls) ≡ yes l.0 l.1 → Spelled j l o ls
lines_yes j l at (refused k from) [] e = cc
lines_yes j l at (refused k from) (w ∷ ws) e = cc
lines_yes j l at (go s) [] e = ([], refl, tt, end_back j l at s e)
lines_yes j l at (go s) (w ∷ ws) e = one_line j l at s w ws (item_of j.n w) refl (lines_yes j l (at + 1) (line_step j at s (item_of j.n w)) ws e)

yes_lines : (j : Tests) (l : ℕ × ℕ) (at : ℕ) (o : Outcome) (xs : List Item) → j.n < 2 ^ 32 → AreOfForm j.n xs → LeftOf j l o xs → run j at o (map (item_of j.n) (map line xs)) ≡ yes l.0 l.1
yes_lines j l at (refused k from) xs h f k2 = absurd k2
yes_lines j l at (go s) [] h f k = end_forth j l at s k
yes_lines j l at (go s) (x ∷ xs) h f k =
    ap (λ r. run j (at + 1) (line_step j at s r) (map (item_of j.n) (map line xs))) (item_again j.n x h f.0)
    ∙ yes_lines j l (at + 1) (step j at s x) xs h f.1 (step_forth j l at s x xs k)

-- ---- whole texts, by any tests

-- a bound that is told, or none, by the tests
abbrev pub IsToldBound : Tests → Option ℕ → ℕ × ℕ → Type 0
IsToldBound j None l = l.1 ≡ l.0
IsToldBound j (Some told) l = (told ≡ l.1) × (j.below l.1 l.0 ≡ true)

-- a value that passes the tests
pub record IsGood (j : Tests) (l : ℕ × ℕ) (p : Proof) : Type 0 where
  pub size : j.size p.cities ≡ true
  pub same_length : p.long ≡ l.0
  pub bound : IsToldBound j p.bound l
  pub is_tour : j.tour p.tour ≡ true
  pub long : j.has_length p.tour l.0 ≡ true
  pub pairs : AllByRecursion (λ c. rises_in_cut c ≡ true) p.cuts
  pub cuts : AllByRecursion (λ c. j.cut c ≡ true) p.cuts
  pub tree : Good j (record { long = l.0; bound = l.1; cuts = p.cuts }) j.root p.tree

-- the lines of such a value
abbrev pub AreGood : Tests → List (List ℕ) → ℕ × ℕ → Type 0
AreGood j ls l = (p : Proof) × (ls ≡ lines p) × AreOfForm j.n (items p) × IsGood j l p

-- the items from the tour on
abbrev pub body : List ℕ → List Listed → Written → List Item
body tour cuts tree = tour_line tour ∷ cuts_line (length cuts) ∷ flat_map listed_items cuts ++ tree_items tree

pub items_said : (p : Proof) → items p ≡ head_items p.cities p.long p.bound ++ body p.tour p.cuts p.tree
items_said p = append_assoc (head_items p.cities p.long p.bound) (tour_line p.tour ∷ cuts_line (length p.cuts) ∷ flat_map listed_items p.cuts) (tree_items p.tree)

-- a head of either version, and what follows it
good_of : (j : Tests) (l : ℕ × ℕ) (ls : List (List ℕ)) (xs ys : List Item) (n : ℕ) (told : Option ℕ) → ls ≡ map line xs → AreOfForm j.n xs → xs ≡ head_items n l.0 told ++ ys → j.size n ≡ true → IsToldBound j told l → TourLeft j l ys → AreGood j ls l
good_of j l ls xs ys n told e f said size bound w =
    let c = w.left.left in
    let t = c.trees in
    let p : Proof = record { cities = n; long = l.0; bound = told; tour = w.cities; cuts = c.more; tree = t.0 } in
    let behind : ys ≡ body w.cities c.more t.0 = w.said ∙ ap (λ r. tour_line w.cities ∷ r)
    (w.left.said ∙ ap (λ r. cuts_line r ∷ w.left.rest) (sym c.count) ∙ ap (λ r. cuts_line (length c.more) ∷ r) (c.said ∙ ap (λ r. flat_map listed_items c.more ++ r) (t.2 ∙ ap (λ r. tree_items t.0 ++ r) t.4 ∙ append_nil (tree_items t.0)))) in
    let all : xs ≡ items p = said ∙ ap (λ r. head_items n l.0 told ++ r) behind ∙ sym (items_said p) in (
      p,
      e ∙ ap (map line) all,
      subst (λ r. AreOfForm j.n r) all f,
      record { size = size; same_length = refl; bound = bound; is_tour = w.is_tour; long = w.long; pairs = c.pairs; cuts = c.cuts; tree = t.3 },
    )

one_or_two : (v : ℕ) → 0 < v → v ≤ 2 → (v ≡ 1) ⊎ (v ≡ 2)
one_or_two zero a b = absurd (omega arith)
one_or_two (suc zero) a b = inl refl
one_or_two (suc (suc v)) a b = inr (omega arith)

-- a title says the first version or the second
version_is : (n v : ℕ) → fits n (title_line v) ≡ true → (v ≡ 1) ⊎ (v ≡ 2)
version_is n v f =
    let a = and_parts (nat_lt 0 v && nat_le v 2) (nat_le (length (line (title_line v))) longest) f in
    let b = and_parts (nat_lt 0 v) (nat_le v 2) a.0 in
    one_or_two v (ltb-true 0 v b.0) (leb-true v 2 b.1)

good_first : (j : Tests) (l : ℕ × ℕ) (ls : List (List ℕ)) (xs rest : List Item) → ls ≡ map line xs → AreOfForm j.n xs → xs ≡ title_line 1 ∷ rest → SizeLeft j 1 l rest → AreGood j ls l
good_first j l ls xs rest e f said z =
    let w = z.left.left in
    good_of j l ls xs z.left.rest z.cities None e f (said ∙ ap (λ r. title_line 1 ∷ r) (z.said ∙ ap (λ r. size_line z.cities ∷ r) z.left.said)) z.same w.0 w.1

good_second : (j : Tests) (l : ℕ × ℕ) (ls : List (List ℕ)) (xs rest : List Item) → ls ≡ map line xs → AreOfForm j.n xs → xs ≡ title_line 2 ∷ rest → SizeLeft j 2 l rest → AreGood j ls l
good_second j l ls xs rest e f said z =
    let w = z.left.left in
    good_of j l ls xs w.rest z.cities (Some l.1) e f (said ∙ ap (λ r. title_line 2 ∷ r) (z.said ∙ ap (λ r. size_line z.cities ∷ r) (z.left.said ∙ ap (λ r. length_line l.0 ∷ r) w.said))) z.same (refl, w.below) w.left

good : (j : Tests) (l : ℕ × ℕ) (ls : List (List ℕ)) (xs : List Item) → ls ≡ map line xs → AreOfForm j.n xs → TitleLeft j l xs → AreGood j ls l
good j l ls xs e f k =
    let g : AreOfForm j.n (title_line k.version ∷ k.rest) = subst (λ r. AreOfForm j.n r) k.said f in
    ⊎_elim
    (λ one. good_first j l ls xs k.rest e f (k.said ∙ ap (λ v. title_line v ∷ k.rest) one) (subst (λ v. SizeLeft j v l k.rest) one k.left))
    (λ two. good_second j l ls xs k.rest e f (k.said ∙ ap (λ v. title_line v ∷ k.rest) two) (subst (λ v. SizeLeft j v l k.rest) two k.left))
    (version_is j.n k.version g.0)

left_by : (j : Tests) (l : ℕ × ℕ) (n m : ℕ) (told : Option ℕ) (ys : List Item) → j.size n ≡ true → m ≡ l.0 → IsToldBound j told l → TourLeft j l ys → TitleLeft j l (head_items n m told ++ ys)
left_by j l n m None ys s e b t = record {
  version = 1;
  rest = size_line n ∷ length_line m ∷ ys;
  said = refl;
  left = record { cities = n; rest = length_line m ∷ ys; said = refl; same = s; left = record { rest = ys; said = ap (λ r. length_line r ∷ ys) e; left = (b, t) } };
}
left_by j l n m (Some told) ys s e b t = record {
  version = 2;
  rest = size_line n ∷ length_line m ∷ bound_line told ∷ ys;
  said = refl;
  left = record {
    cities = n;
    rest = length_line m ∷ bound_line told ∷ ys;
    said = refl;
    same = s;
    left = record {
      rest = bound_line told ∷ ys;
      said = ap (λ r. length_line r ∷ bound_line told ∷ ys) e;
      left = record { rest = ys; said = ap (λ r. bound_line r ∷ ys) b.0; below = b.1; left = t };
    };
  };
}

left_of : (j : Tests) (l : ℕ × ℕ) (p : Proof) → IsGood j l p → TitleLeft j l (items p)
left_of j l p a = subst (λ r. TitleLeft j l r) (sym (items_said p)) (left_by j l p.cities p.long p.bound (body p.tour p.cuts p.tree) a.size a.same_length a.bound (record {
  cities = p.tour;
  rest = cuts_line (length p.cuts) ∷ flat_map listed_items p.cuts ++ tree_items p.tree;
  said = refl;
  is_tour = a.is_tour;
  long = a.long;
  left = record {
    cuts = length p.cuts;
    rest = flat_map listed_items p.cuts ++ tree_items p.tree;
    said = refl;
    left = record {
      more = p.cuts;
      rest = tree_items p.tree;
      said = refl;
      count = refl;
      pairs = a.pairs;
      cuts = a.cuts;
      trees = (p.tree, [], sym (append_nil (tree_items p.tree)), a.tree, refl);
    };
  };
}))

-- the machine says yes exactly on the lines of a value that passes its tests
pub yes_is_good : (j : Tests) (ls : List (List ℕ)) (l : ℕ × ℕ) → j.n < 2 ^ 32 → (verdict_by j ls ≡ yes l.0 l.1) ↔ AreGood j ls l
yes_is_good j ls l h = (
  λ e. let k = lines_yes j l 1 (go wants_title) ls e in good j l ls k.0 k.1 k.2 k.3,
  λ a. ap (λ r. run j 1 (go wants_title) (map (item_of j.n) r)) a.1 ∙ yes_lines j l 1 (go wants_title) (items a.0) h a.2 (left_of j l a.0 a.3),
)
