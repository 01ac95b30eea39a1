-- values are spelled apart
use Rattle.std.proofs.Common.{◌≡◌, ℕ, ◌^◌, ◌<◌, true, List, [], ◌∷◌, ◌++◌, length, get_or, map, drop, Option, Some, None, ℤ, refl, sym, ap, ◌∙◌, arith, append_assoc, eqb, ◌⊎◌, inl, inr, ⊎_elim}
use Rattle.std.specs.List.{flat_map, AllByRecursion, slice_split}
use Rattle.certdef.specs.Items.{Item, tooth_line, line, fits, only_item}
use Rattle.certdef.specs.Proofs.{Listed, subtour_cut, comb_cut, odd_cut, Duals, Written, open_leaf, closed_leaf, edge_split, clique_split, Proof, listed_items, pair_item, city_item, cut_item, condition_item, dual_items, tree_items, head_items, items, ended, text_of, text}
use Rattle.verdict.specs.Spellings.{SpellingsAreApart, NoTextBeginsAnother, BytesHaveOneValue}
use Rattle.verdict.proofs.Lines.{Small, small_if, InLine, line_plain, split_line, only_words}
use Rattle.verdict.proofs.CutSteps.{append_nil}
use Rattle.verdict.proofs.Runs.{AreOfForm, body, items_said}

-- ---- from bytes to items

-- the bytes of items
abbrev spell : List Item → List ℕ
spell xs = text_of (map line xs)

same_line : (w v xs ys : List ℕ) → AllByRecursion InLine w → AllByRecursion InLine v → ended w ++ xs ≡ ended v ++ ys → (w ≡ v) × (xs ≡ ys)
same_line [] [] xs ys h k e = (refl, cc)
same_line [] (b ∷ v) xs ys h k e = let same : 10 ≡ b = cc in let low = k.0.0 in absurd (omega arith)
same_line (a ∷ w) [] xs ys h k e = let same : a ≡ 10 = cc in let low = h.0.0 in absurd (omega arith)
same_line (a ∷ w) (b ∷ v) xs ys h k e =
    let head : a ≡ b = cc in
    let tail : ended w ++ xs ≡ ended v ++ ys = cc in
    let r = same_line w v xs ys h.1 k.1 tail in
    (ap (λ c. c ∷ w) head ∙ ap (λ u. b ∷ u) r.0, r.1)

-- the item that a line is read as
abbrev read : List ℕ → Item
read w = let ws = slice_split (λ b. eqb b 32) w in only_item (get_or ws 0 []) (drop 1 ws)

read_line : (i : Item) → Small i → read (line i) ≡ i
read_line i s = ap (λ ws. only_item (get_or ws 0 []) (drop 1 ws)) (split_line i s) ∙ only_words i s

same_item : (n m : ℕ) (x y : Item) (xs ys : List ℕ) → n < 2 ^ 32 → m < 2 ^ 32 → fits n x ≡ true → fits m y ≡ true → ended (line x) ++ xs ≡ ended (line y) ++ ys → (x ≡ y) × (xs ≡ ys)
same_item n m x y xs ys h k f g e =
    let a = small_if n x h f in
    let b = small_if m y k g in
    let r = same_line (line x) (line y) xs ys (line_plain x a) (line_plain y b) e in
    (sym (read_line x a) ∙ ap read r.0 ∙ read_line y b, r.1)

-- one list of items goes on where the other ends
pub record GoesOnAs (xs ys : List Item) (r s : List ℕ) : Type 0 where
  pub more : List Item
  pub items : ys ≡ xs ++ more
  pub bytes : r ≡ spell more ++ s

aligned : (n m : ℕ) (xs ys : List Item) (r s : List ℕ) → n < 2 ^ 32 → m < 2 ^ 32 → AreOfForm n xs → AreOfForm m ys → spell xs ++ r ≡ spell ys ++ s → GoesOnAs xs ys r s ⊎ GoesOnAs ys xs s r
aligned n m [] ys r s h k f g e = inl (record { more = ys; items = refl; bytes = e })
aligned n m (x ∷ xs) [] r s h k f g e = inr (record { more = x ∷ xs; items = refl; bytes = sym e })
aligned n m (x ∷ xs) (y ∷ ys) r s h k f g e =
    let c = same_item n m x y (spell xs ++ r) (spell ys ++ s) h k f.0 g.0 (sym (append_assoc (ended (line x)) (spell xs) r) ∙ e ∙ append_assoc (ended (line y)) (spell ys) s) in
    ⊎_elim
    (λ a. inl (record { more = a.more; items = ap (λ z. z ∷ ys) (sym c.0) ∙ ap (λ z. x ∷ z) a.items; bytes = a.bytes }))
    (λ b. inr (record { more = b.more; items = ap (λ z. z ∷ xs) c.0 ∙ ap (λ z. y ∷ z) b.items; bytes = b.bytes }))
    (aligned n m xs ys r s h k f.1 g.1 c.1)

-- ---- from items to values

mapped_apart : {X : Type 0} (f : X → Item) (apart : (a b : X) → f a ≡ f b → a ≡ b) (us vs : List X) (xs ys : List Item) → length us ≡ length vs → map f us ++ xs ≡ map f vs ++ ys → (us ≡ vs) × (xs ≡ ys)
mapped_apart f apart [] [] xs ys l e = (refl, e)
mapped_apart f apart [] (b ∷ vs) xs ys l e = absurd (omega arith)
mapped_apart f apart (a ∷ us) [] xs ys l e = absurd (omega arith)
mapped_apart f apart (a ∷ us) (b ∷ vs) xs ys l e =
    let head : f a ≡ f b = cc in
    let tail : map f us ++ xs ≡ map f vs ++ ys = cc in
    let r = mapped_apart f apart us vs xs ys (omega arith) tail in
    (ap (λ c. c ∷ us) (apart a b head) ∙ ap (λ w. b ∷ w) r.0, r.1)

cities_apart : (a b : ℕ × ℤ) → city_item a ≡ city_item b → a ≡ b
cities_apart a b e =
    let p : a.0 ≡ b.0 = cc in
    let q : a.1 ≡ b.1 = cc in
    ap (λ c. (c, a.1)) p ∙ ap (λ c. (b.0, c)) q

cuts_apart : (a b : ℕ × ℕ) → cut_item a ≡ cut_item b → a ≡ b
cuts_apart a b e =
    let p : a.0 ≡ b.0 = cc in
    let q : a.1 ≡ b.1 = cc in
    ap (λ c. (c, a.1)) p ∙ ap (λ c. (b.0, c)) q

conditions_apart : (a b : ℕ × ℕ) → condition_item a ≡ condition_item b → a ≡ b
conditions_apart a b e =
    let p : a.0 ≡ b.0 = cc in
    let q : a.1 ≡ b.1 = cc in
    ap (λ c. (c, a.1)) p ∙ ap (λ c. (b.0, c)) q

pairs_apart : (a b : ℕ × ℕ) → pair_item a ≡ pair_item b → a ≡ b
pairs_apart a b e =
    let p : a.0 ≡ b.0 = cc in
    let q : a.1 ≡ b.1 = cc in
    ap (λ c. (c, a.1)) p ∙ ap (λ c. (b.0, c)) q

teeth_apart : (a b : List ℕ) → tooth_line a ≡ tooth_line b → a ≡ b
teeth_apart a b e = cc

duals_apart : (d e : Duals) (xs ys : List Item) → length d.cities ≡ length e.cities → length d.cuts ≡ length e.cuts → length d.conds ≡ length e.conds → dual_items d ++ xs ≡ dual_items e ++ ys → (d ≡ e) × (xs ≡ ys)
duals_apart d e xs ys k l m said =
    let shift : (a b c z : List Item) → (a ++ (b ++ c)) ++ z ≡ a ++ (b ++ (c ++ z)) = λ a b c z. append_assoc a (b ++ c) z ∙ ap (λ r. a ++ r) (append_assoc b c z) in
    let cities = mapped_apart city_item cities_apart d.cities e.cities (map cut_item d.cuts ++ (map condition_item d.conds ++ xs)) (map cut_item e.cuts ++ (map condition_item e.conds ++ ys)) k
    (sym (shift (map city_item d.cities) (map cut_item d.cuts) (map condition_item d.conds) xs) ∙ said ∙ shift (map city_item e.cities) (map cut_item e.cuts) (map condition_item e.conds) ys) in
    let cuts = mapped_apart cut_item cuts_apart d.cuts e.cuts (map condition_item d.conds ++ xs) (map condition_item e.conds ++ ys) l cities.1 in
    let conds = mapped_apart condition_item conditions_apart d.conds e.conds xs ys m cuts.1 in (
      ap (λ c. record { cities = c; cuts = d.cuts; conds = d.conds }) cities.0
          ∙ ap (λ c. record { cities = e.cities; cuts = c; conds = d.conds }) cuts.0
          ∙ ap (λ c. record { cities = e.cities; cuts = e.cuts; conds = c }) conds.0,
      conds.1,
    )

trees_apart : (t s : Written) (xs ys : List Item) → tree_items t ++ xs ≡ tree_items s ++ ys → (t ≡ s) × (xs ≡ ys)
trees_apart open_leaf open_leaf xs ys e = (refl, cc)
trees_apart open_leaf (closed_leaf d) xs ys e = cc
trees_apart open_leaf (edge_split u v a b) xs ys e = cc
trees_apart open_leaf (clique_split q a b) xs ys e = cc
trees_apart (closed_leaf d) open_leaf xs ys e = cc
trees_apart (closed_leaf d) (closed_leaf c) xs ys e =
    let k : length d.cities ≡ length c.cities = cc in
    let l : length d.cuts ≡ length c.cuts = cc in
    let m : length d.conds ≡ length c.conds = cc in
    let tail : dual_items d ++ xs ≡ dual_items c ++ ys = cc in
    let r = duals_apart d c xs ys k l m tail in
    (ap closed_leaf r.0, r.1)
trees_apart (closed_leaf d) (edge_split u v a b) xs ys e = cc
trees_apart (closed_leaf d) (clique_split q a b) xs ys e = cc
trees_apart (edge_split u v a b) open_leaf xs ys e = cc
trees_apart (edge_split u v a b) (closed_leaf d) xs ys e = cc
trees_apart (edge_split u v a b) (edge_split w z c d) xs ys e =
    let low : u ≡ w = cc in
    let high : v ≡ z = cc in
    let tail : (tree_items a ++ tree_items b) ++ xs ≡ (tree_items c ++ tree_items d) ++ ys = cc in
    let r = trees_apart a c (tree_items b ++ xs) (tree_items d ++ ys) (sym (append_assoc (tree_items a) (tree_items b) xs) ∙ tail ∙ append_assoc (tree_items c) (tree_items d) ys) in
    let s = trees_apart b d xs ys r.1 in
    (ap (λ k. edge_split k v a b) low ∙ ap (λ k. edge_split w k a b) high ∙ ap (λ k. edge_split w z k b) r.0 ∙ ap (edge_split w z c) s.0, s.1)
trees_apart (edge_split u v a b) (clique_split q c d) xs ys e = cc
trees_apart (clique_split q a b) open_leaf xs ys e = cc
trees_apart (clique_split q a b) (closed_leaf d) xs ys e = cc
trees_apart (clique_split q a b) (edge_split u v c d) xs ys e = cc
trees_apart (clique_split q a b) (clique_split p c d) xs ys e =
    let set : q ≡ p = cc in
    let tail : (tree_items a ++ tree_items b) ++ xs ≡ (tree_items c ++ tree_items d) ++ ys = cc in
    let r = trees_apart a c (tree_items b ++ xs) (tree_items d ++ ys) (sym (append_assoc (tree_items a) (tree_items b) xs) ∙ tail ∙ append_assoc (tree_items c) (tree_items d) ys) in
    let s = trees_apart b d xs ys r.1 in
    (ap (λ k. clique_split k a b) set ∙ ap (λ k. clique_split p k b) r.0 ∙ ap (clique_split p c) s.0, s.1)

cut_apart : (a b : Listed) (xs ys : List Item) → listed_items a ++ xs ≡ listed_items b ++ ys → (a ≡ b) × (xs ≡ ys)
cut_apart (subtour_cut s) (subtour_cut t) xs ys e =
    let set : s ≡ t = cc in
    (ap subtour_cut set, cc)
cut_apart (subtour_cut s) (comb_cut h ts) xs ys e = cc
cut_apart (subtour_cut s) (odd_cut h ps) xs ys e = cc
cut_apart (comb_cut h ts) (subtour_cut s) xs ys e = cc
cut_apart (comb_cut h ts) (odd_cut g ps) xs ys e = cc
cut_apart (odd_cut h ps) (subtour_cut s) xs ys e = cc
cut_apart (odd_cut h ps) (comb_cut g ts) xs ys e = cc
cut_apart (comb_cut h ts) (comb_cut g us) xs ys e =
    let count : length ts ≡ length us = cc in
    let handle : h ≡ g = cc in
    let tail : map tooth_line ts ++ xs ≡ map tooth_line us ++ ys = cc in
    let r = mapped_apart tooth_line teeth_apart ts us xs ys count tail in
    (ap (λ k. comb_cut k ts) handle ∙ ap (comb_cut g) r.0, r.1)
cut_apart (odd_cut h ps) (odd_cut g qs) xs ys e =
    let count : length ps ≡ length qs = cc in
    let handle : h ≡ g = cc in
    let tail : map pair_item ps ++ xs ≡ map pair_item qs ++ ys = cc in
    let r = mapped_apart pair_item pairs_apart ps qs xs ys count tail in
    (ap (λ k. odd_cut k ps) handle ∙ ap (odd_cut g) r.0, r.1)

lists_apart : (cs ds : List Listed) (xs ys : List Item) → length cs ≡ length ds → flat_map listed_items cs ++ xs ≡ flat_map listed_items ds ++ ys → (cs ≡ ds) × (xs ≡ ys)
lists_apart [] [] xs ys l e = (refl, e)
lists_apart [] (d ∷ ds) xs ys l e = absurd (omega arith)
lists_apart (c ∷ cs) [] xs ys l e = absurd (omega arith)
lists_apart (c ∷ cs) (d ∷ ds) xs ys l e =
    let head = cut_apart c d (flat_map listed_items cs ++ xs) (flat_map listed_items ds ++ ys)
    (sym (append_assoc (listed_items c) (flat_map listed_items cs) xs) ∙ e ∙ append_assoc (listed_items d) (flat_map listed_items ds) ys) in
    let r = lists_apart cs ds xs ys (omega arith) head.1 in
    (ap (λ k. k ∷ cs) head.0 ∙ ap (λ k. d ∷ k) r.0, r.1)

-- two heads are one, and so is what follows them
pub record AreSameHeads (n m l k : ℕ) (a b : Option ℕ) (xs ys : List Item) : Type 0 where
  pub cities : n ≡ m
  pub long : l ≡ k
  pub bound : a ≡ b
  pub behind : xs ≡ ys

heads_apart : (n m l k : ℕ) (a b : Option ℕ) (xs ys : List Item) → head_items n l a ++ xs ≡ head_items m k b ++ ys → AreSameHeads n m l k a b xs ys
heads_apart n m l k None None xs ys e = record { cities = cc; long = cc; bound = refl; behind = cc }
heads_apart n m l k None (Some b) xs ys e = let same : ◌≡◌ {A = ℕ} 1 2 = cc in absurd (omega arith)
heads_apart n m l k (Some a) None xs ys e = let same : ◌≡◌ {A = ℕ} 2 1 = cc in absurd (omega arith)
heads_apart n m l k (Some a) (Some b) xs ys e =
    let same : a ≡ b = cc in
    record { cities = cc; long = cc; bound = ap Some same; behind = cc }

-- items, and more behind them, by their head
items_more : (p : Proof) (xs : List Item) → items p ++ xs ≡ head_items p.cities p.long p.bound ++ (body p.tour p.cuts p.tree ++ xs)
items_more p xs = ap (λ r. r ++ xs) (items_said p) ∙ append_assoc (head_items p.cities p.long p.bound) (body p.tour p.cuts p.tree) xs

values_apart : (p q : Proof) (xs ys : List Item) → items p ++ xs ≡ items q ++ ys → (p ≡ q) × (xs ≡ ys)
values_apart p q xs ys e =
    let heads = heads_apart p.cities q.cities p.long q.long p.bound q.bound (body p.tour p.cuts p.tree ++ xs) (body q.tour q.cuts q.tree ++ ys) (sym (items_more p xs) ∙ e ∙ items_more q ys) in
    let behind = heads.behind in
    let tour : p.tour ≡ q.tour = cc in
    let count : length p.cuts ≡ length q.cuts = cc in
    let tail : (flat_map listed_items p.cuts ++ tree_items p.tree) ++ xs ≡ (flat_map listed_items q.cuts ++ tree_items q.tree) ++ ys = cc in
    let cuts = lists_apart p.cuts q.cuts (tree_items p.tree ++ xs) (tree_items q.tree ++ ys) count
    (sym (append_assoc (flat_map listed_items p.cuts) (tree_items p.tree) xs) ∙ tail ∙ append_assoc (flat_map listed_items q.cuts) (tree_items q.tree) ys) in
    let tree = trees_apart p.tree q.tree xs ys cuts.1 in (
      ap (λ k. record { cities = k; long = p.long; bound = p.bound; tour = p.tour; cuts = p.cuts; tree = p.tree }) heads.cities
          ∙ ap (λ k. record { cities = q.cities; long = k; bound = p.bound; tour = p.tour; cuts = p.cuts; tree = p.tree }) heads.long
          ∙ ap (λ k. record { cities = q.cities; long = q.long; bound = k; tour = p.tour; cuts = p.cuts; tree = p.tree }) heads.bound
          ∙ ap (λ k. record { cities = q.cities; long = q.long; bound = q.bound; tour = k; cuts = p.cuts; tree = p.tree }) tour
          ∙ ap (λ k. record { cities = q.cities; long = q.long; bound = q.bound; tour = q.tour; cuts = k; tree = p.tree }) cuts.0
          ∙ ap (λ k. record { cities = q.cities; long = q.long; bound = q.bound; tour = q.tour; cuts = q.cuts; tree = k }) tree.0,
      tree.1,
    )

nothing_more : (p q : Proof) (r s : List ℕ) → GoesOnAs (items p) (items q) r s → (p ≡ q) × (r ≡ s)
nothing_more p q r s a =
    let v = values_apart p q a.more [] (sym a.items ∙ sym (append_nil (items q))) in
    (v.0, a.bytes ∙ ap (λ z. spell z ++ s) v.1)

-- ---- the laws

pub spellings_are_apart : SpellingsAreApart
spellings_are_apart n m p q xs ys h k f g e = ⊎_elim
    (λ a. nothing_more p q xs ys a)
    (λ b. let v = nothing_more q p ys xs b in (sym v.0, sym v.1))
    (aligned n m (items p) (items q) xs ys h k f.lines g.lines e)

pub no_text_begins_another : NoTextBeginsAnother
no_text_begins_another n m p q more h k f g e =
    let v = spellings_are_apart m n q p [] more k h g f (append_nil (text q) ∙ e) in
    (v.0, sym v.1)

pub bytes_have_one_value : BytesHaveOneValue
bytes_have_one_value n m p q h k f g e = (spellings_are_apart n m p q [] [] h k f g (ap (λ b. b ++ []) e)).0
