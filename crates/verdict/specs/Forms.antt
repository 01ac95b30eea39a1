-- A reader of the form alone: it takes the lines of a text in order, and keeps counts in place of what it read. It leaves to its
-- caller another number of cities, a bound that is not below the length, and what a depth names.
use Rattle.std.specs.Prelude.{ℕ, zero, suc, ◌+◌, ◌-◌, Bool, true, false, ◌&&◌, ◌==◌, nat_lt, nat_le, if◌then◌else◌, List, [], ◌∷◌, Option, Some, None}
use Rattle.certdef.specs.Items.{Item, title_line, size_line, length_line, bound_line, tour_line, cuts_line, subtour_line, comb_line, handle_line, tooth_line, odd_line, pair_line, edge_line, clique_line, leaf_line, city_line, cut_line, condition_line, open_line, is_before, item_of}
use Rattle.certdef.specs.Tests.{Tests}

-- The lines of a leaf that are still to come, of each kind, and the least city, cut and depth that may come next.
pub record DualsLeft : Type 0 where
  pub a : ℕ
  pub b : ℕ
  pub c : ℕ
  pub city : ℕ
  pub cut : ℕ
  pub depth : ℕ

-- which line must come: the head's, a cut's, or one of so many trees
pub data Form : Type 0 where
  at_title : Form
  at_size : (version : ℕ) → Form
  at_length : (version : ℕ) → Form
  -- the bound, in a text of the second version
  at_bound : Form
  at_tour : Form
  at_count : Form
  -- a cut, and so many after it; so many were listed before it
  at_cut : (more listed : ℕ) → Form
  at_handle : (more listed teeth : ℕ) → Form
  at_tooth : (more listed teeth : ℕ) → Form
  at_odd_handle : (more listed pairs : ℕ) → Form
  -- a pair of an odd cut, and so many after it; the last pair before it, if any
  at_pair : (more listed pairs : ℕ) → (last : Option (ℕ × ℕ)) → Form
  -- so many trees, where so many cuts are listed
  at_trees : (trees listed : ℕ) → Form
  -- lines of a leaf, and then so many trees
  at_duals : (trees listed : ℕ) → (left : DualsLeft) → Form

abbrev pub cuts_then : ℕ → ℕ → Form
cuts_then zero k = at_trees 1 k
cuts_then (suc m) k = at_cut m k

abbrev pub teeth_then : ℕ → ℕ → ℕ → Form
teeth_then m k zero = cuts_then m (k + 1)
teeth_then m k (suc t) = at_tooth m k t

abbrev pub pairs_then : ℕ → ℕ → ℕ → Option (ℕ × ℕ) → Form
pairs_then m k zero p = cuts_then m (k + 1)
pairs_then m k (suc t) p = at_pair m k t p

-- a pair may come behind the last one, if any, where pairs rise
abbrev pub comes_behind : Option (ℕ × ℕ) → (ℕ × ℕ) → Bool
comes_behind None q = true
comes_behind (Some p) q = is_before p q

-- where a leaf has no lines left, the next tree comes
abbrev pub duals_then : ℕ → ℕ → DualsLeft → Form
duals_then r k d = if d.a == 0 && (d.b == 0 && d.c == 0) then at_trees r k else at_duals r k d

-- the cities' duals come first, then those of cuts, then those of conditions; the numbers of each rise
abbrev pub form_dual : ℕ → ℕ → DualsLeft → Item → Option Form
form_dual r k d (city_line v w) =
    if nat_lt 0 d.a && nat_le d.city v
    then Some (duals_then r k (record { a = d.a - 1; b = d.b; c = d.c; city = v + 1; cut = d.cut; depth = d.depth }))
    else None
form_dual r k d (cut_line v w) =
    if d.a == 0 && (nat_lt 0 d.b && (nat_le d.cut v && nat_le v k))
    then Some (duals_then r k (record { a = d.a; b = d.b - 1; c = d.c; city = d.city; cut = v + 1; depth = d.depth }))
    else None
form_dual r k d (condition_line v w) =
    if d.a == 0 && (d.b == 0 && (nat_lt 0 d.c && nat_le d.depth v))
    then Some (duals_then r k (record { a = d.a; b = d.b; c = d.c - 1; city = d.city; cut = d.cut; depth = v + 1 }))
    else None
form_dual r k d _ = None

abbrev pub form_tree : ℕ → ℕ → Item → Option Form
form_tree r k (edge_line u v) = Some (at_trees (suc (suc r)) k)
form_tree r k (clique_line s) = Some (at_trees (suc (suc r)) k)
form_tree r k (leaf_line a b c) = Some (duals_then r k (record { a = a; b = b; c = c; city = 1; cut = 1; depth = 1 }))
form_tree r k open_line = Some (at_trees r k)
form_tree r k _ = None

abbrev pub form_cut : ℕ → ℕ → Item → Option Form
form_cut m k (subtour_line s) = Some (cuts_then m (k + 1))
form_cut m k (comb_line t) = Some (at_handle m k t)
form_cut m k (odd_line t) = Some (at_odd_handle m k t)
form_cut m k _ = None

-- what comes after an item, where it stands at its place
abbrev pub form_step : Form → Item → Option Form
form_step at_title (title_line v) = Some (at_size v)
form_step at_title _ = None
form_step (at_size v) (size_line m) = Some (at_length v)
form_step (at_size v) _ = None
form_step (at_length v) (length_line l) = Some (if v == 1 then at_tour else at_bound)
form_step (at_length v) _ = None
form_step at_bound (bound_line b) = Some at_tour
form_step at_bound _ = None
form_step at_tour (tour_line cs) = Some at_count
form_step at_tour _ = None
form_step at_count (cuts_line m) = Some (cuts_then m 0)
form_step at_count _ = None
form_step (at_cut m k) x = form_cut m k x
form_step (at_handle m k t) (handle_line s) = Some (teeth_then m k t)
form_step (at_handle m k t) _ = None
form_step (at_tooth m k t) (tooth_line s) = Some (teeth_then m k t)
form_step (at_tooth m k t) _ = None
form_step (at_odd_handle m k t) (handle_line s) = Some (pairs_then m k t None)
form_step (at_odd_handle m k t) _ = None
form_step (at_pair m k t p) (pair_line u v) = if comes_behind p (u, v) then Some (pairs_then m k t (Some (u, v))) else None
form_step (at_pair m k t p) _ = None
form_step (at_trees zero k) x = None
form_step (at_trees (suc r) k) x = form_tree r k x
form_step (at_duals r k d) x = form_dual r k d x

-- the item of a line and what comes after it, where the line stands at its place
abbrev pub with_next : Item → Option Form → Option (Item × Form)
with_next x None = None
with_next x (Some f) = Some (x, f)

abbrev pub item_next : Form → Option Item → Option (Item × Form)
item_next f None = None
item_next f (Some x) = with_next x (form_step f x)

abbrev pub line_next : ℕ → Form → List ℕ → Option (Item × Form)
line_next n f bytes = item_next f (item_of n bytes)

-- the item of a line, and those of the lines behind it, where each stands at its place; and what comes after them
abbrev pub with_item : Item → Option (List Item × Form) → Option (List Item × Form)
with_item x None = None
with_item x (Some q) = Some (x ∷ q.0, q.1)

abbrev pub items_after : ℕ → Option (Item × Form) → List (List ℕ) → Option (List Item × Form)
items_after n None ls = None
items_after n (Some q) [] = Some (q.0 ∷ [], q.1)
items_after n (Some q) (l ∷ ls) = with_item q.0 (items_after n (line_next n q.1 l) ls)

-- the items of the lines of a text from its first on
abbrev pub items_read : ℕ → List (List ℕ) → Option (List Item × Form)
items_read n [] = Some ([], at_title)
items_read n (l ∷ ls) = items_after n (line_next n at_title l) ls

abbrev pub is_ended : Form → Bool
is_ended (at_trees zero k) = true
is_ended _ = false

-- ---- the same reader, as a machine of `certdef` that keeps what it read

-- the tests of a reader of the form alone, for n cities
abbrev pub form_only : ℕ → Tests
form_only n = record {
  n = n;
  size = λ m. true;
  root = [];
  tour = λ cs. true;
  has_length = λ cs l. true;
  below = λ b l. true;
  cut = λ c. true;
  decided = λ path u v. false;
  proper = λ s. true;
  names = λ path d. true;
  closes = λ b cs path d. true;
  opens = true;
}
