-- The core, as it grows.
use Rattle.std.proofs.Common.{◌≡◌, ℕ, ◌+◌, ◌<◌, ◌≤◌, Bool, true, false, ◌||◌, List, [], ◌∷◌, ◌++◌, length, map, get_or, take, drop, ℤ, pos, refl, sym, ap, subst, ◌∙◌, arith, ⊎_elim}
use Rattle.std.specs.List.{AllByRecursion}
use Rattle.std.specs.Int.Signed.{lt_z}
use Rattle.std.proofs.lemmas.Bool.{cases_Bool, or_parts, or_cases, or_left, or_right, cond-true, cond-false, false≢true}
use Rattle.std.proofs.lemmas.Bool.Decides.{nat_tests}
use Rattle.std.proofs.lemmas.List.{length-append, drop-append-le, drop_all, take-append-drop}
use Rattle.tspdef.specs.Tours.{joins}
use Rattle.tspdef.specs.Paths.{Condition, fixed, absent, present, two, four, is_absent, is_present, is_decided, IsPair, MayFollow, IsPath}
use Rattle.tspdef.specs.Instances.{Instance, dist}
use Rattle.branchx.specs.declared.cond.Cond.{Cond}
use Rattle.branchx.specs.Cond.{condition_of, conditions_of}
use Rattle.branchx.proofs.PathLemmas.{conditions-more, is_path-front}
use Rattle.pricer.proofs.DecidedLemmas.{is_present-append, undecided_at, path_front}
use Rattle.lpcheck.specs.Rows.{reduced}
use Rattle.lpcheck.specs.Added.{any_negative}
use Rattle.lpcheck.specs.declared.row.Row.{Row}
use Rattle.lpcheck.specs.declared.column.Column.{Column}
use Rattle.simplex.specs.Columns.{blank, AreColumns, is_col}
use Rattle.simplex.specs.Lp.{Program}
use Rattle.cyc.specs.Frac.{AreEntries}
use Rattle.cyc.proofs.EntryLemmas.{entries_push}
use Rattle.std.proofs.lemmas.List.{map-append}
use Rattle.nodelp.specs.Node.{IsColumn, IsCore, column_of}
use Rattle.nodelp.specs.Core.{with_col, with_wanted, IsWanted, AreWanted}

-- ---- lists of columns

columns_push : (n : ℕ) (cols : List Column) (c : Column) → AreColumns n cols → c.u < c.v → c.v < n → is_col cols c.u c.v ≡ false → AreColumns n (cols ++ c ∷ [])
columns_push n cols c are ordered within fresh =
    subst (AreEntries n) (sym (map-append blank cols (c ∷ []))) (entries_push n (map blank cols) (blank c) are (record { u_below = omega arith; v_below = within; apart = omega arith; small = omega arith }) fresh)

col_push : (cols : List Column) (c : Column) (u v : ℕ) → is_col (cols ++ c ∷ []) u v ≡ (is_col cols u v || joins u v (c.u, c.v))
col_push [] c u v = or_end (joins u v (c.u, c.v)) where
  or_end : (x : Bool) → (x || false) ≡ (false || x)
  or_end true = refl
  or_end false = refl
col_push (d ∷ cols) c u v = ap (λ (b : Bool). joins u v (d.u, d.v) || b) (col_push cols c u v) ∙ or_assoc (joins u v (d.u, d.v)) (is_col cols u v) (joins u v (c.u, c.v)) where
  or_assoc : (x y z : Bool) → (x || (y || z)) ≡ ((x || y) || z)
  or_assoc true y z = refl
  or_assoc false y z = refl

col_still : (cols : List Column) (c : Column) (u v : ℕ) → is_col cols u v ≡ true → is_col (cols ++ c ∷ []) u v ≡ true
col_still cols c u v h = col_push cols c u v ∙ or_left (is_col cols u v) (joins u v (c.u, c.v)) h

col_new : (cols : List Column) (c : Column) (u v : ℕ) → joins u v (c.u, c.v) ≡ true → is_col (cols ++ c ∷ []) u v ≡ true
col_new cols c u v h = col_push cols c u v ∙ or_right (is_col cols u v) (joins u v (c.u, c.v)) h

all_push : (P : Column → Type 0) (cols : List Column) (c : Column) → AllByRecursion P cols → P c → AllByRecursion P (cols ++ c ∷ [])
all_push P [] c a h = (h, tt)
all_push P (d ∷ cols) c a h = (a.0, all_push P cols c a.1 h)

all_imply : (P Q : Column → Type 0) (cols : List Column) → ((c : Column) → P c → Q c) → AllByRecursion P cols → AllByRecursion Q cols
all_imply P Q [] f a = tt
all_imply P Q (d ∷ cols) f a = (f d a.0, all_imply P Q cols f a.1)

-- ---- a pair that is open is given a column

core_push : (i : Instance) (path : List Condition) (cols : List Column) (c : Column) → IsCore i path cols → IsColumn i path c → is_col cols c.u c.v ≡ false → IsCore i path (cols ++ c ∷ [])
core_push i path cols c core is fresh = record {
  distinct = columns_push i.n cols c core.distinct is.ordered is.within fresh;
  each = all_push (IsColumn i path) cols c core.each is;
  wanted = λ u v low high p. col_still cols c u v (core.wanted u v low high p);
}

pub core_with : (i : Instance) (path : List Condition) (cols : List Column) (u v : ℕ) → IsCore i path cols → u < v → v < i.n → is_decided path u v ≡ false → IsCore i path (with_col i u v false cols)
core_with i path cols u v core low high free =
    let parts = or_parts (is_absent path u v) (is_present path u v) free in
    let c : Column = record { u = u; v = v; cost = dist i u v; must = false } in
    ⊎_elim
    (λ h. subst (IsCore i path) (sym (cond-true (is_col cols u v) cols (cols ++ c ∷ []) h)) core)
    (λ h. subst (IsCore i path) (sym (cond-false (is_col cols u v) cols (cols ++ c ∷ []) h))
    (core_push i path cols c core (record { ordered = low; within = high; cost = refl; must = sym parts.1; free = parts.0 }) h))
    (cases_Bool (is_col cols u v))

pub others_chain : (a b c : Program) → b ≡ record a { cols = b.cols } → c ≡ record b { cols = c.cols } → c ≡ record a { cols = c.cols }
others_chain a b c first second = second ∙ ap (λ (p : Program). record p { cols = c.cols }) first

pub others_same : (a : Program) → a ≡ record a { cols = a.cols }
others_same a = refl

-- ---- pairs that the path wants

pub core_of_wanted : (i : Instance) (path : List Condition) (cols : List Column) → AreWanted i path cols → IsCore i path cols
core_of_wanted i path cols w = record { distinct = w.distinct; each = all_imply (IsWanted i path) (IsColumn i path) cols (λ c h. h.0) w.each; wanted = w.all }

absent_push : (path : List Condition) (c : Condition) (u v : ℕ) → is_absent (path ++ c ∷ []) u v ≡ (is_absent path u v || is_absent (c ∷ []) u v)
absent_push [] c u v = refl
absent_push (absent a b ∷ path) c u v = ap (λ (x : Bool). joins u v (a, b) || x) (absent_push path c u v) ∙ assoc (joins u v (a, b)) (is_absent path u v) (is_absent (c ∷ []) u v) where
  assoc : (x y z : Bool) → (x || (y || z)) ≡ ((x || y) || z)
  assoc true y z = refl
  assoc false y z = refl
absent_push (fixed a b ∷ path) c u v = absent_push path c u v
absent_push (present a b ∷ path) c u v = absent_push path c u v
absent_push (two s ∷ path) c u v = absent_push path c u v
absent_push (four s ∷ path) c u v = absent_push path c u v

-- a condition that may follow does not forbid a pair that is wanted
not_forbidden : (n : ℕ) (path : List Condition) (c : Condition) (u v : ℕ) → MayFollow n path c → is_present path u v ≡ true → is_absent (c ∷ []) u v ≡ false
not_forbidden n path (absent a b) u v m p = ⊎_elim
    (λ (j : joins u v (a, b) ≡ true). absurd (false≢true (sym (undecided_at path a b u v j m.1).1 ∙ p)))
    (λ (j : joins u v (a, b) ≡ false). ap (λ (x : Bool). x || false) j)
    (cases_Bool (joins u v (a, b)))
not_forbidden n path (fixed a b) u v m p = refl
not_forbidden n path (present a b) u v m p = refl
not_forbidden n path (two s) u v m p = refl
not_forbidden n path (four s) u v m p = refl

-- a column for a wanted pair stays one
wanted_still : (i : Instance) (path : List Condition) (c : Condition) (d : Column) → MayFollow i.n path c → IsWanted i path d → IsWanted i (path ++ c ∷ []) d
wanted_still i path c d m w =
    let p : is_present (path ++ c ∷ []) d.u d.v ≡ true = is_present-append path (c ∷ []) d.u d.v ∙ or_left (is_present path d.u d.v) (is_present (c ∷ []) d.u d.v) w.1 in (
      record {
        ordered = w.0.ordered;
        within = w.0.within;
        cost = w.0.cost;
        must = w.0.must ∙ (w.1 ∙ sym p);
        free = absent_push path c d.u d.v ∙ (ap (λ (x : Bool). x || is_absent (c ∷ []) d.u d.v) w.0.free ∙ not_forbidden i.n path c d.u d.v m w.1);
      },
      p,
    )

all_still : (i : Instance) (path : List Condition) (c : Condition) (cols : List Column) → MayFollow i.n path c → AllByRecursion (IsWanted i path) cols → AllByRecursion (IsWanted i (path ++ c ∷ [])) cols
all_still i path c cols m a = all_imply (IsWanted i path) (IsWanted i (path ++ c ∷ [])) cols (λ d w. wanted_still i path c d m w) a

-- where a further condition wants no pair
same_wanted : (i : Instance) (path : List Condition) (c : Condition) (cols : List Column) → MayFollow i.n path c → ((u v : ℕ) → is_present (c ∷ []) u v ≡ false) → AreWanted i path cols → AreWanted i (path ++ c ∷ []) cols
same_wanted i path c cols m none w = record {
  distinct = w.distinct;
  each = all_still i path c cols m w.each;
  all = λ u v low high p. ⊎_elim
      (λ h. w.all u v low high h)
      (λ h. absurd (false≢true (sym (none u v) ∙ h)))
      (or_cases (is_present path u v) (is_present (c ∷ []) u v) (sym (is_present-append path (c ∷ []) u v) ∙ p));
}

or_only : (x : Bool) → (x || false) ≡ x
or_only true = refl
or_only false = refl

present_joins : (a b u v : ℕ) → is_present (present a b ∷ []) u v ≡ true → joins u v (a, b) ≡ true
present_joins a b u v h = sym (or_only (joins u v (a, b))) ∙ h

joins_itself : (a b : ℕ) → joins a b (a, b) ≡ true
joins_itself a b = grind (arith, nat_tests)

joined_col : (cols : List Column) (a b u v : ℕ) → u < v → a < b → joins u v (a, b) ≡ true → is_col cols a b ≡ true → is_col cols u v ≡ true
joined_col cols a b u v l m j h = let e = same_ends a b u v l m j in subst (λ x. is_col cols x v ≡ true) e.0 (subst (λ y. is_col cols a y ≡ true) e.1 h) where
  same_ends : (a b u v : ℕ) → u < v → a < b → joins u v (a, b) ≡ true → (a ≡ u) × (b ≡ v)
  same_ends a b u v l m j = (grind (arith, nat_tests), grind (arith, nat_tests))

-- a further condition that wants a pair: a fixed or a used one
wanted_used : (i : Instance) (path : List Condition) (d : Condition) (a b : ℕ) (cols : List Column) → MayFollow i.n path d → IsPair i.n a b → is_decided path a b ≡ false
    → ((u v : ℕ) → is_present (d ∷ []) u v ≡ is_present (present a b ∷ []) u v) → ((u v : ℕ) → is_absent (d ∷ []) u v ≡ false)
    → AreWanted i path cols → AreWanted i (path ++ d ∷ []) (with_col i a b true cols)
wanted_used i path d a b cols m pair free used none w =
    let more = path ++ d ∷ [] in
    let c : Column = record { u = a; v = b; cost = dist i a b; must = true } in
    let open_pair = or_parts (is_absent path a b) (is_present path a b) free in
    let itself : is_present (d ∷ []) a b ≡ true = used a b ∙ (or_only (joins a b (a, b)) ∙ joins_itself a b) in
    let now : is_present more a b ≡ true = is_present-append path (d ∷ []) a b ∙ or_right (is_present path a b) (is_present (d ∷ []) a b) itself in
    let is : IsWanted i more c = (
      record {
        ordered = pair.0;
        within = pair.1;
        cost = refl;
        must = sym now;
        free = absent_push path d a b ∙ (ap (λ (x : Bool). is_absent path a b || x) (none a b) ∙ (or_only (is_absent path a b) ∙ open_pair.0));
      },
      now,
    ) in
    ⊎_elim
    (λ h. subst (AreWanted i more) (sym (cond-true (is_col cols a b) cols (cols ++ c ∷ []) h)) (record {
      distinct = w.distinct;
      each = all_still i path d cols m w.each;
      all = λ u v low high p. ⊎_elim
          (λ q. w.all u v low high q)
          (λ q. joined_col cols a b u v low pair.0 (present_joins a b u v (sym (used u v) ∙ q)) h)
          (or_cases (is_present path u v) (is_present (d ∷ []) u v) (sym (is_present-append path (d ∷ []) u v) ∙ p));
    }))
    (λ h. subst (AreWanted i more) (sym (cond-false (is_col cols a b) cols (cols ++ c ∷ []) h)) (record {
      distinct = columns_push i.n cols c w.distinct pair.0 pair.1 h;
      each = all_push (IsWanted i more) cols c (all_still i path d cols m w.each) is;
      all = λ u v low high p. ⊎_elim
          (λ q. col_still cols c u v (w.all u v low high q))
          (λ q. col_new cols c u v (present_joins a b u v (sym (used u v) ∙ q)))
          (or_cases (is_present path u v) (is_present (d ∷ []) u v) (sym (is_present-append path (d ∷ []) u v) ∙ p));
    }))
    (cases_Bool (is_col cols a b))

wanted_more : (i : Instance) (path : List Condition) (c : Condition) (cols : List Column) → MayFollow i.n path c → AreWanted i path cols → AreWanted i (path ++ c ∷ []) (with_wanted i c cols)
wanted_more i path (absent a b) cols m w = same_wanted i path (absent a b) cols m (λ u v. refl) w
wanted_more i path (fixed a b) cols m w = wanted_used i path (fixed a b) a b cols m m.0.0 m.0.1 (λ u v. refl) (λ u v. refl) w
wanted_more i path (present a b) cols m w = wanted_used i path (present a b) a b cols m m.0 m.1 (λ u v. refl) (λ u v. refl) w
wanted_more i path (two s) cols m w = same_wanted i path (two s) cols m (λ u v. refl) w
wanted_more i path (four s) cols m w = same_wanted i path (four s) cols m (λ u v. refl) w

follows : (n : ℕ) (xs : List Cond) (k : ℕ) (x : Cond) → k < length xs → x ≡ get_or xs k x → IsPath n (conditions_of (take (k + 1) xs)) → MayFollow n (conditions_of (take k xs)) (condition_of x)
follows n xs k x inside is path = (path_front n (conditions_of (take k xs)) (condition_of x) (subst (IsPath n) (conditions-more xs k x inside is) path)).1

pub may_follow : (n : ℕ) (xs : List Cond) (k : ℕ) (x : Cond) → k < length xs → x ≡ get_or xs k x → IsPath n (conditions_of xs) → MayFollow n (conditions_of (take k xs)) (condition_of x)
may_follow n xs k x inside is path =
    follows n xs k x inside is (is_path-front n (take (k + 1) xs) (drop (k + 1) xs) (subst (λ (l : List Cond). IsPath n (conditions_of l)) (sym (take-append-drop (k + 1) xs)) path))

-- one more condition of a path, by its place
pub wanted_next : (i : Instance) (xs : List Cond) (k : ℕ) (x : Cond) (old new : List Column) → k < length xs → x ≡ get_or xs k x → MayFollow i.n (conditions_of (take k xs)) (condition_of x)
    → AreWanted i (conditions_of (take k xs)) old → new ≡ with_wanted i (condition_of x) old → AreWanted i (conditions_of (take (k + 1) xs)) new
wanted_next i xs k x old new inside is follow w same =
    subst (λ (p : List Condition). AreWanted i p new) (sym (conditions-more xs k x inside is))
    (subst (AreWanted i (conditions_of (take k xs) ++ condition_of x ∷ [])) (sym same) (wanted_more i (conditions_of (take k xs)) (condition_of x) old follow w))

-- ---- columns that enter

any_push : (rows : List Row) (ys : List ℤ) (cols : List Column) (c : Column) → any_negative rows ys cols ≡ true → any_negative rows ys (cols ++ c ∷ []) ≡ true
any_push rows ys [] c h = absurd (false≢true h)
any_push rows ys (d ∷ cols) c h = ⊎_elim
    (λ q. or_left (lt_z (reduced rows ys d) (pos 0)) (any_negative rows ys (cols ++ c ∷ [])) q)
    (λ q. or_right (lt_z (reduced rows ys d) (pos 0)) (any_negative rows ys (cols ++ c ∷ [])) (any_push rows ys cols c q))
    (or_cases (lt_z (reduced rows ys d) (pos 0)) (any_negative rows ys cols) h)

pub entered_more : (rows : List Row) (ys : List ℤ) (i : Instance) (k u v : ℕ) (cols : List Column) → k ≤ length cols → any_negative rows ys (drop k cols) ≡ true → any_negative rows ys (drop k (with_col i u v false cols)) ≡ true
entered_more rows ys i k u v cols within h =
    let c : Column = record { u = u; v = v; cost = dist i u v; must = false } in
    ⊎_elim
    (λ q. subst (λ (l : List Column). any_negative rows ys (drop k l) ≡ true) (sym (cond-true (is_col cols u v) cols (cols ++ c ∷ []) q)) h)
    (λ q. subst (λ (l : List Column). any_negative rows ys (drop k l) ≡ true) (sym (cond-false (is_col cols u v) cols (cols ++ c ∷ []) q))
    (subst (λ (l : List Column). any_negative rows ys l ≡ true) (sym (drop-append-le k cols (c ∷ []) within)) (any_push rows ys (drop k cols) c h)))
    (cases_Bool (is_col cols u v))

pub entered_first : (rows : List Row) (ys : List ℤ) (i : Instance) (u v : ℕ) (cols : List Column) → is_col cols u v ≡ false → lt_z (reduced rows ys (column_of i u v)) (pos 0) ≡ true
    → any_negative rows ys (drop (length cols) (with_col i u v false cols)) ≡ true
entered_first rows ys i u v cols fresh negative =
    let c : Column = record { u = u; v = v; cost = dist i u v; must = false } in
    subst (λ (l : List Column). any_negative rows ys (drop (length cols) l) ≡ true) (sym (cond-false (is_col cols u v) cols (cols ++ c ∷ []) fresh))
    (subst (λ (l : List Column). any_negative rows ys l ≡ true) (sym (drop-append-le (length cols) cols (c ∷ []) (omega arith) ∙ ap (λ (l : List Column). l ++ c ∷ []) (drop_all (length cols) cols (omega arith))))
    (or_left (lt_z (reduced rows ys c) (pos 0)) false negative))

pub with_longer : (i : Instance) (u v : ℕ) (must : Bool) (cols : List Column) → length cols ≤ length (with_col i u v must cols)
with_longer i u v must cols =
    let c : Column = record { u = u; v = v; cost = dist i u v; must = must } in
    let l = length-append cols (c ∷ []) in
    ⊎_elim
    (λ q. subst (λ (z : List Column). length cols ≤ length z) (sym (cond-true (is_col cols u v) cols (cols ++ c ∷ []) q)) (omega arith))
    (λ q. subst (λ (z : List Column). length cols ≤ length z) (sym (cond-false (is_col cols u v) cols (cols ++ c ∷ []) q)) (omega (arith, l)))
    (cases_Bool (is_col cols u v))

-- a wanted core of no conditions
pub wanted_none : (i : Instance) (cols : List Column) → cols ≡ [] → AreWanted i [] cols
wanted_none i cols is = subst (AreWanted i []) (sym is) (record { distinct = record { each = tt; distinct = tt }; each = tt; all = λ u v low high p. absurd (false≢true p) })
