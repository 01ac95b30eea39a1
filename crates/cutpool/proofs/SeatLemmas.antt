-- The cuts of a seat: kept, read by their tokens, sifted.
use Rattle.std.proofs.Common.{rules, ◌≡◌, ℕ, ◌+◌, ◌<◌, Bool, true, false, cond, List, [], ◌∷◌, ◌++◌, length, get_or, take, map, Some, slice_get, refl, sym, ap, subst, ◌∙◌, arith}
use Rattle.std.proofs.lemmas.Grind.{common_steps}
use Rattle.std.proofs.lemmas.List.{get_or-map, length-map, map-append, length-append}
use Rattle.std.proofs.lemmas.List.Elements.{All-nil, All-cons, All-head, All-tail, All-get_or, All-push, All-weaker, All-contains_itself, Contains-append_left, filter_more}
use Rattle.std.proofs.lemmas.Option.{slice_get-get_or, slice_get_within}
use Rattle.std.specs.List.{All, Contains, filter, list_any}
use Rattle.boxcar.specs.Table.{Shelves, Where, Shows}
use Rattle.tspdef.specs.Cuts.{Cut, IsCut}
use Rattle.cyc.specs.Frac.{Values}
use Rattle.indexmap.specs.IndexSet.{insert_key}
use Rattle.cutpool.specs.Pool.{Pool, misses, violated_cuts, IsWorthAdding}
use Rattle.cutpool.specs.Seat.{Shelf, AreSeatsOwn, IsKept, pushed_cut}
use Rattle.cutpool.proofs.PoolLemmas.{is_same, missing_is}

-- what stands at a place, by a read with a default
read_at : {X : Type 0} (xs : List X) (i : ℕ) (x d : X) → slice_get xs i ≡ Some x → (i < length xs) × (get_or xs i d ≡ x)
read_at xs i x d e = let within = slice_get_within xs i x e in (within, grind (arith, common_steps, slice_get-get_or xs i d within, e))

-- each of the seat's cuts is a cut of the pool's cities
pub cut_at : (n : ℕ) (cuts : List Cut) (i : ℕ) (cut : Cut) → All (IsCut n) cuts → slice_get cuts i ≡ Some cut → IsCut n cut
cut_at n cuts i cut all e = let r = read_at cuts i cut cut e in subst (IsCut n) r.1 (All-get_or (IsCut n) cuts i cut r.0 all)

more : (x : Values) (cuts : List Cut) (i : ℕ) (cut : Cut) → slice_get cuts i ≡ Some cut → filter (misses x) (take (i + 1) cuts) ≡ filter (misses x) (take i cuts) ++ cond (misses x cut) (cut ∷ []) []
more x cuts i cut e =
    let r = read_at cuts i cut cut e in
    filter_more (misses x) cuts i cut r.0 ∙ ap (λ c. filter (misses x) (take i cuts) ++ cond (misses x c) (c ∷ []) []) r.1

-- a violated cut comes last among those that were found
pub one_more : (x : Values) (cuts : List Cut) (i : ℕ) (cut : Cut) (found : List Cut) → slice_get cuts i ≡ Some cut → misses x cut ≡ true → found ≡ filter (misses x) (take i cuts) → found ++ cut ∷ [] ≡ filter (misses x) (take (i + 1) cuts)
one_more x cuts i cut found e missed is =
    ap (λ (cs : List Cut). cs ++ cut ∷ []) is ∙ sym (more x cuts i cut e ∙ ap (λ b. filter (misses x) (take i cuts) ++ cond b (cut ∷ []) []) missed)

-- one that is not changes nothing
pub no_more : (x : Values) (cuts : List Cut) (i : ℕ) (cut : Cut) (found : List Cut) → slice_get cuts i ≡ Some cut → misses x cut ≡ false → found ≡ filter (misses x) (take i cuts) → found ≡ filter (misses x) (take (i + 1) cuts)
no_more x cuts i cut found e met is =
    let none : filter (misses x) (take i cuts) ++ [] ≡ filter (misses x) (take i cuts) = grind (arith, common_steps) in
    is ∙ sym (more x cuts i cut e ∙ ap (λ b. filter (misses x) (take i cuts) ++ cond b (cut ∷ []) []) met ∙ none)

-- a violated cut of the values' cities is worth adding
pub worth_when : (x : Values) (cut : Cut) → IsCut x.n cut → misses x cut ≡ true → IsWorthAdding x cut
worth_when x cut is missed = search (rules, common_steps)

-- the token at a place is of the pool
pub shown_at : (shelf : Shelf) (cuts : List Cut) (tokens : List (Where Cut)) (i : ℕ) (d : Where Cut) → AreSeatsOwn shelf cuts tokens → i < length cuts → (i < length tokens) × Shows shelf.kept (get_or tokens i d)
shown_at shelf cuts tokens i d own h =
    let long : length tokens ≡ length cuts = sym (length-map tokens pushed_cut) ∙ ap (λ (cs : List Cut). length cs) own.same in
    let within : i < length tokens = omega arith in
    (within, All-get_or (Shows shelf.kept) tokens i d within own.shown)

-- and its value is the cut at that place
pub cut_shown : (shelf : Shelf) (cuts : List Cut) (tokens : List (Where Cut)) (i : ℕ) (d : Where Cut) → AreSeatsOwn shelf cuts tokens → i < length cuts → slice_get cuts i ≡ Some (pushed_cut (get_or tokens i d))
cut_shown shelf cuts tokens i d own h =
    let t = (shown_at shelf cuts tokens i d own h).0 in
    let e = pushed_cut d in
    slice_get-get_or cuts i e h ∙ ap (λ (cs : List Cut). Some (get_or cs i e)) (sym own.same) ∙ ap (λ c. Some c) (get_or-map pushed_cut tokens i d e t)

-- a cut and its token go last
pub kept_own : (shelf : Shelf) (cuts : List Cut) (tokens : List (Where Cut)) (cut : Cut) (token : Where Cut) → AreSeatsOwn shelf cuts tokens → IsCut shelf.n cut → Shows shelf.kept token → token.value ≡ cut → length cuts < 4096 → AreSeatsOwn shelf (cuts ++ cut ∷ []) (tokens ++ token ∷ [])
kept_own shelf cuts tokens cut token own is shows value room =
    let long = length-append cuts (cut ∷ []) in
    record {
      shown = All-push (Shows shelf.kept) tokens token own.shown shows;
      same = map-append pushed_cut tokens (token ∷ []) ∙ ap (λ (cs : List Cut). cs ++ token.value ∷ []) own.same ∙ ap (λ c. cuts ++ c ∷ []) value;
      are_cuts = All-push (IsCut shelf.n) cuts cut own.are_cuts is;
      few = omega arith;
    }

one_worth : (x : Values) (cut : Cut) (others : List Cut) (b : Bool) → misses x cut ≡ b → IsCut x.n cut → All (IsWorthAdding x) others → All (IsWorthAdding x) (cond b (cut ∷ others) others)
one_worth x cut others true missed is all = All-cons (IsWorthAdding x) cut others (worth_when x cut is missed) all
one_worth x cut others false met is all = all

each_worth : (x : Values) (cuts : List Cut) → All (IsCut x.n) cuts → All (IsWorthAdding x) (filter (misses x) cuts)
each_worth x [] all = All-nil (IsWorthAdding x)
each_worth x (c ∷ cs) all = one_worth x c (filter (misses x) cs) (misses x c) refl (All-head (IsCut x.n) c cs all) (each_worth x cs (All-tail (IsCut x.n) c cs all))

-- the violated ones among the seat's cuts are worth adding
pub own_worth : (x : Values) (n : ℕ) (cuts : List Cut) → x.n ≡ n → All (IsCut n) cuts → All (IsWorthAdding x) (violated_cuts x cuts)
own_worth x n cuts e all = each_worth x cuts (subst (λ k. All (IsCut k) cuts) (sym e) all)

-- what is worth adding is a cut
pub are_cuts : (x : Values) (cuts : List Cut) → All (IsWorthAdding x) cuts → All (IsCut x.n) cuts
are_cuts x cuts all = All-weaker (IsWorthAdding x) (IsCut x.n) (λ c w. w.is_cut) cuts all

-- each of a list stands in it and in what it begins
pub own_there : (own others : List Cut) → All (Contains (own ++ others)) own
own_there own others = All-weaker (Contains own) (Contains (own ++ others)) (λ c h. Contains-append_left own others c h) own (All-contains_itself own)

-- what a seat is seen as
abbrev pub seen : ℕ → List Cut → Pool
seen n cuts = record { n = n; cuts = cuts }

-- a copy of a cut that is missing goes last
pub inserted : (cuts : List Cut) (copy cut : Cut) → copy ≡ cut → list_any (is_same cut) cuts ≡ false → insert_key is_same cuts copy ≡ cuts ++ cut ∷ []
inserted cuts copy cut same none =
    let last : insert_key is_same cuts cut ≡ cuts ++ cut ∷ [] = rw none in
    ap (λ c. insert_key is_same cuts c) same ∙ last

-- a new cut at the next place
pub kept_is : (n : ℕ) (cuts news : List Cut) (cut : Cut) (k : ℕ) → list_any (is_same cut) cuts ≡ false → k ≡ length cuts → k < 4096 → news ≡ cuts ++ cut ∷ [] → IsKept (seen n cuts) (seen n news) cut k
kept_is n cuts news cut k none next room last = record { missing = missing_is cut cuts none; next = next; room = room; kept = ap (seen n) last }
