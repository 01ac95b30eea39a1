-- The cuts of a tree in order of first use, and their numbers.
use Rattle.std.proofs.Common.{◌≡◌, ℕ, suc, ◌+◌, ◌-◌, ◌*◌, ◌<◌, ◌≤◌, Bool, true, false, List, [], ◌∷◌, ◌++◌, length, refl, sym, ◌∙◌, ap, subst, arith, ⊎_elim, length-append}
use Rattle.std.specs.Prelude.{slice_index_or, fold}
use Rattle.std.specs.declared.cmp.Ordering.TheVariants.{Less}
use Rattle.std.specs.List.{list_any, AllByRecursion}
use Rattle.std.proofs.lemmas.Bool.{or_cases, or_left, or_right, cond_both, false≢true}
use Rattle.tspdef.specs.Cuts.{Cut, subtour, cut_cmp, IsCut}
use Rattle.tspdef.specs.Paths.{Condition, absent, present, two, four}
use Rattle.tspdef.specs.Closings.{CutsRise, AreRisingCuts}
use Rattle.tspdef.specs.Trees.{Tree, open_leaf, closed_leaf, edge_split, clique_split, open_leaves, settled}
use Rattle.cutform.specs.Order.{ordered_cuts, same_cuts, same_cuts_tie}
use Rattle.treebook.specs.Tables.{Node, State, open_node, closed_node, split_node, state_at}
use Rattle.certdef.specs.Accepted.{cut_at}
use Rattle.certform.specs.Written.{is_same_cut, with_cut, with_cuts, with_cuts_of, number_of}
use Rattle.certform.specs.Listing.{IsListed, AreListed, AreReady}
use Rattle.certform.specs.Walks.{with_state_cuts, node_cuts}
use Rattle.certform.specs.Faithful.{IsFitting}

-- ---- which cuts are in a list

abbrev pub HasAllOf : List Cut → Tree → Type 0
HasAllOf cs open_leaf = Unit {0}
HasAllOf cs (closed_leaf c) = AreListed cs c.cuts
HasAllOf cs (edge_split u v a b) = HasAllOf cs a × HasAllOf cs b
HasAllOf cs (clique_split s a b) = HasAllOf cs a × HasAllOf cs b

any-push : (p : Cut → Bool) (cs : List Cut) (c : Cut) → list_any p cs ≡ true → list_any p (cs ++ c ∷ []) ≡ true
any-push p [] c h = absurd (false≢true h)
any-push p (x ∷ xs) c h = ⊎_elim (λ a. or_left (p x) (list_any p (xs ++ c ∷ [])) a) (λ b. or_right (p x) (list_any p (xs ++ c ∷ [])) (any-push p xs c b)) (or_cases (p x) (list_any p xs) h)

any_pushed : (p : Cut → Bool) (cs : List Cut) (c : Cut) → p c ≡ true → list_any p (cs ++ c ∷ []) ≡ true
any_pushed p [] c h = or_left (p c) false h
any_pushed p (x ∷ xs) c h = or_right (p x) (list_any p (xs ++ c ∷ [])) (any_pushed p xs c h)

pub has_kept : (cs : List Cut) (c d : Cut) → IsListed cs d → IsListed (with_cut cs c) d
has_kept cs c d h = cond_both (list_any (is_same_cut c) cs) cs (cs ++ c ∷ []) (λ ds. IsListed ds d) (λ e. h) (λ e. any-push (is_same_cut d) cs c h)

pub has_added : (cs : List Cut) (c : Cut) → IsListed (with_cut cs c) c
has_added cs c = cond_both (list_any (is_same_cut c) cs) cs (cs ++ c ∷ []) (λ ds. IsListed ds c) (λ e. e) (λ e. any_pushed (is_same_cut c) cs c (same_cuts_tie c c refl))

pub all_kept : (qs : List (Cut × ℕ)) (cs : List Cut) (d : Cut) → IsListed cs d → IsListed (with_cuts cs qs) d
all_kept [] cs d h = h
all_kept (q ∷ qs) cs d h = all_kept qs (with_cut cs q.0) d (has_kept cs q.0 d h)

pub all_added : (qs : List (Cut × ℕ)) (cs : List Cut) → AreListed (with_cuts cs qs) qs
all_added [] cs = tt
all_added (q ∷ qs) cs = (all_kept qs (with_cut cs q.0) q.0 (has_added cs q.0), all_added qs (with_cut cs q.0))

tree_kept : (t : Tree) (cs : List Cut) (d : Cut) → IsListed cs d → IsListed (with_cuts_of cs t) d
tree_kept open_leaf cs d h = h
tree_kept (closed_leaf c) cs d h = all_kept c.cuts cs d h
tree_kept (edge_split u v a b) cs d h = tree_kept b (with_cuts_of cs a) d (tree_kept a cs d h)
tree_kept (clique_split s a b) cs d h = tree_kept b (with_cuts_of cs a) d (tree_kept a cs d h)

all_more : (qs : List (Cut × ℕ)) (cs ds : List Cut) → ((d : Cut) → IsListed cs d → IsListed ds d) → AreListed cs qs → AreListed ds qs
all_more [] cs ds more h = tt
all_more (q ∷ qs) cs ds more h = (more q.0 h.0, all_more qs cs ds more h.1)

tree_more : (t : Tree) (cs ds : List Cut) → ((d : Cut) → IsListed cs d → IsListed ds d) → HasAllOf cs t → HasAllOf ds t
tree_more open_leaf cs ds more h = tt
tree_more (closed_leaf c) cs ds more h = all_more c.cuts cs ds more h
tree_more (edge_split u v a b) cs ds more h = (tree_more a cs ds more h.0, tree_more b cs ds more h.1)
tree_more (clique_split s a b) cs ds more h = (tree_more a cs ds more h.0, tree_more b cs ds more h.1)

pub tree_added : (t : Tree) (cs : List Cut) → HasAllOf (with_cuts_of cs t) t
tree_added open_leaf cs = tt
tree_added (closed_leaf c) cs = all_added c.cuts cs
tree_added (edge_split u v a b) cs =
    let ds = with_cuts_of cs a in (tree_more a ds (with_cuts_of ds b) (λ d h. tree_kept b ds d h) (tree_added a cs), tree_added b ds)
tree_added (clique_split s a b) cs =
    let ds = with_cuts_of cs a in (tree_more a ds (with_cuts_of ds b) (λ d h. tree_kept b ds d h) (tree_added a cs), tree_added b ds)

-- ---- each is a cut

all-push : (P : Cut → Type 0) (cs : List Cut) (c : Cut) → AllByRecursion P cs → P c → AllByRecursion P (cs ++ c ∷ [])
all-push P [] c h p = (p, tt)
all-push P (x ∷ xs) c h p = (h.0, all-push P xs c h.1 p)

cut_is_cut : (n : ℕ) (cs : List Cut) (c : Cut) → AllByRecursion (IsCut n) cs → IsCut n c → AllByRecursion (IsCut n) (with_cut cs c)
cut_is_cut n cs c h p = cond_both (list_any (is_same_cut c) cs) cs (cs ++ c ∷ []) (λ ds. AllByRecursion (IsCut n) ds) (λ e. h) (λ e. all-push (IsCut n) cs c h p)

cuts_are_cuts : (n : ℕ) (qs : List (Cut × ℕ)) (cs : List Cut) → AllByRecursion (IsCut n) cs → AllByRecursion (λ q. IsCut n q.0) qs → AllByRecursion (IsCut n) (with_cuts cs qs)
cuts_are_cuts n [] cs h p = h
cuts_are_cuts n (q ∷ qs) cs h p = cuts_are_cuts n qs (with_cut cs q.0) (cut_is_cut n cs q.0 h p.0) p.1

pub tree_cuts_are_cuts : (n : ℕ) (path : List Condition) (t : Tree) (cs : List Cut) → IsFitting n path t → AllByRecursion (IsCut n) cs → AllByRecursion (IsCut n) (with_cuts_of cs t)
tree_cuts_are_cuts n path open_leaf cs f h = h
tree_cuts_are_cuts n path (closed_leaf c) cs f h = cuts_are_cuts n c.cuts cs h f.cuts.cuts
tree_cuts_are_cuts n path (edge_split u v a b) cs f h =
    tree_cuts_are_cuts n (path ++ present u v ∷ []) b (with_cuts_of cs a) f.1.1 (tree_cuts_are_cuts n (path ++ absent u v ∷ []) a cs f.1.0 h)
tree_cuts_are_cuts n path (clique_split s a b) cs f h =
    tree_cuts_are_cuts n (path ++ four s ∷ []) b (with_cuts_of cs a) f.1.1 (tree_cuts_are_cuts n (path ++ two s ∷ []) a cs f.1.0 h)

-- ---- how many there are

one_more : (cs : List Cut) (c : Cut) → length (with_cut cs c) ≤ length cs + 1
one_more cs c = cond_both (list_any (is_same_cut c) cs) cs (cs ++ c ∷ []) (λ ds. length ds ≤ length cs + 1) (λ e. omega arith) (λ e. omega (arith, length-append cs (c ∷ [])))

some_more : (qs : List (Cut × ℕ)) (cs : List Cut) → length (with_cuts cs qs) ≤ length cs + length qs
some_more [] cs = omega arith
some_more (q ∷ qs) cs = let ih = some_more qs (with_cut cs q.0) in let o = one_more cs q.0 in omega arith

-- with n nodes there are (n + 1) / 2 leaves at most, each with 4096 cuts at most
pub few_cuts : (n : ℕ) (path : List Condition) (t : Tree) (cs : List Cut) → IsFitting n path t
    → 2 * length (with_cuts_of cs t) ≤ 2 * length cs + 4096 * (open_leaves t + settled t + 1)
few_cuts n path open_leaf cs f = omega arith
few_cuts n path (closed_leaf c) cs f = let few = f.counts.cuts in let more = some_more c.cuts cs in omega arith
few_cuts n path (edge_split u v a b) cs f =
    let x = few_cuts n (path ++ absent u v ∷ []) a cs f.1.0 in let y = few_cuts n (path ++ present u v ∷ []) b (with_cuts_of cs a) f.1.1 in omega arith
few_cuts n path (clique_split s a b) cs f =
    let x = few_cuts n (path ++ two s ∷ []) a cs f.1.0 in let y = few_cuts n (path ++ four s ∷ []) b (with_cuts_of cs a) f.1.1 in omega arith

-- ---- numbers

pub number_some : (cs : List Cut) (c : Cut) → 1 ≤ number_of cs c
number_some [] c = omega arith
number_some (x ∷ xs) c = cond_both (is_same_cut c x) 1 (number_of xs c + 1) (λ k. 1 ≤ k) (λ e. omega arith) (λ e. omega arith)

has_tail : (x : Cut) (xs : List Cut) (c : Cut) → IsListed (x ∷ xs) c → is_same_cut c x ≡ false → IsListed xs c
has_tail x xs c h e = ⊎_elim (λ a. absurd (false≢true (sym e ∙ a))) (λ b. b) (or_cases (is_same_cut c x) (list_any (is_same_cut c) xs) h)

pub number_within : (cs : List Cut) (c : Cut) → IsListed cs c → number_of cs c ≤ length cs
number_within [] c h = absurd (false≢true h)
number_within (x ∷ xs) c h = cond_both (is_same_cut c x) 1 (number_of xs c + 1) (λ k. k ≤ length (x ∷ xs)) (λ e. omega arith) (λ e. let ih = number_within xs c (has_tail x xs c h e) in omega arith)

at_next : (x : Cut) (xs : List Cut) (k : ℕ) → 1 ≤ k → cut_at (x ∷ xs) (k + 1) ≡ cut_at xs k
at_next x xs k h =
    let e : (k + 1) - 1 ≡ suc (k - 1) = omega arith in ap (λ j. slice_index_or (x ∷ xs) j (subtour 0 [])) e

pub cut_numbered : (cs : List Cut) (c : Cut) → IsListed cs c → cut_at cs (number_of cs c) ≡ c
cut_numbered [] c h = absurd (false≢true h)
cut_numbered (x ∷ xs) c h = cond_both (is_same_cut c x) 1 (number_of xs c + 1) (λ k. cut_at (x ∷ xs) k ≡ c)
    (λ e. sym (same_cuts c x e))
    (λ e. at_next x xs (number_of xs c) (number_some xs c) ∙ cut_numbered xs c (has_tail x xs c h e))

-- ---- rising cuts are different

less_apart : (c : Cut) → cut_cmp c c ≡ Less → ⊥
less_apart c h = let e = ordered_cuts.antisymm c c in absurd (cc)

-- each of the cuts is greater
abbrev pub AreGreater : Cut → List (Cut × ℕ) → Type 0
AreGreater c qs = AllByRecursion (λ q. cut_cmp c q.0 ≡ Less) qs

less_still : (c d : Cut) (qs : List (Cut × ℕ)) → cut_cmp c d ≡ Less → AreGreater d qs → AreGreater c qs
less_still c d [] l h = tt
less_still c d (q ∷ qs) l h = (ordered_cuts.trans c d q.0 l h.0, less_still c d qs l h.1)

pub all_greater : (c : Cut) (qs : List (Cut × ℕ)) → CutsRise c qs → AreGreater c qs
all_greater c [] h = tt
all_greater c (q ∷ qs) h = (h.0, less_still c q.0 qs h.0 (all_greater q.0 qs h.1))

pub rising_rest : (q : Cut × ℕ) (qs : List (Cut × ℕ)) → CutsRise q.0 qs → AreRisingCuts qs
rising_rest q [] h = tt
rising_rest q (r ∷ rs) h = h.1

-- a lesser cut has another number
pub apart : (cs : List Cut) (c d : Cut) → IsListed cs c → IsListed cs d → cut_cmp c d ≡ Less → number_of cs d ≡ number_of cs c → ⊥
apart cs c d h k l e =
    let same : d ≡ c = sym (cut_numbered cs d k) ∙ ap (cut_at cs) e ∙ cut_numbered cs c h in
    less_apart c (subst (λ (x : Cut). cut_cmp c x ≡ Less) same l)

-- ---- the cuts of nodes

state_kept : (s : State) (cs : List Cut) (d : Cut) → IsListed cs d → IsListed (with_state_cuts cs s) d
state_kept open_node cs d h = h
state_kept (closed_node c) cs d h = all_kept c.cuts cs d h
state_kept (split_node b child) cs d h = h

nodes_kept : (nodes : List Node) (ks : List ℕ) (cs : List Cut) (d : Cut) → IsListed cs d → IsListed (fold (λ xs k. with_state_cuts xs (state_at nodes k)) cs ks) d
nodes_kept nodes [] cs d h = h
nodes_kept nodes (k ∷ ks) cs d h = nodes_kept nodes ks (with_state_cuts cs (state_at nodes k)) d (state_kept (state_at nodes k) cs d h)

ready_from : (nodes : List Node) (ks : List ℕ) (cs : List Cut) → AllByRecursion (λ k. k < length nodes) ks → AreReady (fold (λ xs k. with_state_cuts xs (state_at nodes k)) cs ks) nodes ks
ready_from nodes [] cs h = tt
ready_from nodes (k ∷ ks) cs h =
    let ds = with_state_cuts cs (state_at nodes k) in (
      record {
        within = h.0;
        listed = λ c e. all_more c.cuts ds (fold (λ xs j. with_state_cuts xs (state_at nodes j)) ds ks) (λ d g. nodes_kept nodes ks ds d g)
            (subst (λ s. AreListed (with_state_cuts cs s) c.cuts) (sym e) (all_added c.cuts cs));
      },
      ready_from nodes ks ds h.1,
    )

pub nodes_ready : (cs : List Cut) (nodes : List Node) (ks : List ℕ) → cs ≡ node_cuts nodes ks → AllByRecursion (λ k. k < length nodes) ks → AreReady cs nodes ks
nodes_ready cs nodes ks e h = subst (λ xs. AreReady xs nodes ks) (sym e) (ready_from nodes ks [] h)
