-- one line, and the end
use Rattle.std.proofs.Common.{◌≡◌, ℕ, zero, suc, ◌+◌, ◌<◌, true, List, [], ◌∷◌, ◌++◌, length, map, ℤ, refl, ap, ◌∙◌, arith}
use Rattle.std.specs.List.{flat_map}
use Rattle.tspdef.specs.Paths.{Condition}
use Rattle.certdef.specs.Items.{Item, tooth_line, fits}
use Rattle.certdef.specs.Proofs.{Listed, subtour_cut, comb_cut, odd_cut, Written, open_leaf, closed_leaf, edge_split, clique_split, listed_items, pair_item, tree_items, city_item, cut_item, condition_item}
use Rattle.certdef.specs.Tests.{Tests}
use Rattle.certdef.specs.Verdicts.{Head, OpenDuals, Stage, wants_title, wants_size, wants_length, wants_bound, wants_tour, wants_count, wants_cut, wants_handle, wants_tooth, wants_odd_handle, wants_pair, wants_trees, wants_duals, yes, step, at_end}
use Rattle.verdict.proofs.Left.{DualsLeft, Left, LeftOf}
use Rattle.verdict.proofs.CutSteps.{on_cut_forth, on_cut_back, on_handle_forth, on_handle_back, on_tooth_forth, on_tooth_back, on_odd_handle_forth, on_odd_handle_back, on_pair_forth, on_pair_back}
use Rattle.verdict.proofs.DualSteps.{on_dual_forth, on_dual_back}
use Rattle.verdict.proofs.TreeSteps.{on_tree_forth, on_tree_back}
use Rattle.verdict.proofs.HeadSteps.{on_title_forth, on_title_back, on_size_forth, on_size_back, on_length_forth, on_length_back, on_bound_forth, on_bound_back, on_tour_forth, on_tour_back, on_count_forth, on_count_back}

pub step_forth : (j : Tests) (l : ℕ × ℕ) (at : ℕ) (s : Stage) (x : Item) (xs : List Item) → Left j l s (x ∷ xs) → LeftOf j l (step j at s x) xs
step_forth j l at wants_title x xs k = on_title_forth j l at x xs k
step_forth j l at (wants_size v) x xs k = on_size_forth j l v at x xs k
step_forth j l at (wants_length v) x xs k = on_length_forth j l v at x xs k
step_forth j l at (wants_bound m) x xs k = on_bound_forth j l m at x xs k.0 k.1
step_forth j l at (wants_tour m b) x xs k = on_tour_forth j l m b at x xs k.0 k.1
step_forth j l at (wants_count m b) x xs k = on_count_forth j l m b at x xs k.0 k.1
step_forth j l at (wants_cut h m) x xs (e, k) = on_cut_forth j l h m at x xs e k.more k.rest k.said k.count k.pairs k.cuts k.trees
step_forth j l at (wants_handle h m from t) x xs k = on_handle_forth j l h m from t at x xs k.0 k.1
step_forth j l at (wants_tooth h m from t s ts) x xs (e, k) = on_tooth_forth j l h m from t s ts at x xs e k.more k.rest k.said k.count k.cut k.cuts
step_forth j l at (wants_odd_handle h m from t) x xs k = on_odd_handle_forth j l h m from t at x xs k.0 k.1
step_forth j l at (wants_pair h m from t s ps) x xs (e, k) = on_pair_forth j l h m from t s ps at x xs e k.more k.rest k.said k.count k.follow k.cut k.cuts
step_forth j l at (wants_trees h []) x xs k = absurd (cc)
step_forth j l at (wants_trees h (p ∷ ps)) x xs (e, k) = on_tree_forth j l h p ps at x xs e k.0 k.1 k.2 k.3 k.4
step_forth j l at (wants_duals h ps o a b c) x xs k = on_dual_forth j l h ps o a b c at x xs k

pub step_back : (j : Tests) (l : ℕ × ℕ) (at : ℕ) (s : Stage) (x : Item) (xs : List Item) → fits j.n x ≡ true → LeftOf j l (step j at s x) xs → Left j l s (x ∷ xs)
step_back j l at wants_title x xs f k = on_title_back j l at x xs k
step_back j l at (wants_size v) x xs f k = on_size_back j l v at x xs k
step_back j l at (wants_length v) x xs f k = on_length_back j l v at x xs k
step_back j l at (wants_bound m) x xs f k = on_bound_back j l m at x xs k
step_back j l at (wants_tour m b) x xs f k = on_tour_back j l m b at x xs k
step_back j l at (wants_count m b) x xs f k = on_count_back j l m b at x xs k
step_back j l at (wants_cut h m) x xs f k = on_cut_back j l h m at x xs k
step_back j l at (wants_handle h m from t) x xs f k = on_handle_back j l h m from t at x xs k
step_back j l at (wants_tooth h m from t s ts) x xs f k = on_tooth_back j l h m from t s ts at x xs k
step_back j l at (wants_odd_handle h m from t) x xs f k = on_odd_handle_back j l h m from t at x xs k
step_back j l at (wants_pair h m from t s ps) x xs f k = on_pair_back j l h m from t s ps at x xs k
step_back j l at (wants_trees h []) x xs f k = absurd k
step_back j l at (wants_trees h (p ∷ ps)) x xs f k = on_tree_back j l h p ps at x xs k
step_back j l at (wants_duals h ps o a b c) x xs f k = on_dual_back j l h ps o a b c at x xs f k

-- ---- the end

empty_said : {X : Type 0} (x : X) (xs ys zs : List X) → [] ≡ x ∷ xs ++ ys ++ zs → ⊥
empty_said x xs ys zs e = cc

no_tree : (t : Written) (rest : List Item) → [] ≡ tree_items t ++ rest → ⊥
no_tree open_leaf rest e = cc
no_tree (closed_leaf d) rest e = cc
no_tree (edge_split u v t s) rest e = cc
no_tree (clique_split q t s) rest e = cc

no_cuts : (cs : List Listed) (rest : List Item) (m : ℕ) → [] ≡ flat_map listed_items cs ++ rest → length cs ≡ suc m → ⊥
no_cuts [] rest m e n = omega arith
no_cuts (subtour_cut s ∷ cs) rest m e n = cc
no_cuts (comb_cut s ts ∷ cs) rest m e n = cc
no_cuts (odd_cut s ps ∷ cs) rest m e n = cc

no_teeth : (ts : List (List ℕ)) (rest : List Item) (m : ℕ) → [] ≡ map tooth_line ts ++ rest → length ts ≡ suc m → ⊥
no_teeth [] rest m e n = omega arith
no_teeth (t ∷ ts) rest m e n = cc

no_pairs : (ps : List (ℕ × ℕ)) (rest : List Item) (m : ℕ) → [] ≡ map pair_item ps ++ rest → length ps ≡ suc m → ⊥
no_pairs [] rest m e n = omega arith
no_pairs (p ∷ ps) rest m e n = cc

no_duals : (cs : List (ℕ × ℤ)) (ys zs : List (ℕ × ℕ)) (rest : List Item) → [] ≡ (map city_item cs ++ (map cut_item ys ++ map condition_item zs)) ++ rest → 0 < length cs + (length ys + length zs) → ⊥
no_duals [] [] [] rest e n = omega arith
no_duals (c ∷ cs) ys zs rest e n = cc
no_duals [] (y ∷ ys) zs rest e n = cc
no_duals [] [] (z ∷ zs) rest e n = cc

end_duals : (j : Tests) (h : Head) (ps : List (List Condition)) (o : OpenDuals) (a b c : ℕ) → 0 < a + (b + c) → DualsLeft j h ps o a b c [] → ⊥
end_duals j h ps o a b c n k = let x = k.cities in let y = k.cuts in let z = k.conds in no_duals k.more.cities k.more.cuts k.more.conds k.rest k.said (omega arith)

pub end_forth : (j : Tests) (l : ℕ × ℕ) (at : ℕ) (s : Stage) → Left j l s [] → at_end at s ≡ yes l.0 l.1
end_forth j l at wants_title k = let e = k.said in cc
end_forth j l at (wants_size v) k = let e = k.said in cc
end_forth j l at (wants_length v) k = let e = k.said in cc
end_forth j l at (wants_bound m) k = let e = k.1.said in cc
end_forth j l at (wants_tour m b) k = let e = k.1.said in cc
end_forth j l at (wants_count m b) k = let e = k.1.said in cc
end_forth j l at (wants_cut h m) k = absurd (no_cuts k.1.more k.1.rest m k.1.said k.1.count)
end_forth j l at (wants_handle h m from t) k = let e = k.1.said in cc
end_forth j l at (wants_tooth h m from t s ts) k = absurd (no_teeth k.1.more k.1.rest t k.1.said k.1.count)
end_forth j l at (wants_odd_handle h m from t) k = let e = k.1.said in cc
end_forth j l at (wants_pair h m from t s ps) k = absurd (no_pairs k.1.more k.1.rest t k.1.said k.1.count)
end_forth j l at (wants_trees h []) k = ap (λ r. yes r.0 r.1) k.0
end_forth j l at (wants_trees h (p ∷ ps)) k = absurd (no_tree k.1.0 k.1.1 k.1.2)
end_forth j l at (wants_duals h ps o zero zero zero) k = absurd k
end_forth j l at (wants_duals h ps o (suc a) b c) k = absurd (end_duals j h ps o (suc a) b c (omega arith) k.1)
end_forth j l at (wants_duals h ps o zero (suc b) c) k = absurd (end_duals j h ps o zero (suc b) c (omega arith) k.1)
end_forth j l at (wants_duals h ps o zero zero (suc c)) k = absurd (end_duals j h ps o zero zero (suc c) (omega arith) k.1)

pub end_back : (j : Tests) (l : ℕ × ℕ) (at : ℕ) (s : Stage) → at_end at s ≡ yes l.0 l.1 → Left j l s []
end_back j l at wants_title k = cc
end_back j l at (wants_size v) k = cc
end_back j l at (wants_length v) k = cc
end_back j l at (wants_bound m) k = cc
end_back j l at (wants_tour m b) k = cc
end_back j l at (wants_count m b) k = cc
end_back j l at (wants_cut h m) k = cc
end_back j l at (wants_handle h m from t) k = cc
end_back j l at (wants_tooth h m from t s ts) k = cc
end_back j l at (wants_odd_handle h m from t) k = cc
end_back j l at (wants_pair h m from t s ps) k = cc
end_back j l at (wants_trees h []) k = (let long : h.long ≡ l.0 = cc in let low : h.bound ≡ l.1 = cc in ap (λ r. (r, h.bound)) long ∙ ap (λ r. (l.0, r)) low, refl)
end_back j l at (wants_trees h (p ∷ ps)) k = cc
end_back j l at (wants_duals h ps o a b c) k = cc
