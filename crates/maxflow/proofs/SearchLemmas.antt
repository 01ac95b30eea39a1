use Rattle.std.proofs.Common.{◌≡◌, ℕ, ◌+◌, ◌<◌, ◌≤◌, ◌⊎◌, min, cond, List, ◌∷◌, length, get_or, replicate, zero, suc, refl, inl, inr, sym, ◌∙◌, ap, subst, arith, ⊎_elim}
use Rattle.std.proofs.Math.Dec.{ltb}
use Rattle.std.proofs.Math.ListN.{set}
use Rattle.std.proofs.lemmas.List.{get_or-set_other, get_or-replicate, length-replicate}
use Rattle.std.proofs.lemmas.List.Sums.{sum_by-set, sum_by-cons}
use Rattle.std.proofs.lemmas.Grind.{get_or-set_at}
use Rattle.std.proofs.lemmas.Bool.{cases_eq, cond-true, cond-false, lt-ltb, le-ltb}
use Rattle.maxflow.specs.declared.residual.Edge.{Edge}
use Rattle.maxflow.specs.Edges.{edge_at, Leads}
use Rattle.maxflow.specs.Searches.{IsMetBy, IsSearch, unmet}

leads_less : (e : Edge) (a b x y : ℕ) → y ≤ x → Leads e a b x → Leads e a b y
leads_less e a b x y h j = ⊎_elim (λ k. inl (k.0, (k.1.0, (let z = k.1.1 in omega arith)))) (λ k. inr (k.0, (k.1.0, (let z = k.1.1 in omega arith)))) j

met_counts : (r : ℕ) → 0 < r → cond {A = ℕ} (ltb 0 r) 0 1 ≡ 0
met_counts r h = cond-true _ _ _ (lt-ltb 0 r h)

unmet_counts : (r : ℕ) → r ≡ 0 → cond {A = ℕ} (ltb 0 r) 0 1 ≡ 1
unmet_counts r h = cond-false _ _ _ (le-ltb 0 r (omega arith))

pub unmet_fewer : (rank : List ℕ) (v r : ℕ) → v < length rank → get_or rank v 0 ≡ 0 → 0 < r → unmet (set rank v r) + 1 ≡ unmet rank
unmet_fewer rank v r h e l =
    let s : unmet (set rank v r) + cond {A = ℕ} (ltb 0 (get_or rank v 0)) 0 1 ≡ unmet rank + cond {A = ℕ} (ltb 0 r) 0 1 = sum_by-set (λ k. cond (ltb 0 k) 0 1) rank v r 0 h in
    let a = met_counts r l in
    let b = unmet_counts (get_or rank v 0) e in
    omega arith

-- one more city is met
pub search_meets : (es : List Edge) (s n met : ℕ) (rank parent amount : List ℕ) (place from to room : ℕ) → length rank ≡ n → length parent ≡ n → length amount ≡ n
    → IsSearch es s n met rank parent amount → place < length es → from < n → to < n → 0 < get_or rank from 0 → get_or rank to 0 ≡ 0 → 0 < room → Leads (edge_at es place) from to room
    → IsSearch es s n (met + 1) (set rank to (met + 1)) (set parent to place) (set amount to (min room (get_or amount from 0)))
search_meets es s n met rank parent amount place from to room lr lp la t hp hf ht known fresh some j =
    let w = min room (get_or amount from 0) in
    let apart : from ≡ to → ⊥ = λ e. let z = ap (λ v. get_or rank v 0) e in omega arith in
    let rs = t.start_met in
    let roots : s ≡ to → ⊥ = λ e. let z = ap (λ v. get_or rank v 0) e in omega arith in
    let rf = get_or-set_other rank to from (met + 1) 0 apart in
    let af = get_or-set_other amount to from w 0 apart in
    let pos = t.some from hf known in
    let tf = t.top from hf in
    record {
      start_in = t.start_in;
      start_met = let z = get_or-set_other rank to s (met + 1) 0 roots in omega arith;
      top = λ v h. ⊎_elim
          (λ (e : v ≡ to). let z = get_or-set_at rank to v (met + 1) 0 e (omega arith) in omega arith)
          (λ (e : v ≡ to → ⊥). let z = get_or-set_other rank to v (met + 1) 0 e in let y = t.top v h in omega arith)
          (cases_eq v to);
      counted = let z = unmet_fewer rank to (met + 1) (omega arith) fresh (omega arith) in let y = t.counted in omega arith;
      some = λ v h l. ⊎_elim
          (λ (e : v ≡ to). let z = get_or-set_at amount to v w 0 e (omega arith) in omega arith)
          (λ (e : v ≡ to → ⊥). let z = get_or-set_other amount to v w 0 e in let y = get_or-set_other rank to v (met + 1) 0 e in let x = t.some v h (omega arith) in omega arith)
          (cases_eq v to);
      via = λ v h l ns. ⊎_elim
          (λ (e : v ≡ to).
          let zr = get_or-set_at rank to v (met + 1) 0 e (omega arith) in
          let zp = get_or-set_at parent to v place 0 e (omega arith) in
          let za = get_or-set_at amount to v w 0 e (omega arith) in
          record {
            from = from;
            from_in = hf;
            inside = omega arith;
            known = omega arith;
            before = omega arith;
            shrinks = omega arith;
            leads = subst (λ k. Leads (edge_at es k) from v (get_or (set amount to w) v 0)) (sym zp)
                (subst (λ k. Leads (edge_at es place) from k (get_or (set amount to w) v 0)) (sym e) (leads_less (edge_at es place) from to room _ (omega arith) j));
          })
          (λ (e : v ≡ to → ⊥).
          let zr = get_or-set_other rank to v (met + 1) 0 e in
          let zp = get_or-set_other parent to v place 0 e in
          let za = get_or-set_other amount to v w 0 e in
          let o = t.via v h (omega arith) ns in
          let ok = o.known in
          let ob = o.before in
          let oi = o.inside in
          let os = o.shrinks in
          let na : o.from ≡ to → ⊥ = λ q. let z = ap (λ k. get_or rank k 0) q in omega arith in
          let fr = get_or-set_other rank to o.from (met + 1) 0 na in
          let fa = get_or-set_other amount to o.from w 0 na in
          record {
            from = o.from;
            from_in = o.from_in;
            inside = omega arith;
            known = omega arith;
            before = omega arith;
            shrinks = omega arith;
            leads = subst (λ k. Leads (edge_at es k) o.from v (get_or (set amount to w) v 0)) (sym zp)
                (subst (λ k. Leads (edge_at es (get_or parent v 0)) o.from v k) (sym za) o.leads);
          })
          (cases_eq v to);
    }

abbrev pub zeros : ℕ → List ℕ
zeros n = replicate n 0

unmet_all : (n : ℕ) → unmet (zeros n) ≡ n
unmet_all zero = refl
unmet_all (suc n) =
    let ih = unmet_all n in
    let c : unmet (0 ∷ zeros n) ≡ cond {A = ℕ} (ltb 0 0) 0 1 + unmet (zeros n) = sum_by-cons (λ r. cond (ltb 0 r) 0 1) 0 (zeros n) in
    let z = unmet_counts 0 refl in
    c ∙ (let y : cond {A = ℕ} (ltb 0 0) 0 1 + unmet (zeros n) ≡ suc n = omega arith in y)

begins_at : (n s v : ℕ) → v < n → (v ≡ s → ⊥) → get_or (set (zeros n) s 1) v 0 ≡ 0
begins_at n s v h ne = get_or-set_other (zeros n) s v 1 0 ne ∙ get_or-replicate n v 0 0 h

length-zeros : (n : ℕ) → length (zeros n) ≡ n
length-zeros n = length-replicate n 0

begins_here : (n s v : ℕ) → s < n → v ≡ s → get_or (set (zeros n) s 1) v 0 ≡ 1
begins_here n s v h e = let l = length-zeros n in get_or-set_at (zeros n) s v 1 0 e (omega arith)

-- a search that has met its start alone
pub search_begins : (es : List Edge) (s n : ℕ) (parent amount : List ℕ) → length amount ≡ n → s < n
    → IsSearch es s n 1 (set (zeros n) s 1) parent (set amount s 4294967295)
search_begins es s n parent amount la h =
    let lr = length-zeros n in
    record {
      start_in = h;
      start_met = let z = begins_here n s s h refl in omega arith;
      top = λ v hv. ⊎_elim (λ (e : v ≡ s). let z = begins_here n s v h e in omega arith) (λ (e : v ≡ s → ⊥). let z = begins_at n s v hv e in omega arith) (cases_eq v s);
      counted = let z = unmet_fewer (zeros n) s 1 (omega arith) (get_or-replicate n s 0 0 h) (omega arith) in let y = unmet_all n in omega arith;
      some = λ v hv l. ⊎_elim
          (λ (e : v ≡ s). let z = get_or-set_at amount s v 4294967295 0 e (omega arith) in omega arith)
          (λ (e : v ≡ s → ⊥). let z = begins_at n s v hv e in absurd (omega arith))
          (cases_eq v s);
      via = λ v hv l ns. let z = begins_at n s v hv ns in absurd (omega arith);
    }

-- an edge has two ends
same_ends : (e : Edge) (a b c d x y : ℕ) → Leads e a b x → Leads e c d y → ((a ≡ c) × (b ≡ d)) ⊎ ((a ≡ d) × (b ≡ c))
same_ends e a b c d x y j k = ⊎_elim
    (λ l. ⊎_elim (λ m. inl (sym l.0 ∙ m.0, sym l.1.0 ∙ m.1.0)) (λ m. inr (sym l.0 ∙ m.1.0, sym l.1.0 ∙ m.0)) k)
    (λ l. ⊎_elim (λ m. inr (sym l.0 ∙ m.1.0, sym l.1.0 ∙ m.0)) (λ m. inl (sym l.0 ∙ m.0, sym l.1.0 ∙ m.1.0)) k)
    j

-- the edge by which the search came to a city
pub via_apart : (es : List Edge) (n : ℕ) (rank parent amounts : List ℕ) (here : ℕ) (o : IsMetBy es n rank parent amounts here) → o.from ≡ here → ⊥
via_apart es n rank parent amounts here o e = let b = o.before in let z = ap (λ v. get_or rank v 0) e in omega arith

pub via_leads : (es : List Edge) (n : ℕ) (rank parent amounts : List ℕ) (here amount place : ℕ) (o : IsMetBy es n rank parent amounts here) → place ≡ get_or parent here 0 → amount ≤ get_or amounts here 0 → Leads (edge_at es place) o.from here amount
via_leads es n rank parent amounts here amount place o e h =
    subst (λ k. Leads (edge_at es k) o.from here amount) (sym e) (leads_less (edge_at es (get_or parent here 0)) o.from here (get_or amounts here 0) amount h o.leads)

-- a city that was met before is reached as before when another's edge changes
pub via_still : (es now : List Edge) (n : ℕ) (rank parent amounts : List ℕ) (here v : ℕ) → IsMetBy es n rank parent amounts here → IsMetBy es n rank parent amounts v → get_or rank v 0 < get_or rank here 0
    → length now ≡ length es → ((i : ℕ) → (i ≡ get_or parent here 0 → ⊥) → edge_at now i ≡ edge_at es i) → IsMetBy now n rank parent amounts v
via_still es now n rank parent amounts here v o w h l others =
    let b = w.before in
    let wi = w.inside in
    let apart : get_or parent v 0 ≡ get_or parent here 0 → ⊥ = λ e. ⊎_elim
    (λ q. let z = ap (λ k. get_or rank k 0) q.1 in omega arith)
    (λ q. let z = ap (λ k. get_or rank k 0) q.0 in omega arith)
    (same_ends (edge_at es (get_or parent here 0)) w.from v o.from here (get_or amounts v 0) (get_or amounts here 0)
    (subst (λ k. Leads (edge_at es k) w.from v (get_or amounts v 0)) e w.leads) o.leads) in
    record {
      from = w.from;
      from_in = w.from_in;
      inside = omega arith;
      known = w.known;
      before = w.before;
      shrinks = w.shrinks;
      leads = subst (λ k. Leads k w.from v (get_or amounts v 0)) (sym (others (get_or parent v 0) apart)) w.leads;
    }
