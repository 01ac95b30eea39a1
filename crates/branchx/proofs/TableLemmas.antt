-- The table of decided pairs.
use Rattle.std.proofs.Common.{◌≡◌, ℕ, ◌+◌, ◌*◌, ◌<◌, Bool, true, false, ◌||◌, ◌&&◌, ◌==◌, List, length, take, set, get_or, refl, sym, ap, subst, ◌∙◌, arith, inl, inr}
use Rattle.std.proofs.lemmas.Bool.{cases_eq, eq-eqb, ne_eqb, or_left, or_right, or_from, and_from, and_left, and_right}
use Rattle.std.proofs.lemmas.Nat.{same_from_place, mul-add-lt}
use Rattle.std.proofs.lemmas.List.{get_or-set_same, get_or-set_other}
use Rattle.tspdef.specs.Tours.{joins}
use Rattle.tspdef.specs.Paths.{is_decided, IsPair}
use Rattle.branchx.specs.declared.cond.Cond.{Cond}
use Rattle.branchx.specs.Cond.{condition_of, conditions_of, decides}
use Rattle.branchx.specs.Table.{tabled}
use Rattle.branchx.proofs.PathLemmas.{is_decided-push, conditions-more}

-- a step joins a pair exactly where it is the pair, when both name the lower city first
joins-same : (a b : ℕ) → joins a b (a, b) ≡ true
joins-same a b = or_left _ _ (and_from _ _ (eq-eqb a a refl) (eq-eqb b b refl))

joins-other : (u v a b : ℕ) → u < v → a < b → ((a ≡ u) × (b ≡ v) → ⊥) → joins u v (a, b) ≡ false
joins-other u v a b h k ne = or_from _ _ first second where
  first : ((a == u) && (b == v)) ≡ false
  first = elim (cases_eq a u) [
    | inl e ↦ and_right _ _ (ne_eqb b v (λ f. ne (e, f)))
    | inr d ↦ and_left _ _ (ne_eqb a u d)
  ]

  second : ((a == v) && (b == u)) ≡ false
  second = elim (cases_eq a v) [
    | inl e ↦ and_right _ _ (ne_eqb b u (λ f. omega arith))
    | inr d ↦ and_left _ _ (ne_eqb a v d)
  ]

or_false : (b : Bool) → (b || false) ≡ b
or_false true = refl
or_false false = refl

-- marking a pair changes the answer for that pair alone
pub tabled-set : (n : ℕ) (table : List Bool) (a b u v : ℕ) → length table ≡ n * n → IsPair n a b → u < v → v < n
    → tabled n (set table (a * n + b) true) u v ≡ (tabled n table u v || joins u v (a, b))
tabled-set n table a b u v long pair low high =
    elim (cases_eq (u * n + v) (a * n + b)) [
      | inl e ↦
          let same = same_from_place u v a b n high pair.1 e in
          let in' : a * n + b < length table = omega (arith, mul-add-lt a n b n (omega arith) pair.1) in
          subst (λ k. get_or (set table (a * n + b) true) k false ≡ (get_or table k false || joins u v (a, b))) (sym e)
          (get_or-set_same table (a * n + b) true false in'
          ∙ sym (or_right _ _ (subst (λ x. joins x v (a, b) ≡ true) (sym same.0) (subst (λ y. joins a y (a, b) ≡ true) (sym same.1) (joins-same a b)))))
      | inr ne ↦
          let other = joins-other u v a b low pair.0 (λ e. ne (ap (λ x. x * n + v) (sym e.0) ∙ ap (λ y. a * n + y) (sym e.1))) in
          get_or-set_other table (a * n + b) (u * n + v) true false ne
          ∙ (sym (or_false (tabled n table u v)) ∙ ap (λ c. tabled n table u v || c) (sym other))
    ]

-- the next condition, on a pair that is marked
pub tabled-next : (n : ℕ) (table : List Bool) (xs : List Cond) (i : ℕ) (x : Cond) (a b : ℕ) → length table ≡ n * n → i < length xs → x ≡ get_or xs i x → IsPair n a b
    → ((u v : ℕ) → decides (condition_of x) u v ≡ joins u v (a, b))
    → ((u v : ℕ) → u < v → v < n → tabled n table u v ≡ is_decided (conditions_of (take i xs)) u v)
    → (u v : ℕ) → u < v → v < n → tabled n (set table (a * n + b) true) u v ≡ is_decided (conditions_of (take (i + 1) xs)) u v
tabled-next n table xs i x a b long h is pair says right u v low high =
    tabled-set n table a b u v long pair low high
    ∙ (ap (λ c. c || joins u v (a, b)) (right u v low high)
    ∙ (ap (λ c. is_decided (conditions_of (take i xs)) u v || c) (sym (says u v))
    ∙ (sym (is_decided-push (conditions_of (take i xs)) (condition_of x) u v)
    ∙ sym (ap (λ cs. is_decided cs u v) (conditions-more xs i x h is)))))

-- the next condition, on no pair
pub tabled-kept : (n : ℕ) (table : List Bool) (xs : List Cond) (i : ℕ) (x : Cond) → i < length xs → x ≡ get_or xs i x
    → ((u v : ℕ) → decides (condition_of x) u v ≡ false)
    → ((u v : ℕ) → u < v → v < n → tabled n table u v ≡ is_decided (conditions_of (take i xs)) u v)
    → (u v : ℕ) → u < v → v < n → tabled n table u v ≡ is_decided (conditions_of (take (i + 1) xs)) u v
tabled-kept n table xs i x h is says right u v low high =
    right u v low high
    ∙ (sym (or_false (is_decided (conditions_of (take i xs)) u v))
    ∙ (ap (λ c. is_decided (conditions_of (take i xs)) u v || c) (sym (says u v))
    ∙ (sym (is_decided-push (conditions_of (take i xs)) (condition_of x) u v)
    ∙ sym (ap (λ cs. is_decided cs u v) (conditions-more xs i x h is)))))
