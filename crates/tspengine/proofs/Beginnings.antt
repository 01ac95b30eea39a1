-- The beginning of a search, and its end without rounds.
use Rattle.std.proofs.Common.{◌≡◌, ℕ, ◌+◌, ◌*◌, ◌≤◌, List, length, refl, sym, ap, subst, ◌∙◌, ◌⊎◌, inl, inr, Result, Ok, Err, IfOk, arith}
use Rattle.tspdef.specs.Instances.{Instance, length_in}
use Rattle.tspdef.specs.Trees.{Tree, open_leaf, open_leaves}
use Rattle.treebook.specs.Tables.{tree_of}
use Rattle.treebook.specs.Tree as trees
use Rattle.neigh.specs.Near.{Near}
use Rattle.worker.specs.Splits.{IsNeededSplit}
use Rattle.bossx.specs.Books as books
use Rattle.bossx.specs.Books.{Book}
use Rattle.bossx.specs.Kept.{IsBook, IsStart}
use Rattle.bossx.specs.Laws.{IsChargedFor}
use Rattle.bossx.specs.declared.events.Reply.TheVariants as heard
use Rattle.bossx.specs.declared.replies.Offered.{Offered}
use Rattle.tspround.specs.Alone.{IsAlone, IsSplitBy}
use Rattle.tspround.specs.Laws.{FewCitiesEnd}
use Rattle.tspengine.specs.Starts.{Start, BeginsAnew}
use Rattle.tspengine.specs.Searches.{start_in}
use Rattle.tspengine.specs.Rounds.{HasEnded}
use Rattle.tspengine.specs.Begun.{IsFreshSearch, IsSearchFrom}
use Rattle.tspengine.specs.Benching.{IsFound, IsBenchOutcome}
use Rattle.tspengine.specs.Outcomes.{IsOutcome}
use Rattle.tspengine.specs.declared.starting.Search.{Search}
use Rattle.tspengine.specs.declared.outcomes.Outcome.{Outcome}
use Rattle.tspengine.proofs.Rounds.{splits_kept, same_start, few_kept, search_on}

-- ---- a boss at its start to which a tour was offered

pub offered_search : (i : Instance) (t : trees.Table) (tour : List ℕ) (budget grunts gap : ℕ) (b new : Book) (reply : Offered) (near : Near) → IsStart i t tour budget grunts gap b → length t.nodes + 2 * budget ≤ 1048576
    → IsSplitBy IsNeededSplit b → IsChargedFor b new (heard.Offered reply) → near.n ≡ i.n → IsSearchFrom i budget gap (tree_of t.nodes) (length_in i tour) (record { boss = new; near = near })
offered_search i t tour budget grunts gap b new reply near is few by charged cities =
    let same = charged.start in
    let old : length b.start.nodes + 2 * b.budget ≤ 1048576 =
    subst (λ (s : books.Start). length s.nodes + 2 * b.budget ≤ 1048576) (sym is.start) (subst (λ (k : ℕ). length t.nodes + 2 * k ≤ 1048576) (sym is.budget) few) in
    record {
      search = record {
        search = record {
          search = record { few = few_kept b new same old; splits = splits_kept IsNeededSplit b new same (charged.tree refl) by };
          same_instance = same.instance ∙ is.instance;
          same_budget = same.budget ∙ is.budget;
          same_gap = same.gap ∙ is.gap;
        };
        cities = cities;
        none = charged.settled ∙ ap (λ (k : ℕ). k + 0) is.settled;
      };
      start = same_start b new same ∙ ap (λ (s : books.Start). record { tree = tree_of s.nodes; long = s.length }) is.start;
    }

-- ---- a search that went on to its end

ended_of : (budget : ℕ) (b new : Book) → b.settled ≡ 0 → new.budget ≡ budget → IsAlone IsNeededSplit budget b new → HasEnded new
ended_of budget b new none same went some = elim went.ended [
  | inl e ↦ absurd (omega arith)
  | inr (inl e) ↦ e
  | inr (inr e) ↦ omega arith
]

ended_or : (budget : ℕ) (b new : Book) → b.settled ≡ 0 → new.budget ≡ budget → IsAlone IsNeededSplit budget b new → (open_leaves (tree_of new.tree.nodes) ≡ 0) ⊎ (new.settled ≡ new.budget)
ended_or budget b new none same went = elim went.ended [
  | inl e ↦ inl e
  | inr (inl e) ↦ inr e
  | inr (inr e) ↦ inr (omega arith)
]

one_leaf : (t : Tree) → t ≡ open_leaf → open_leaves t ≡ 1
one_leaf t e = ap open_leaves e

pub found_of : FewCitiesEnd → (i : Instance) (budget : ℕ) (s : Search) (new : Book) → IsFreshSearch i budget 0 s → IsAlone IsNeededSplit budget s.boss new → IsBook new → IsFound i budget new
found_of few_law i budget s new fresh went book =
    let at = fresh.search in
    let of = at.search in
    let same = went.start in
    let of_instance = same.instance ∙ of.same_instance in
    let of_budget = same.budget ∙ of.same_budget in
    let begun = same_start s.boss new same in
    record {
      search = record {
        search = search_on budget s.boss new of.search went;
        same_instance = of_instance;
        same_budget = of_budget;
        same_gap = same.gap ∙ of.same_gap;
      };
      anew = subst (BeginsAnew i) (sym begun) fresh.anew;
      ended = ended_of budget s.boss new at.none of_budget went;
      small = λ cities enough.
          let one : open_leaves (tree_of new.start.nodes) ≡ 1 = ap (λ (x : Start). open_leaves x.tree) begun ∙ one_leaf (start_in s.boss).tree fresh.anew.tree in
          few_law new book (subst (λ (x : Instance). x.n ≤ 5) (sym of_instance) cities) went.splits
          (subst (λ (k : ℕ). 2047 * k ≤ new.budget) (sym one) (subst (λ (k : ℕ). 2047 * 1 ≤ k) (sym of_budget) (omega arith)))
          (ended_or budget s.boss new at.none of_budget went);
    }

-- ---- what came of it

pub ok_to : {A E : Type 0} (P Q : A → Type 0) → ((a : A) → P a → Q a) → (r : Result A E) → IfOk r P → IfOk r Q
ok_to P Q f (Ok a) h = f a h
ok_to P Q f (Err e) h = tt

pub bench_outcome : (i j : Instance) (budget : ℕ) (b : Book) → IsFound i budget b → i ≡ j → (o : Outcome) → IsOutcome b.instance b.budget b.gap (start_in b) o → IsBenchOutcome j budget o
bench_outcome i j budget b found same o is = subst (λ (x : Instance). IsBenchOutcome x budget o) same (record {
  start = start_in b;
  anew = found.anew;
  outcome = subst (λ (g : ℕ). IsOutcome i budget g (start_in b) o) found.search.same_gap
      (subst (λ (k : ℕ). IsOutcome i k b.gap (start_in b) o) found.search.same_budget
      (subst (λ (x : Instance). IsOutcome x b.budget b.gap (start_in b) o) found.search.same_instance is));
})
