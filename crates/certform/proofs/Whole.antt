-- What is written for a tour and a sound tree is faithful, and accepted where no leaf is open.
use Rattle.std.proofs.Common.{◌≡◌, ℕ, ◌+◌, ◌*◌, ◌^◌, ◌<◌, ◌≤◌, List, [], ◌∷◌, ◌++◌, length, map, refl, sym, ◌∙◌, ap, subst, arith, length-append}
use Rattle.std.specs.Prelude.{nat_lt, Option, Some, None}
use Rattle.std.specs.List.{AllByRecursion, flat_map}
use Rattle.std.proofs.lemmas.Bool.{cond_both, ltb-true, ltb-false}
use Rattle.std.proofs.lemmas.List.{append-nil, length-map}
use Rattle.tspdef.specs.Cuts.{Cut, IsCut}
use Rattle.tspdef.specs.Tours.{IsCanonical, travelled, walk}
use Rattle.tspdef.specs.Instances.{Instance, IsInstance, IsTourOf, length_in, dist}
use Rattle.tspdef.specs.Paths.{Condition, branches, root}
use Rattle.tspdef.specs.Bounds.{needed}
use Rattle.tspdef.specs.Trees.{Tree, IsSoundFor, open_leaves, settled}
use Rattle.certdef.specs.Items.{tour_line, cuts_line}
use Rattle.certdef.specs.Proofs.{Proof, listed_items, tree_items, head_items, items, text}
use Rattle.certdef.specs.Accepted.{cuts_of, tree_of, tree_in, IsBoundOf, HasForm, most_bytes, LeavesRise, DepthsName}
use Rattle.certdef.specs.Restarts.{IsSoundProof}
use Rattle.certdef.proofs.Restarts.{closed_is_accepted}
use Rattle.certdef.proofs.Depths.{depths_without}
use Rattle.tspdef.proofs.RootLemmas.{no_branches}
use Rattle.certform.specs.Written.{from_one, listed, used_cuts, written_tree, told, written}
use Rattle.certform.specs.Faithful.{IsFitting, AreAlike, IsFaithful, WrittenIsFaithful, FaithfulIsAccepted}
use Rattle.certform.proofs.Numbering.{tree_added, tree_cuts_are_cuts, few_cuts, HasAllOf}
use Rattle.certform.proofs.Again.{cities_again, cuts_again, tree_again, tree_again_in, sound_again, alike_again, open_again, settled_again}
use Rattle.certform.proofs.Spelling.{fits_title, fits_size, fits_length, fits_bound, fits_tour, fits_count}
use Rattle.certform.proofs.Written.{AllFit, all_join, cuts_fit, cuts_rise, cuts_length, tree_fits, tree_rises, tree_names, tree_length, text_length}

-- ---- the tour

from_one_some : (s : List ℕ) → AllByRecursion (λ c. 1 ≤ c) (from_one s)
from_one_some [] = tt
from_one_some (c ∷ cs) = (omega arith, from_one_some cs)

small_tour : (n : ℕ) (s : List ℕ) → n ≤ 2000 → AllByRecursion (λ c. c < n) s → AllByRecursion (λ c. c < 10000) (from_one s)
small_tour n [] few h = tt
small_tour n (c ∷ cs) few h = let l = h.0 in (omega arith, small_tour n cs few h.1)

steps_few : (home a : ℕ) (bs : List ℕ) → length (walk home a bs) ≡ length bs + 1
steps_few home a [] = omega arith
steps_few home a (b ∷ bs) = let ih = steps_few home b bs in omega arith

walk_short : (d : ℕ → ℕ → ℕ) (es : List (ℕ × ℕ)) → ((u v : ℕ) → d u v < 2 ^ 30) → travelled d es ≤ 2 ^ 30 * length es
walk_short d [] h = omega arith
walk_short d (e ∷ es) h = let one = h e.0 e.1 in let ih = walk_short d es h in omega arith

tour_short : (i : Instance) (tour : List ℕ) → IsInstance i → length tour ≤ 2000 → length_in i tour ≤ 2 ^ 42
tour_short i [] k few = omega arith
tour_short i (a ∷ bs) k few =
    let s = steps_few a a bs in
    let w = walk_short (dist i) (walk a a bs) (λ u v. k.small _) in omega arith

-- ---- the head

-- a bound is told where it is below the length, and else it is the length
told_is_bound : (l b : ℕ) → b ≤ l → IsBoundOf (told l b) l b
told_is_bound l b h = cond_both (nat_lt b l) (Some b) None (λ t. IsBoundOf t l b)
    (λ e. (refl, ltb-true b l e))
    (λ e. let more = ltb-false b l e in omega arith)

head_fits : (n l b : ℕ) → n ≤ 2000 → l ≤ 2 ^ 42 → b ≤ l → AllFit n (head_items n l (told l b))
head_fits n l b few short below = cond_both (nat_lt b l) (Some b) None (λ t. AllFit n (head_items n l t))
    (λ e. (fits_title n 2 (omega arith) (omega arith), (fits_size n few, (fits_length n l short, (fits_bound n b (omega arith), tt)))))
    (λ e. (fits_title n 1 (omega arith) (omega arith), (fits_size n few, (fits_length n l short, tt))))

head_length : (n l b : ℕ) → length (head_items n l (told l b)) ≤ 4
head_length n l b = cond_both (nat_lt b l) (Some b) None (λ t. length (head_items n l t) ≤ 4) (λ e. omega arith) (λ e. omega arith)

-- ---- the items

module _ (i : Instance) (tour : List ℕ) (l b : ℕ) (t : Tree) (inst : IsInstance i) (is_tour : IsTourOf i tour) (canonical : IsCanonical tour)
    (long : l ≡ length_in i tour) (below : b ≤ l) (sound : IsSoundFor i b t) (fitting : IsFitting i.n (root i) t) (few : open_leaves t + settled t ≤ 1048576) where
  abbrev cs : List Cut
  cs = used_cuts t

  abbrev p : Proof
  p = written i.n tour l b t

  -- fixed pairs have no depth
  none_deep : length (branches (root i)) ≡ 0
  none_deep = ap length (no_branches i.fixed)

  are_cuts : AllByRecursion (IsCut i.n) cs
  are_cuts = tree_cuts_are_cuts i.n (root i) t [] fitting tt

  has_all : HasAllOf cs t
  has_all = tree_added t []

  cuts_few : length cs ≤ 2147487744
  cuts_few = let f = few_cuts i.n (root i) t [] fitting in omega arith

  all_fit : AllFit i.n (items p)
  all_fit =
      let size = inst.few in
      let c = cuts_few in
      let e = length-map cs listed in
      let m = length-map tour (λ c. c + 1) in
      let w = is_tour.is_tour.all in
      let none = none_deep in
      let short = subst (λ k. k ≤ 2 ^ 42) (sym long) (tour_short i tour inst (omega arith)) in
      let body = tour_line (from_one tour) ∷ cuts_line (length (map listed cs)) ∷ flat_map listed_items (map listed cs) in
      all_join i.n (head_items i.n l (told l b) ++ body) (tree_items (written_tree cs t))
      (all_join i.n (head_items i.n l (told l b)) body (head_fits i.n l b inst.few short below) (
        fits_tour i.n (from_one tour) inst.few (m ∙ w) (small_tour i.n tour inst.few is_tour.is_tour.below),
        (fits_count i.n (length (map listed cs)) (omega arith), cuts_fit i.n cs inst.few are_cuts),
      ))
      (tree_fits i.n (root i) cs t inst.few (omega arith) (omega arith) has_all fitting)

  has_form : HasForm i.n p
  has_form = record {
    readable = record {
      lines = all_fit;
      pairs = cuts_rise i.n cs are_cuts;
      rise = subst (λ k. LeavesRise i.n k (written_tree cs t)) (sym (length-map cs listed)) (let none = none_deep in tree_rises i.n (root i) cs t (omega arith) has_all fitting);
    };
    depths = depths_without i.fixed [] (written_tree cs t) (subst (λ (r : List Condition). DepthsName r (written_tree cs t)) (sym (append-nil (root i))) (tree_names i.n (root i) cs t fitting));
  }

  cuts_back : cuts_of i.n (map listed cs) ≡ cs
  cuts_back = cuts_again i.n cs are_cuts

  tree_back : tree_in i.n p ≡ tree_again_in i.n cs t
  tree_back = ap (λ (ds : List Cut). tree_of i.n ds (written_tree cs t)) cuts_back ∙ tree_again i.n cs t

  is_sound : IsSoundProof i l b p
  is_sound =
      let back = cities_again tour in record {
        about = record {
          size = refl;
          same = refl;
          bound = told_is_bound l b below;
          cuts = subst (AllByRecursion (IsCut i.n)) (sym cuts_back) are_cuts;
          from_one = from_one_some tour;
        };
        is_tour = subst (IsTourOf i) (sym back) is_tour;
        canonical = subst IsCanonical (sym back) canonical;
        long = long ∙ ap (length_in i) (sym back);
        sound = subst (IsSoundFor i b) (sym tree_back) (sound_again i (needed b) (root i) cs t has_all sound);
      }

  short : length (text p) ≤ most_bytes
  short =
      let size = inst.few in
      let c = cuts_few in
      let x = cuts_length i.n cs inst.few are_cuts in
      let y = tree_length i.n (root i) cs t inst.few fitting in
      let h = head_length i.n l b in
      let body = tour_line (from_one tour) ∷ cuts_line (length (map listed cs)) ∷ flat_map listed_items (map listed cs) in
      let a = length-append (head_items i.n l (told l b)) body in
      let z = length-append (head_items i.n l (told l b) ++ body) (tree_items (written_tree cs t)) in
      let w = text_length i.n (items p) all_fit in omega arith

  faithful : IsFaithful i l b t p
  faithful = record {
    form = has_form;
    sound = is_sound;
    alike = subst (AreAlike t) (sym tree_back) (alike_again i (needed b) (root i) cs t has_all sound);
    opened = ap open_leaves tree_back ∙ open_again i.n cs t;
    settled = ap settled tree_back ∙ settled_again i.n cs t;
    size = short;
  }

pub written_is_faithful : WrittenIsFaithful
written_is_faithful i tour l b t inst is_tour canonical long below sound fitting few = faithful i tour l b t inst is_tour canonical long below sound fitting few

pub faithful_is_accepted : FaithfulIsAccepted
faithful_is_accepted i l b t value f none =
    (f.size, value, record { text = refl; form = f.form; accepted = closed_is_accepted i l b value f.sound (f.opened ∙ none) })
