-- What is read out of a text, and why one is refused.
use Rattle.std.proofs.Common.{◌≡◌, ℕ, ◌^◌, ◌<◌, ◌≤◌, Bool, true, false, ◌&&◌, List, ◌∷◌, length, refl, sym, ap, subst, ◌∙◌, arith, inl, map}
use Rattle.std.specs.Prelude.{not, nat_le}
use Rattle.std.proofs.lemmas.List.{length-map}
use Rattle.std.proofs.lemmas.Bool.Decides.{nat_tests}
use Rattle.tspdef.specs.Instances.{Instance}
use Rattle.certdef.specs.Proofs.{Proof}
use Rattle.certdef.specs.Accepted.{from_zero, tree_in, most_bytes}
use Rattle.certdef.specs.Verdicts.{yes, no}
use Rattle.verdict.specs.Bodies.{merged, body_verdict, IsBodyOf, IsBodyText, YesIsBodyText}
use Rattle.verdict.specs.Parts.{Part, the_tour, preorder, parts_of, body_says, BodiesSayTheirParts}
use Rattle.certcheck.specs.Keeping.{Kept}
use Rattle.certcheck.specs.Parts as kept
use Rattle.certcheck.specs.Restarts.{IsRefusalOfBody}
use Rattle.certcheck.specs.declared.part.Part as P
use Rattle.certcheck.specs.declared.answer.Trouble.{Trouble}
use Rattle.certcheck.specs.declared.answer.Trouble.TheVariants as troubles
use Rattle.picture.specs.declared.tree.Node.{Node}
use Rattle.viewing.specs.Saying.{IsSaid, HasTooMany, IsRefusal, BeginsWithTour, node_of}

-- the parts of a text, all of them
pub record IsWhole (i : Instance) (bytes : List ℕ) (l b : ℕ) (ps : List P.Part) : Type 0 where
  pub value : Proof
  pub few_bytes : length bytes ≤ most_bytes
  pub body : IsBodyOf i bytes l b value
  pub parts : kept.parts_of ps ≡ parts_of i.n value
  pub room : length ps ≤ 1048577

all_kept : (ps : List P.Part) (full : Bool) (said : List Part) → Kept ps full said → (not full && nat_le (length ps) 1048577) ≡ true → (kept.parts_of ps ≡ said) × (length ps ≤ 1048577)
all_kept ps true said k e = absurd cc
all_kept ps false said k e = (k.all refl, grind (arith, nat_tests))

too_many_kept : (ps : List P.Part) (full : Bool) (said : List Part) → Kept ps full said → (not full && nat_le (length ps) 1048577) ≡ false → 1048577 < length said
too_many_kept ps true said k e = k.over refl
too_many_kept ps false said k e =
    let many : 1048577 < length ps = grind (arith, nat_tests) in
    omega (arith, ap length (k.all refl), length-map ps kept.part_of, many)

pub whole : (i : Instance) (bytes : List ℕ) (l b : ℕ) (ps : List P.Part) (full : Bool) → YesIsBodyText → BodiesSayTheirParts → i.n < 2 ^ 32 → body_verdict i bytes ≡ yes l b
    → Kept ps full (body_says i bytes) → (not full && nat_le (length ps) 1048577) ≡ true → IsWhole i bytes l b ps
whole i bytes l b ps full exact says n e k f =
    let told : IsBodyText i bytes l b = (exact i bytes l b n).0 e in
    let all = all_kept ps full (body_says i bytes) k f in
    let same : body_says i bytes ≡ parts_of i.n told.1 = says i bytes l b told.1 n told.0 told.2 in
    record { value = told.1; few_bytes = told.0; body = told.2; parts = all.0 ∙ same; room = all.1 }

pub too_many : (i : Instance) (bytes : List ℕ) (l b : ℕ) (ps : List P.Part) (full : Bool) → YesIsBodyText → BodiesSayTheirParts → i.n < 2 ^ 32 → body_verdict i bytes ≡ yes l b
    → Kept ps full (body_says i bytes) → (not full && nat_le (length ps) 1048577) ≡ false → HasTooMany i bytes
too_many i bytes l b ps full exact says n e s f =
    let told : IsBodyText i bytes l b = (exact i bytes l b n).0 e in
    let many = too_many_kept ps full (body_says i bytes) s f in
    let same : body_says i bytes ≡ parts_of i.n told.1 = says i bytes l b told.1 n told.0 told.2 in
    record { long = l; bound = b; value = told.1; few_bytes = told.0; body = told.2; many = omega (arith, many, ap length same, length-map (preorder (merged (tree_in i.n told.1))) node_of) }

pub whole_begins : (i : Instance) (bytes : List ℕ) (l b : ℕ) (ps : List P.Part) → IsWhole i bytes l b ps → BeginsWithTour (kept.parts_of ps)
whole_begins i bytes l b ps w = subst BeginsWithTour (sym w.parts) tt

-- once the tour is taken
pub was_said : (i : Instance) (bytes : List ℕ) (l b : ℕ) (ps qs : List P.Part) (tour : List ℕ) (drawn : List Node) → IsWhole i bytes l b ps → kept.parts_of ps ≡ the_tour tour ∷ kept.parts_of qs
    → drawn ≡ map node_of (kept.parts_of qs) → IsSaid i bytes l tour drawn
was_said i bytes l b ps qs tour drawn w e d =
    let same : the_tour tour ∷ kept.parts_of qs ≡ parts_of i.n w.value = sym e ∙ w.parts in
    let nodes : kept.parts_of qs ≡ preorder (merged (tree_in i.n w.value)) = cc in
    let tours : tour ≡ from_zero w.value.tour = cc in record {
      bound = b;
      value = w.value;
      few_bytes = w.few_bytes;
      body = w.body;
      tour_told = tours;
      nodes_told = d ∙ ap (λ (xs : List Part). map node_of xs) nodes;
      few = omega (arith, w.room, ap length d, length-map (kept.parts_of qs) node_of, ap length e, length-map ps kept.part_of);
    }

-- a refusal by the tests
pub test_refuses : (i : Instance) (bytes : List ℕ) (t : Trouble) → YesIsBodyText → i.n < 2 ^ 32 → IsRefusalOfBody i t bytes → IsRefusal i t bytes
test_refuses i bytes troubles.NoMemory exact n h = tt
test_refuses i bytes (troubles.Refused k line) exact n h = inl (record {
  first = h;
  never = λ l b text. let e : yes l b ≡ no k line = sym ((exact i bytes l b n).1 text) ∙ h in cc;
})
