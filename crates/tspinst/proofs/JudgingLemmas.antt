-- Each text has one outcome.
use Rattle.std.proofs.Common.{◌≡◌, ℕ, ◌^◌, ◌<◌, ◌⊎◌, inl, inr, List, length, Option, Some, None, Result, Ok, Err, refl, sym, ap, ◌∙◌}
use Rattle.tspdef.specs.Instances.{Instance}
use Rattle.tspinst.specs.declared.refusals.Refusal.{Refusal}
use Rattle.tspinst.specs.Refusals.{number_of, line_of, extras_of}
use Rattle.tspinst.specs.Texts.{outcome, InstanceText, BadInstanceText}
use Rattle.tspinst.specs.Laws.{TextsAreJudged}
use Rattle.tspinst.specs.Reads.{Refuses}
use Rattle.tspinst.specs.declared.refusals.Refusal.TheVariants as refusals
use Rattle.ports.specs.declared.desk.Inlet.TheVariants as inlets
use Rattle.ports.specs.Outside.{BothTell, WhereTold}
use Rattle.ports.specs.Desk.{Told, left, TakesFirst}
use Rattle.tspinst.proofs.Shrinking.{outcome_long}

-- a text that is refused
pub bad_text : (bytes : List ℕ) (r : Refusal) → outcome bytes ≡ Err r → BadInstanceText bytes (number_of r) (line_of r) (extras_of r)
bad_text bytes r e = record { refusal = r; first = e; numbered = refl; placed = refl; told = refl }

judged : (bytes : List ℕ) (r : Result Instance Refusal) → outcome bytes ≡ r → ((i : Instance) × InstanceText bytes i) ⊎ ((number : ℕ) × (line : ℕ) × (extras : List ℕ) × BadInstanceText bytes number line extras)
judged bytes (Ok i) e = inl (i, e)
judged bytes (Err r) e = inr (number_of r, line_of r, extras_of r, bad_text bytes r e)

same_instance : (i j : Instance) → ◌≡◌ {A = Result Instance Refusal} (Ok i) (Ok j) → i ≡ j
same_instance i j e = cc

same_refusal : (r s : Refusal) → ◌≡◌ {A = Result Instance Refusal} (Err r) (Err s) → r ≡ s
same_refusal r s e = cc

not_same : (i : Instance) (r : Refusal) → ◌≡◌ {A = Result Instance Refusal} (Ok i) (Err r) → ⊥
not_same i r e = cc

pub texts_judged : TextsAreJudged
texts_judged = record {
  either = λ bytes. judged bytes (outcome bytes) refl;
  one_instance = λ bytes i j a b. same_instance i j (sym a ∙ b);
  one_refusal = λ bytes n n' l l' x x' a b.
      let same = same_refusal a.refusal b.refusal (sym a.first ∙ b.first) in
      (sym a.numbered ∙ ap number_of same ∙ b.numbered, sym a.placed ∙ ap line_of same ∙ b.placed, sym a.told ∙ ap extras_of same ∙ b.told);
  never_both = λ bytes i n l x a b. not_same i b.refusal (sym a ∙ b.first);
}

-- a text that is too long
pub too_long : (old new : Option Told) → WhereTold (λ t. 2 ^ 26 < length (left inlets.Instance t)) old → (k : ℕ) → BothTell (TakesFirst inlets.Instance k) old new → BothTell (Refuses refusals.TooLong) old new
too_long None None w k b = tt
too_long None (Some u) w k b = b
too_long (Some t) None w k b = b
too_long (Some t) (Some u) w k b = record { text = bad_text (left inlets.Instance t) refusals.TooLong (outcome_long (left inlets.Instance t) w); taken = inl refl }
