-- What becomes of the desk where the bytes of an instance are too many.
use Rattle.std.proofs.Common.{◌≡◌, ℕ, ◌+◌, ◌^◌, ◌<◌, ◌≤◌, List, [], length, drop, refl, ap, subst, ◌∙◌, inr, Option, Some, None, Err}
use Rattle.std.proofs.lemmas.Bool.{cond-true, lt-ltb}
use Rattle.ports.specs.Outside.{BothTell, WhereTold}
use Rattle.ports.specs.Desk.{Told, TakesFirst, with_left, with_inlet_path}
use Rattle.ports.specs.declared.desk.Inlet.TheVariants as inlet
use Rattle.tspinst.specs.Texts.{BadInstanceText, outcome}
use Rattle.tspinst.specs.declared.refusals.Refusal.TheVariants as refusals
use Rattle.verification.specs.Transfers.{RefusesInstance}

abbrev Binds : List ℕ → Told → Told → Type 0
Binds word t u = u ≡ with_inlet_path inlet.Instance word t

is_too_long : (bytes : List ℕ) → 2 ^ 26 < length bytes → outcome bytes ≡ Err refusals.TooLong
unfolding outcome
is_too_long bytes many = cond-true _ _ _ (lt-ltb (2 ^ 26) (length bytes) many)

too_long_text : (bytes : List ℕ) → 2 ^ 26 < length bytes → BadInstanceText bytes 1 0 []
too_long_text bytes many = record { refusal = refusals.TooLong; first = is_too_long bytes many; numbered = refl; placed = refl; told = refl }

too_long_at : (word : List ℕ) (k : ℕ) (t u v : Told) → k ≤ 2 ^ 26 + 1 → Binds word t u → 2 ^ 26 < length u.instance → TakesFirst inlet.Instance k u v → RefusesInstance word refusals.TooLong t v
too_long_at word k t u v few e many f =
    let same : u.instance ≡ t.instance = ap (λ (x : Told). x.instance) e in record {
      refused = too_long_text t.instance (subst (λ (x : List ℕ). 2 ^ 26 < length x) same many);
      count = k;
      few = few;
      whole = inr refl;
      others = f ∙ ap (λ (x : Told). with_left inlet.Instance (drop k x.instance) x) e;
    }

pub too_long : (word : List ℕ) (k : ℕ) (a b c : Option Told) → k ≤ 2 ^ 26 + 1 → BothTell (Binds word) a b → WhereTold (λ t. 2 ^ 26 < length t.instance) b → BothTell (TakesFirst inlet.Instance k) b c
    → BothTell (RefusesInstance word refusals.TooLong) a c
too_long word k None None None few p w q = tt
too_long word k None None (Some v) few p w q = absurd q
too_long word k None (Some u) c few p w q = absurd p
too_long word k (Some t) None c few p w q = absurd p
too_long word k (Some t) (Some u) None few p w q = absurd q
too_long word k (Some t) (Some u) (Some v) few p w q = too_long_at word k t u v few p w q
