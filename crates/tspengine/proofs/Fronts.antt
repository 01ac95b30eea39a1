-- Fronts that a fault of writing leaves.
use Rattle.std.proofs.Common.{◌≡◌, ℕ, List, [], ◌++◌, length, take, sym, ap, ◌∙◌, arith, inl, inr, refl, Option}
use Rattle.std.proofs.lemmas.List.{take_all, append-nil}
use Rattle.ports.specs.Outside.{BothTell}
use Rattle.ports.specs.Desk.{Told, Adds, with_outlet_path}
use Rattle.ports.specs.declared.desk.Outlet.TheVariants as outlet
use Rattle.tspengine.specs.Steps.{writes, prints, TearsWriting}
use Rattle.verification.proofs.Tells.{both_then}

-- nothing is printed by a text without bytes
pub prints_nothing : (t : Told) → t ≡ prints [] t
prints_nothing t = ap (λ (x : List ℕ). record t { text = x }) (sym (append-nil t.text))

-- the outlet was bound and took all of a proof
pub written : (path proof : List ℕ) (a b c : Option Told) → BothTell (λ t u. u ≡ with_outlet_path path t) a b → BothTell (Adds outlet.Proof proof) b c
    → BothTell (λ t u. u ≡ writes path proof t) a c
written path proof a b c bound adds = both_then (λ t u. u ≡ with_outlet_path path t) (Adds outlet.Proof proof) (λ t u. u ≡ writes path proof t)
    (λ t u v e f. f ∙ ap (λ (x : Told). record x { proof_out = x.proof_out ++ proof }) e) a b c bound adds

-- and then a text, or a front of it
pub printed_on : (path proof printed : List ℕ) (a b c : Option Told) → BothTell (λ t u. u ≡ writes path proof t) a b → BothTell (Adds outlet.Text printed) b c
    → BothTell (λ t u. u ≡ prints printed (writes path proof t)) a c
printed_on path proof printed a b c wrote adds = both_then (λ t u. u ≡ writes path proof t) (Adds outlet.Text printed) (λ t u. u ≡ prints printed (writes path proof t))
    (λ t u v e f. f ∙ ap (prints printed) e) a b c wrote adds

-- a front of the proof was taken, and nothing of the text
pub proof_torn : (path proof printed : List ℕ) (k : ℕ) (a b c : Option Told) → BothTell (λ t u. u ≡ with_outlet_path path t) a b
    → BothTell (Adds outlet.Proof (take k proof)) b c → BothTell (TearsWriting path proof printed) a c
proof_torn path proof printed k a b c bound front = both_then (λ t u. u ≡ with_outlet_path path t) (Adds outlet.Proof (take k proof)) (TearsWriting path proof printed)
    (λ t u v e f. inr (record {
      taken = k;
      printed = 0;
      order = inl refl;
      desk = f ∙ ap (λ (x : Told). record x { proof_out = x.proof_out ++ take k proof }) e ∙ prints_nothing (writes path (take k proof) t);
    }))
    a b c bound front

-- the proof was taken whole, and a front of the text
pub text_torn : (path proof printed : List ℕ) (k : ℕ) (a b c d : Option Told) → BothTell (λ t u. u ≡ with_outlet_path path t) a b
    → BothTell (Adds outlet.Proof proof) b c → BothTell (Adds outlet.Text (take k printed)) c d → BothTell (TearsWriting path proof printed) a d
text_torn path proof printed k a b c d bound whole front =
    both_then (λ t u. u ≡ writes path proof t) (Adds outlet.Text (take k printed)) (TearsWriting path proof printed)
    (λ t u v e f. inr (record {
      taken = length proof;
      printed = k;
      order = inr (omega arith);
      desk = f ∙ ap (prints (take k printed)) (e ∙ ap (λ (x : List ℕ). writes path x t) (sym (take_all (length proof) proof (omega arith))));
    }))
    a c d (written path proof a b c bound whole) front
