-- Steps that a fault of writing cut short.
use Rattle.std.proofs.Common.{◌≡◌, ℕ, ◌+◌, List, length, take, sym, ap, ◌∙◌, arith}
use Rattle.std.proofs.Math.Seq.{take-append-add}
use Rattle.ports.specs.Desk.{Told, Adds, with_added}
use Rattle.ports.specs.declared.desk.Outlet.TheVariants as outlet
use Rattle.verification.specs.Transfers.{Torn}

-- a front of a text was printed, and the step would have been done with all of it
pub torn_by : (Step : Told → Told → Type 0) (printed : List ℕ) (k : ℕ) (t u v : Told) → Step t (with_added outlet.Text printed u) → u.text ≡ t.text
    → Adds outlet.Text (take k printed) u v → Torn Step t v
torn_by Step printed k t u v step same adds = record {
  whole = with_added outlet.Text printed u;
  step = step;
  front = length u.text + k;
  kept = let e : length u.text ≡ length t.text = ap length same in omega arith;
  others = adds ∙ ap (λ (x : List ℕ). record u { text = x }) (sym (take-append-add u.text printed k));
}
