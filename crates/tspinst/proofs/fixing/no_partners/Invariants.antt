use Rattle.std.proofs.Common.{◌≡◌, ℕ, length}
use Rattle.tspinst.specs.Fixings.{partners_at}
use Rattle.tspinst.proofs.fixing.no_partners.Given as goal

abbrev pub invariant-loop-city : goal.invariant-loop-city
invariant-loop-city l = record {
  all : length l.partners.items ≡ l._city;
  none : (c : ℕ) → ◌≡◌ {A = ℕ × ℕ} (partners_at l.n l.partners.items c) (l.n, l.n);
}
