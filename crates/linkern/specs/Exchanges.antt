-- Exchanges of two steps.
use Rattle.std.specs.Prelude.{◌≡◌, ◌≢◌, ℕ, ◌+◌, ◌<◌, ◌≤◌, Bool, true, ◌&&◌, not, List}
use Rattle.tspdef.specs.Tours.{has_step}
use Rattle.tspdef.specs.Instances.{Instance, dist}
use Rattle.flips.specs.Cycles.{Follows}
use Rattle.linkern.specs.declared.resting.Exchange.{Exchange}

-- neither of the steps ab and cd is fixed
abbrev pub are_free : Instance → ℕ → ℕ → ℕ → ℕ → Bool
are_free i a b c d = not (has_step i.fixed a b) && not (has_step i.fixed c d)

-- two steps of the tour, neither of them fixed, whose exchange shortens it
pub record Gains (i : Instance) (tour : List ℕ) (x : Exchange) : Type 0 where
  pub into : Follows tour x.a x.b
  pub out_of : Follows tour x.c x.d
  pub two : x.a ≢ x.c
  pub free : are_free i x.a x.b x.c x.d ≡ true
  pub gain : dist i x.a x.c + dist i x.b x.d < dist i x.a x.b + dist i x.c x.d

-- no exchange of steps that are not fixed, and that joins a and c, shortens the tour
pub record IsPairAtRest (i : Instance) (tour : List ℕ) (a c : ℕ) : Type 0 where
  pub ahead : (b d : ℕ) → a ≢ c → Follows tour a b → Follows tour c d → are_free i a b c d ≡ true → dist i a b + dist i c d ≤ dist i a c + dist i b d
  pub behind : (b d : ℕ) → a ≢ c → Follows tour b a → Follows tour d c → are_free i b a d c ≡ true → dist i b a + dist i d c ≤ dist i b d + dist i a c
