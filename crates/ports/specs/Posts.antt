-- What becomes of reports.
use Rattle.std.specs.Prelude.{◌≡◌, ℕ, if◌then◌else◌, nat_lt, Bool, true, false}
use Rattle.ports.specs.declared.posts.Fate.{Fate}
use Rattle.ports.specs.declared.posts.Fate.TheVariants.{Once, Twice, Late, Never}

-- whether a lease may have a fate
abbrev pub MayTell : Type 1
MayTell = ℕ → Fate → Type 0

-- the fate of a report that comes
abbrev pub fate_of_comers : Bool → Bool → Fate
fate_of_comers twice true = Late
fate_of_comers true false = Twice
fate_of_comers false false = Once

-- of the leases below `lose` no report comes; any other comes late, or twice, or once
abbrev pub plain_fate : ℕ → Bool → Bool → ℕ → Fate
plain_fate lose twice late lease = if nat_lt lease lose then Never else fate_of_comers twice late

-- the worse of two fates
abbrev pub worse : Fate → Fate → Fate
worse Never b = Never
worse Late Never = Never
worse Late Late = Late
worse Late Twice = Late
worse Late Once = Late
worse Twice Never = Never
worse Twice Late = Late
worse Twice Twice = Twice
worse Twice Once = Twice
worse Once b = b

-- the worse of one that the first may tell and one that the second may
pub record IsWorseOf (P Q : MayTell) (lease : ℕ) (fate : Fate) : Type 0 where
  pub first : Fate
  pub second : Fate
  pub told_first : P lease first
  pub told_second : Q lease second
  pub is : fate ≡ worse first second
