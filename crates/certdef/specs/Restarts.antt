-- Restart bodies: values whose tree may have open leaves.
use Rattle.std.specs.Prelude.{◌≡◌, ℕ}
use Rattle.tspdef.specs.Instances.{Instance, IsTourOf, length_in}
use Rattle.tspdef.specs.Tours.{IsCanonical}
use Rattle.tspdef.specs.Trees.{IsSoundFor, open_leaves}
use Rattle.certdef.specs.Proofs.{Proof}
use Rattle.certdef.specs.Accepted.{from_zero, tree_in, IsAbout, IsAcceptedProof}

-- The value is about the instance, the length and the bound, its tour is canonical and of that length, and its tree is sound for
-- the bound.
pub record IsSoundProof (i : Instance) (l b : ℕ) (p : Proof) : Type 0 where
  pub about : IsAbout i l b p
  pub is_tour : IsTourOf i (from_zero p.tour)
  pub canonical : IsCanonical (from_zero p.tour)
  pub long : l ≡ length_in i (from_zero p.tour)
  pub sound : IsSoundFor i b (tree_in i.n p)

-- A sound proof without an open leaf is accepted.
abbrev pub ClosedIsAccepted : Type 0
ClosedIsAccepted = (i : Instance) (l b : ℕ) (p : Proof) → IsSoundProof i l b p → open_leaves (tree_in i.n p) ≡ 0 → IsAcceptedProof i l b p
