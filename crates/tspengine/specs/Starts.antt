-- Where a search begins: anew, or with the body of an earlier one.
use Rattle.std.specs.Prelude.{◌≡◌, ℕ, true, false, List, Some}
use Rattle.ports.specs.Outside.{WhereTold}
use Rattle.tspdef.specs.Instances.{Instance, length_in}
use Rattle.tspdef.specs.Trees.{Tree, open_leaf}
use Rattle.opening.specs.Openings.{IsOpeningTour}
use Rattle.slotstore.specs.Store.{loaded}
use Rattle.resume_form.specs.Resumed.{IsResumed}
use Rattle.tspwords.specs.Program.{resumes, budget_of, gap_of}
use Rattle.tspengine.specs.Calls.{Call}

-- the tree, and the length of the best tour
pub record Start : Type 0 where
  pub tree : Tree
  pub long : ℕ

-- anew: one open leaf, and the opening tour
pub record BeginsAnew (i : Instance) (s : Start) : Type 0 where
  pub tour : List ℕ
  pub is_opening : IsOpeningTour i tour
  pub long : s.long ≡ length_in i tour
  pub tree : s.tree ≡ open_leaf

-- with a body: its tree and its tour
pub record GoesOnWith (i : Instance) (budget gap : ℕ) (body : List ℕ) (s : Start) : Type 0 where
  pub tour : List ℕ
  pub resumed : IsResumed i budget gap body s.tree tour
  pub long : s.long ≡ length_in i tour

-- as the words of the call say: anew, or with the body that the slots held before it
pub record Begins (c : Call) (i : Instance) (s : Start) : Type 0 where
  pub anew : resumes c.words ≡ false → BeginsAnew i s
  pub resumed : resumes c.words ≡ true
      → WhereTold (λ t. (body : List ℕ) × ((loaded t ≡ Some body) × GoesOnWith i (budget_of c.words) (gap_of c.words) body s)) c.before.slots
