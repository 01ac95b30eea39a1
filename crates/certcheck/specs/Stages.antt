-- The stage at which a verifier stands, of what it keeps.
use Rattle.std.specs.Prelude.{◌≡◌, ℕ, List, [], ◌∷◌, length, map, Option, Some, None, Result, Ok, Err}
use Rattle.std.specs.List.{AllByRecursion}
use Rattle.tspdef.specs.Cuts.{IsCut}
use Rattle.cyc.specs.CitySet.{Members}
use Rattle.certdef.specs.Proofs.{Duals}
use Rattle.certdef.specs.Verdicts as spec
use Rattle.certdef.specs.Verdicts.{Head, OpenDuals, Outcome, go, refused}
use Rattle.certtests.specs.Listed.{to_one, pair_to_one, listed}
use Rattle.certtests.specs.Duals.{AreDuals}
use Rattle.certcheck.specs.Paths.{later}
use Rattle.certcheck.specs.declared.progress.Stage.{Stage}
use Rattle.certcheck.specs.declared.progress.Stage.TheVariants as stages
use Rattle.certcheck.specs.declared.progress.Progress.{Progress}
use Rattle.certcheck.specs.declared.answer.Trouble.{Trouble}
use Rattle.certcheck.specs.declared.answer.Trouble.TheVariants as troubles

-- what was read of the head
abbrev pub head : Progress → Head
head p = record { long = p.long; bound = p.bound; cuts = map listed p.cuts.items }

-- what was read of a leaf
abbrev pub duals : Progress → Duals
duals p = record { cities = p.cities.items; cuts = p.cut_duals.items; conds = p.condition_duals.items }

abbrev pub open_duals : Progress → ℕ → OpenDuals
open_duals p at = record { at = at; path = p.path.conditions; duals = duals p }

-- the cities of the handle of a comb or an odd cut, if it was read, of a comb's teeth, and of an odd cut's pairs, from 1
abbrev pub handle_of : Option Members → List ℕ
handle_of None = []
handle_of (Some s) = to_one s.cities

abbrev pub teeth_of : List Members → List (List ℕ)
teeth_of ts = map (λ t. to_one t.cities) ts

abbrev pub pairs_from : List (ℕ × ℕ) → List (ℕ × ℕ)
pairs_from ps = map pair_to_one ps

abbrev pub stage_at : Progress → Stage → spec.Stage
stage_at p stages.Title = spec.wants_title
stage_at p (stages.Size version) = spec.wants_size version
stage_at p (stages.Length version) = spec.wants_length version
stage_at p stages.Bound = spec.wants_bound p.long
stage_at p stages.Tour = spec.wants_tour p.long p.bound
stage_at p stages.Count = spec.wants_count p.long p.bound
stage_at p (stages.Cut more) = spec.wants_cut (head p) more
stage_at p (stages.Handle more at teeth) = spec.wants_handle (head p) more at teeth
stage_at p (stages.Tooth more at left) = spec.wants_tooth (head p) more at left (handle_of p.handle) (teeth_of p.teeth.items)
stage_at p (stages.OddHandle more at pairs) = spec.wants_odd_handle (head p) more at pairs
stage_at p (stages.Pair more at left) = spec.wants_pair (head p) more at left (handle_of p.handle) (pairs_from p.pairs.items)
stage_at p stages.Tree = spec.wants_trees (head p) (p.path.conditions ∷ later p.path.conditions)
stage_at p stages.End = spec.wants_trees (head p) []
stage_at p (stages.Duals at a b c) = spec.wants_duals (head p) (later p.path.conditions) (open_duals p at) a b c

abbrev pub stage_of : Progress → spec.Stage
stage_of p = stage_at p p.stage

-- a handle of n cities was read
abbrev pub IsHandle : ℕ → Option Members → Type 0
IsHandle n None = ⊥
IsHandle n (Some s) = s.n ≡ n

-- what holds at a stage beside its meaning: where teeth or pairs are wanted a handle was read; where pairs are, there are few so far;
-- where duals are, those so far are within bounds
abbrev pub StandsAt : ℕ → Progress → Stage → Type 0
StandsAt n p stages.Title = Unit {0}
StandsAt n p (stages.Size version) = Unit {0}
StandsAt n p (stages.Length version) = Unit {0}
StandsAt n p stages.Bound = Unit {0}
StandsAt n p stages.Tour = Unit {0}
StandsAt n p stages.Count = Unit {0}
StandsAt n p (stages.Cut more) = Unit {0}
StandsAt n p (stages.Handle more at teeth) = Unit {0}
StandsAt n p (stages.Tooth more at left) = IsHandle n p.handle
StandsAt n p (stages.OddHandle more at pairs) = Unit {0}
StandsAt n p (stages.Pair more at left) = IsHandle n p.handle
StandsAt n p stages.Tree = Unit {0}
StandsAt n p stages.End = Unit {0}
StandsAt n p (stages.Duals at a b c) = AreDuals (length p.cuts.items) p.path.conditions b c (duals p)

-- the path is one of n cities, and each cut is one
pub record IsOf (n : ℕ) (p : Progress) : Type 0 where
  pub path : p.path.n ≡ n
  pub cuts : AllByRecursion (IsCut n) p.cuts.items

pub record Stands (n : ℕ) (p : Progress) : Type 0 where
  pub of : IsOf n p
  pub stage : StandsAt n p p.stage

-- a step went on as the outcome says, unless memory ran out
abbrev pub Goes : {X : Type 0} → ℕ → Result X Trouble → Progress → Outcome → Type 0
Goes n (Ok x) p o = (o ≡ go (stage_of p)) × Stands n p
Goes n (Err troubles.NoMemory) p o = Unit {0}
Goes n (Err (troubles.Refused k at)) p o = o ≡ refused k at
