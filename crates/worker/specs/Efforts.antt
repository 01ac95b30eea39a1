-- What work costs.
use Rattle.std.specs.Prelude.{ℕ, ◌+◌, ◌-◌, ◌^◌, min, max}
use Rattle.worker.specs.declared.effort.Effort.{Effort}

-- a count that stands still at its type's end
abbrev pub capped : ℕ → ℕ
capped k = min k (2 ^ 64 - 1)

-- what both cost
abbrev pub together : Effort → Effort → Effort
together a b = record {
  closed = capped (a.closed + b.closed);
  split = capped (a.split + b.split);
  programs = capped (a.programs + b.programs);
  rounds = capped (a.rounds + b.rounds);
  most_rounds = max a.most_rounds b.most_rounds;
  pivots = capped (a.pivots + b.pivots);
  subtours = capped (a.subtours + b.subtours);
  blossoms = capped (a.blossoms + b.blossoms);
  combs = capped (a.combs + b.combs);
  columns = capped (a.columns + b.columns);
}
