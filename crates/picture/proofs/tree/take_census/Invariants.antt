use Rattle.std.proofs.Common.{◌≡◌, ◌≤◌, take}
use Rattle.std.specs.List.{count_by}
use Rattle.picture.specs.Trees.{is_open, is_closed, is_split}
use Rattle.picture.proofs.tree.take_census.Given as goal

abbrev pub invariant-loop-place : goal.invariant-loop-place
invariant-loop-place l = record {
  open_now : l.census.open ≡ count_by is_open (take l.place l.nodes);
  closed_now : l.census.closed ≡ count_by is_closed (take l.place l.nodes);
  split_now : l.census.split ≡ count_by is_split (take l.place l.nodes);
  few_open : l.census.open ≤ l.place;
  few_closed : l.census.closed ≤ l.place;
  few_split : l.census.split ≤ l.place;
}
