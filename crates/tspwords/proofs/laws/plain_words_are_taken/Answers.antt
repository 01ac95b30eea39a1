use Rattle.tspwords.proofs.Gaps.{resume_taken, gaps_taken, resume_budgets_taken, gaps_budgets_taken}
use Rattle.tspwords.proofs.Grunts.{grunts_taken, lose_taken, twice_taken, late_taken}
use Rattle.tspwords.proofs.Options.{both_taken}
use Rattle.tspwords.proofs.PlainWords.{paths_taken, budgets_taken, seeds_taken, verify_taken, tour_taken, tour_seeds_taken, verifier_words_taken}
use Rattle.tspwords.proofs.Positionals.{bench_taken}
use Rattle.tspwords.proofs.Replays.{replay_taken, replay_budget_taken, replay_grunts_taken, bound_taken, steps_taken, checkbound_taken}
use Rattle.tspwords.proofs.laws.plain_words_are_taken.Goals as goal

pub returns-clause-paths : goal.returns-clause-paths
returns-clause-paths c = paths_taken

pub returns-clause-budgets : goal.returns-clause-budgets
returns-clause-budgets c = budgets_taken

pub returns-clause-seeds : goal.returns-clause-seeds
returns-clause-seeds c = seeds_taken

pub returns-clause-both : goal.returns-clause-both
returns-clause-both c = both_taken

pub returns-clause-resume : goal.returns-clause-resume
returns-clause-resume c = resume_taken

pub returns-clause-gaps : goal.returns-clause-gaps
returns-clause-gaps c = gaps_taken

pub returns-clause-resume_budgets : goal.returns-clause-resume_budgets
returns-clause-resume_budgets c = resume_budgets_taken

pub returns-clause-gaps_budgets : goal.returns-clause-gaps_budgets
returns-clause-gaps_budgets c = gaps_budgets_taken

pub returns-clause-verify : goal.returns-clause-verify
returns-clause-verify c = verify_taken

pub returns-clause-tour : goal.returns-clause-tour
returns-clause-tour c = tour_taken

pub returns-clause-tour_seeds : goal.returns-clause-tour_seeds
returns-clause-tour_seeds c = tour_seeds_taken

pub returns-clause-bench : goal.returns-clause-bench
returns-clause-bench c = bench_taken

pub returns-clause-verifier : goal.returns-clause-verifier
returns-clause-verifier c = verifier_words_taken

pub returns-clause-grunts : goal.returns-clause-grunts
returns-clause-grunts c = grunts_taken

pub returns-clause-lose : goal.returns-clause-lose
returns-clause-lose c = lose_taken

pub returns-clause-twice : goal.returns-clause-twice
returns-clause-twice c = twice_taken

pub returns-clause-late : goal.returns-clause-late
returns-clause-late c = late_taken

pub returns-clause-replay : goal.returns-clause-replay
returns-clause-replay c = replay_taken

pub returns-clause-replay_budgets : goal.returns-clause-replay_budgets
returns-clause-replay_budgets c = replay_budget_taken

pub returns-clause-replay_grunts : goal.returns-clause-replay_grunts
returns-clause-replay_grunts c = replay_grunts_taken

pub returns-clause-bound : goal.returns-clause-bound
returns-clause-bound c = bound_taken

pub returns-clause-steps : goal.returns-clause-steps
returns-clause-steps c = steps_taken

pub returns-clause-checkbound : goal.returns-clause-checkbound
returns-clause-checkbound c = checkbound_taken
