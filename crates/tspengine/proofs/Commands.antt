-- From how a command ends to how a call of `run` ends.
use Rattle.std.proofs.Common.{◌≡◌, ℕ, ◌<◌, List, [], ◌∷◌, refl, sym, ap, subst, ◌∙◌, ◌⊎◌, inl, inr, Option, arith}
use Rattle.std.specs.Prelude.{codes, true, false}
use Rattle.std.specs.Str.{bytes_eq}
use Rattle.clap.specs.Walk.{Text}
use Rattle.clap.specs.Faults.{fault_of}
use Rattle.ports.specs.Outside.{BothTell, Cause}
use Rattle.ports.specs.Desk.{Told}
use Rattle.tspwords.specs.Laws.{TakenWordsAreGiven}
use Rattle.tspwords.specs.Program.{program, IsTaken, IsCallOf, IsSolveCall, IsVerifyCall, IsTourCall, IsBenchCall, IsReplayCall, IsBoundCall, IsCheckboundCall, instance_word}
use Rattle.verification.specs.Transfers.{TouchesInstance}
use Rattle.verification.specs.Runs.{IsSilent}
use Rattle.verification.proofs.Tells.{both_same}
use Rattle.tspengine.specs.Calls.{Call}
use Rattle.tspengine.specs.Solving.{Solves}
use Rattle.tspengine.specs.Verifying.{paths_of, Verifies}
use Rattle.tspengine.specs.Touring.{Tours}
use Rattle.tspengine.specs.Benching.{Benches}
use Rattle.tspengine.specs.Bounding.{Bounds, ChecksBound, paths_of_bound}
use Rattle.tspengine.specs.Replaying.{Replays}
use Rattle.tspengine.specs.Usages.{Uses}
use Rattle.tspengine.specs.Runs.{Ends, HasCauses}
use Rattle.tspengine.specs.declared.statuses.Status.{Status}
use Rattle.tspengine.specs.declared.statuses.Status.TheVariants as status
use Rattle.tspengine.proofs.InstanceReads.{same_touches}
use Rattle.tspengine.proofs.Solves.{silent_short}

-- words that begin with other letters
apart : (m n : ℕ) (xs ys : List ℕ) → (m < n) ⊎ (n < m) → m ∷ xs ≡ n ∷ ys → ⊥
apart m n xs ys less e = let f : m ≡ n = cc in elim less [ inl p ↦ absurd (omega arith) | inr p ↦ absurd (omega arith) ]

-- no name of a command is another
solve_not_verify : codes "solve" ≡ codes "verify" → ⊥
solve_not_verify e = apart 115 118 (codes "olve") (codes "erify") (inl (omega arith)) e

solve_not_tour : codes "solve" ≡ codes "tour" → ⊥
solve_not_tour e = apart 115 116 (codes "olve") (codes "our") (inl (omega arith)) e

solve_not_bench : codes "solve" ≡ codes "bench" → ⊥
solve_not_bench e = apart 115 98 (codes "olve") (codes "ench") (inr (omega arith)) e

verify_not_tour : codes "verify" ≡ codes "tour" → ⊥
verify_not_tour e = apart 118 116 (codes "erify") (codes "our") (inr (omega arith)) e

verify_not_bench : codes "verify" ≡ codes "bench" → ⊥
verify_not_bench e = apart 118 98 (codes "erify") (codes "ench") (inr (omega arith)) e

tour_not_bench : codes "tour" ≡ codes "bench" → ⊥
tour_not_bench e = apart 116 98 (codes "our") (codes "ench") (inr (omega arith)) e

-- words name one command
solve_or_verify : (words : List Text) → IsSolveCall words → IsVerifyCall words → ⊥
solve_or_verify words a b = solve_not_verify (sym a.named ∙ b.named)

solve_or_tour : (words : List Text) → IsSolveCall words → IsTourCall words → ⊥
solve_or_tour words a b = solve_not_tour (sym a.named ∙ b.named)

solve_or_bench : (words : List Text) → IsSolveCall words → IsBenchCall words → ⊥
solve_or_bench words a b = solve_not_bench (sym a.named ∙ b.named)

verify_or_tour : (words : List Text) → IsVerifyCall words → IsTourCall words → ⊥
verify_or_tour words a b = verify_not_tour (sym a.named ∙ b.named)

verify_or_bench : (words : List Text) → IsVerifyCall words → IsBenchCall words → ⊥
verify_or_bench words a b = verify_not_bench (sym a.named ∙ b.named)

tour_or_bench : (words : List Text) → IsTourCall words → IsBenchCall words → ⊥
tour_or_bench words a b = tour_not_bench (sym a.named ∙ b.named)

-- words that name one command name no other
other_call : (words : List Text) → (a b : Text) → bytes_eq a a ≡ true → bytes_eq a b ≡ false → IsCallOf a words → IsCallOf b words → ⊥
other_call words a b same differ x y = let e : a ≡ b = sym x.named ∙ y.named in let f : true ≡ false = sym same ∙ ap (bytes_eq a) e ∙ differ in cc

pub ends_solve : (s : Status) (c : Call) → IsSolveCall c.words → Solves s c → Ends s c
ends_solve s c call ends = record {
  words = inl call;
  solve = λ _. ends;
  verify = λ other. absurd (solve_or_verify c.words call other);
  tour = λ other. absurd (solve_or_tour c.words call other);
  bench = λ other. absurd (solve_or_bench c.words call other);
  replay = λ other. absurd (other_call c.words (codes "solve") (codes "replay") refl refl call other);
  bound = λ other. absurd (other_call c.words (codes "solve") (codes "bound") refl refl call other);
  checkbound = λ other. absurd (other_call c.words (codes "solve") (codes "checkbound") refl refl call other);
  usage = λ none. absurd (none call.taken);
}

pub ends_verify : (s : Status) (c : Call) → IsVerifyCall c.words → Verifies s c → Ends s c
ends_verify s c call ends = record {
  words = inr (inl call);
  solve = λ other. absurd (solve_or_verify c.words other call);
  verify = λ _. ends;
  tour = λ other. absurd (verify_or_tour c.words call other);
  bench = λ other. absurd (verify_or_bench c.words call other);
  replay = λ other. absurd (other_call c.words (codes "verify") (codes "replay") refl refl call other);
  bound = λ other. absurd (other_call c.words (codes "verify") (codes "bound") refl refl call other);
  checkbound = λ other. absurd (other_call c.words (codes "verify") (codes "checkbound") refl refl call other);
  usage = λ none. absurd (none call.taken);
}

pub ends_tour : (s : Status) (c : Call) → IsTourCall c.words → Tours s c → Ends s c
ends_tour s c call ends = record {
  words = inr (inr (inl call));
  solve = λ other. absurd (solve_or_tour c.words other call);
  verify = λ other. absurd (verify_or_tour c.words other call);
  tour = λ _. ends;
  bench = λ other. absurd (tour_or_bench c.words call other);
  replay = λ other. absurd (other_call c.words (codes "tour") (codes "replay") refl refl call other);
  bound = λ other. absurd (other_call c.words (codes "tour") (codes "bound") refl refl call other);
  checkbound = λ other. absurd (other_call c.words (codes "tour") (codes "checkbound") refl refl call other);
  usage = λ none. absurd (none call.taken);
}

pub ends_bench : (s : Status) (c : Call) → IsBenchCall c.words → Benches s c → Ends s c
ends_bench s c call ends = record {
  words = inr (inr (inr (inl call)));
  solve = λ other. absurd (solve_or_bench c.words other call);
  verify = λ other. absurd (verify_or_bench c.words other call);
  tour = λ other. absurd (tour_or_bench c.words other call);
  bench = λ _. ends;
  replay = λ other. absurd (other_call c.words (codes "bench") (codes "replay") refl refl call other);
  bound = λ other. absurd (other_call c.words (codes "bench") (codes "bound") refl refl call other);
  checkbound = λ other. absurd (other_call c.words (codes "bench") (codes "checkbound") refl refl call other);
  usage = λ none. absurd (none call.taken);
}

pub ends_replay : (s : Status) (c : Call) → IsReplayCall c.words → Replays s c → Ends s c
ends_replay s c call ends = record {
  words = inr (inr (inr (inr (inl call))));
  solve = λ other. absurd (other_call c.words (codes "replay") (codes "solve") refl refl call other);
  verify = λ other. absurd (other_call c.words (codes "replay") (codes "verify") refl refl call other);
  tour = λ other. absurd (other_call c.words (codes "replay") (codes "tour") refl refl call other);
  bench = λ other. absurd (other_call c.words (codes "replay") (codes "bench") refl refl call other);
  replay = λ _. ends;
  bound = λ other. absurd (other_call c.words (codes "replay") (codes "bound") refl refl call other);
  checkbound = λ other. absurd (other_call c.words (codes "replay") (codes "checkbound") refl refl call other);
  usage = λ none. absurd (none call.taken);
}

pub ends_bound : (s : Status) (c : Call) → IsBoundCall c.words → Bounds s c → Ends s c
ends_bound s c call ends = record {
  words = inr (inr (inr (inr (inr (inl call)))));
  solve = λ other. absurd (other_call c.words (codes "bound") (codes "solve") refl refl call other);
  verify = λ other. absurd (other_call c.words (codes "bound") (codes "verify") refl refl call other);
  tour = λ other. absurd (other_call c.words (codes "bound") (codes "tour") refl refl call other);
  bench = λ other. absurd (other_call c.words (codes "bound") (codes "bench") refl refl call other);
  replay = λ other. absurd (other_call c.words (codes "bound") (codes "replay") refl refl call other);
  bound = λ _. ends;
  checkbound = λ other. absurd (other_call c.words (codes "bound") (codes "checkbound") refl refl call other);
  usage = λ none. absurd (none call.taken);
}

pub ends_checkbound : (s : Status) (c : Call) → IsCheckboundCall c.words → ChecksBound s c → Ends s c
ends_checkbound s c call ends = record {
  words = inr (inr (inr (inr (inr (inr (inl call))))));
  solve = λ other. absurd (other_call c.words (codes "checkbound") (codes "solve") refl refl call other);
  verify = λ other. absurd (other_call c.words (codes "checkbound") (codes "verify") refl refl call other);
  tour = λ other. absurd (other_call c.words (codes "checkbound") (codes "tour") refl refl call other);
  bench = λ other. absurd (other_call c.words (codes "checkbound") (codes "bench") refl refl call other);
  replay = λ other. absurd (other_call c.words (codes "checkbound") (codes "replay") refl refl call other);
  bound = λ other. absurd (other_call c.words (codes "checkbound") (codes "bound") refl refl call other);
  checkbound = λ _. ends;
  usage = λ none. absurd (none call.taken);
}

pub ends_usage : (s : Status) (c : Call) → ¬ IsTaken c.words → Uses s c → Ends s c
ends_usage s c none ends = record {
  words = inr (inr (inr (inr (inr (inr (inr none))))));
  solve = λ call. absurd (none call.taken);
  verify = λ call. absurd (none call.taken);
  tour = λ call. absurd (none call.taken);
  bench = λ call. absurd (none call.taken);
  replay = λ call. absurd (none call.taken);
  bound = λ call. absurd (none call.taken);
  checkbound = λ call. absurd (none call.taken);
  usage = λ _. ends;
}

-- ---- words that were not read

empty_or_not : {A : Type 0} (xs : List A) → (xs ≡ []) ⊎ ¬ (xs ≡ [])
empty_or_not [] = inl refl
empty_or_not (x ∷ xs) = inr (λ (e : (x ∷ xs) ≡ []). cc)

which_call : (words : List Text) → TakenWordsAreGiven → IsTaken words → IsSolveCall words ⊎ IsVerifyCall words ⊎ IsTourCall words ⊎ IsBenchCall words ⊎ IsReplayCall words ⊎ IsBoundCall words ⊎ IsCheckboundCall words ⊎ ¬ IsTaken words
which_call words given taken = elim (given words taken) [
  | inl x ↦ inl x.named
  | inr (inl x) ↦ inr (inl x.named)
  | inr (inr (inl x)) ↦ inr (inr (inl x.named))
  | inr (inr (inr (inl x))) ↦ inr (inr (inr (inl x.named)))
  | inr (inr (inr (inr (inl x)))) ↦ inr (inr (inr (inr (inl x.named))))
  | inr (inr (inr (inr (inr (inl x))))) ↦ inr (inr (inr (inr (inr (inl x.named)))))
  | inr (inr (inr (inr (inr (inr x))))) ↦ inr (inr (inr (inr (inr (inr (inl x.named))))))
]

pub which_words : (words : List Text) → TakenWordsAreGiven → IsSolveCall words ⊎ IsVerifyCall words ⊎ IsTourCall words ⊎ IsBenchCall words ⊎ IsReplayCall words ⊎ IsBoundCall words ⊎ IsCheckboundCall words ⊎ ¬ IsTaken words
which_words words given = elim (empty_or_not (fault_of program words)) [
  | inl taken ↦ which_call words given taken
  | inr none ↦ inr (inr (inr (inr (inr (inr (inr none))))))
]

-- ---- who never answers which fault

tour_stores : (s : Status) (c : Call) → Tours s c → s ≡ status.StoreFault → ⊥
tour_stores s c ends f = elim ends [
  | inl (e, x) ↦ let g : status.Toured ≡ status.StoreFault = sym e ∙ f in cc
  | inr (inl (e, x)) ↦ let g : status.BadInstance ≡ status.StoreFault = sym e ∙ f in cc
  | inr (inr (inl (e, x))) ↦ let g : status.ReadFault ≡ status.StoreFault = sym e ∙ f in cc
  | inr (inr (inr (inl (e, x)))) ↦ let g : status.WriteFault ≡ status.StoreFault = sym e ∙ f in cc
  | inr (inr (inr (inr (e, x)))) ↦ let g : status.NoMemory ≡ status.StoreFault = sym e ∙ f in cc
]

bench_stores : (s : Status) (c : Call) → Benches s c → s ≡ status.StoreFault → ⊥
bench_stores s c ends f = elim ends [
  | inl (e, x) ↦ let g : status.Benched ≡ status.StoreFault = sym e ∙ f in cc
  | inr (inl (e, x, l)) ↦ let g : status.BenchStopped ≡ status.StoreFault = sym e ∙ f in cc
  | inr (inr (inl (e, x))) ↦ let g : status.WriteFault ≡ status.StoreFault = sym e ∙ f in cc
  | inr (inr (inr (e, x))) ↦ let g : status.NoMemory ≡ status.StoreFault = sym e ∙ f in cc
]

bench_reads : (s : Status) (c : Call) → Benches s c → s ≡ status.ReadFault → ⊥
bench_reads s c ends f = elim ends [
  | inl (e, x) ↦ let g : status.Benched ≡ status.ReadFault = sym e ∙ f in cc
  | inr (inl (e, x, l)) ↦ let g : status.BenchStopped ≡ status.ReadFault = sym e ∙ f in cc
  | inr (inr (inl (e, x))) ↦ let g : status.WriteFault ≡ status.ReadFault = sym e ∙ f in cc
  | inr (inr (inr (e, x))) ↦ let g : status.NoMemory ≡ status.ReadFault = sym e ∙ f in cc
]

bound_stores : (s : Status) (c : Call) → Bounds s c → s ≡ status.StoreFault → ⊥
bound_stores s c ends f = elim ends [
  | inl (e, x) ↦ let g : status.Bounded ≡ status.StoreFault = sym e ∙ f in cc
  | inr (inl (e, x)) ↦ let g : status.BadInstance ≡ status.StoreFault = sym e ∙ f in cc
  | inr (inr (inl (e, x))) ↦ let g : status.ReadFault ≡ status.StoreFault = sym e ∙ f in cc
  | inr (inr (inr (inl (e, x)))) ↦ let g : status.WriteFault ≡ status.StoreFault = sym e ∙ f in cc
  | inr (inr (inr (inr (e, x)))) ↦ let g : status.NoMemory ≡ status.StoreFault = sym e ∙ f in cc
]

checkbound_stores : (s : Status) (c : Call) → ChecksBound s c → s ≡ status.StoreFault → ⊥
checkbound_stores s c ends f = elim ends [
  | inl (e, x) ↦ let g : status.Checked ≡ status.StoreFault = sym e ∙ f in cc
  | inr (inl (e, x)) ↦ let g : status.BoundRefused ≡ status.StoreFault = sym e ∙ f in cc
  | inr (inr (inl (e, x))) ↦ let g : status.BadInstance ≡ status.StoreFault = sym e ∙ f in cc
  | inr (inr (inr (inl (e, x)))) ↦ let g : status.ReadFault ≡ status.StoreFault = sym e ∙ f in cc
  | inr (inr (inr (inr (inl (e, x))))) ↦ let g : status.WriteFault ≡ status.StoreFault = sym e ∙ f in cc
  | inr (inr (inr (inr (inr (e, x))))) ↦ let g : status.NoMemory ≡ status.StoreFault = sym e ∙ f in cc
]

replay_stores : (s : Status) (c : Call) → Replays s c → s ≡ status.StoreFault → ⊥
replay_stores s c ends f = elim ends [
  | inl (e, x) ↦ let g : status.Replayed ≡ status.StoreFault = sym e ∙ f in cc
  | inr (inl (e, x)) ↦ let g : status.BadTape ≡ status.StoreFault = sym e ∙ f in cc
  | inr (inr (inl (e, x))) ↦ let g : status.BadInstance ≡ status.StoreFault = sym e ∙ f in cc
  | inr (inr (inr (inl (e, x)))) ↦ let g : status.ReadFault ≡ status.StoreFault = sym e ∙ f in cc
  | inr (inr (inr (inr (inl (e, x))))) ↦ let g : status.WriteFault ≡ status.StoreFault = sym e ∙ f in cc
  | inr (inr (inr (inr (inr (e, x))))) ↦ let g : status.NoMemory ≡ status.StoreFault = sym e ∙ f in cc
]

usage_stores : (s : Status) (c : Call) → Uses s c → s ≡ status.StoreFault → ⊥
usage_stores s c ends f = elim ends [
  | inl (e, x) ↦ let g : status.Usage ≡ status.StoreFault = sym e ∙ f in cc
  | inr (inl (e, x)) ↦ let g : status.WriteFault ≡ status.StoreFault = sym e ∙ f in cc
  | inr (inr (e, x)) ↦ let g : status.NoMemory ≡ status.StoreFault = sym e ∙ f in cc
]

usage_reads : (s : Status) (c : Call) → Uses s c → s ≡ status.ReadFault → ⊥
usage_reads s c ends f = elim ends [
  | inl (e, x) ↦ let g : status.Usage ≡ status.ReadFault = sym e ∙ f in cc
  | inr (inl (e, x)) ↦ let g : status.WriteFault ≡ status.ReadFault = sym e ∙ f in cc
  | inr (inr (e, x)) ↦ let g : status.NoMemory ≡ status.ReadFault = sym e ∙ f in cc
]

verify_stores : (s : Status) (c : Call) → Verifies s c → s ≡ status.StoreFault → ⊥
verify_stores s c ends f = elim ends.desk [
  | inl (e, x) ↦ let g : status.Verified ≡ status.StoreFault = sym e ∙ f in cc
  | inr (inl (e, x)) ↦ let g : status.VerifiedWithin ≡ status.StoreFault = sym e ∙ f in cc
  | inr (inr (inl (e, x))) ↦ let g : status.Refused ≡ status.StoreFault = sym e ∙ f in cc
  | inr (inr (inr (inl (e, x)))) ↦ let g : status.BadInstance ≡ status.StoreFault = sym e ∙ f in cc
  | inr (inr (inr (inr (inl (e, x))))) ↦ let g : status.ReadFault ≡ status.StoreFault = sym e ∙ f in cc
  | inr (inr (inr (inr (inr (inl (e, x)))))) ↦ let g : status.WriteFault ≡ status.StoreFault = sym e ∙ f in cc
  | inr (inr (inr (inr (inr (inr (e, x)))))) ↦ let g : status.NoMemory ≡ status.StoreFault = sym e ∙ f in cc
]

-- ---- causes

-- a fault that is never answered, by a count that stays
quiet : (failed : Type 0) (before after : ℕ) → after ≡ before → (failed → ⊥) → Cause failed before after
quiet failed before after same never = record { later = omega arith; rose = λ e. absurd (never e) }

pub causes_solve : (s : Status) (c : Call) → IsSolveCall c.words → Cause (s ≡ status.ReadFault) c.before.read_faults c.after.read_faults
    → Cause (s ≡ status.WriteFault) c.before.write_faults c.after.write_faults → Cause (s ≡ status.StoreFault) c.before.store_faults c.after.store_faults → HasCauses s c
causes_solve s c call reads writes store = record { reads = reads; writes = writes; store = store; other_stores = λ no. absurd (no call) }

pub causes_verify : (s : Status) (c : Call) → Verifies s c → c.after.store_faults ≡ c.before.store_faults
    → Cause (s ≡ status.ReadFault) c.before.read_faults c.after.read_faults → Cause (s ≡ status.WriteFault) c.before.write_faults c.after.write_faults → HasCauses s c
causes_verify s c ends same reads writes = record {
  reads = reads;
  writes = writes;
  store = quiet (s ≡ status.StoreFault) c.before.store_faults c.after.store_faults same (verify_stores s c ends);
  other_stores = λ _. same;
}

pub causes_tour : (s : Status) (c : Call) → Tours s c → c.after.store_faults ≡ c.before.store_faults
    → Cause (s ≡ status.ReadFault) c.before.read_faults c.after.read_faults → Cause (s ≡ status.WriteFault) c.before.write_faults c.after.write_faults → HasCauses s c
causes_tour s c ends same reads writes = record {
  reads = reads;
  writes = writes;
  store = quiet (s ≡ status.StoreFault) c.before.store_faults c.after.store_faults same (tour_stores s c ends);
  other_stores = λ _. same;
}

pub causes_bench : (s : Status) (c : Call) → Benches s c → c.after.store_faults ≡ c.before.store_faults → c.after.read_faults ≡ c.before.read_faults
    → Cause (s ≡ status.WriteFault) c.before.write_faults c.after.write_faults → HasCauses s c
causes_bench s c ends same unread writes = record {
  reads = quiet (s ≡ status.ReadFault) c.before.read_faults c.after.read_faults unread (bench_reads s c ends);
  writes = writes;
  store = quiet (s ≡ status.StoreFault) c.before.store_faults c.after.store_faults same (bench_stores s c ends);
  other_stores = λ _. same;
}

pub causes_bound : (s : Status) (c : Call) → Bounds s c → c.after.store_faults ≡ c.before.store_faults
    → Cause (s ≡ status.ReadFault) c.before.read_faults c.after.read_faults → Cause (s ≡ status.WriteFault) c.before.write_faults c.after.write_faults → HasCauses s c
causes_bound s c ends same reads writes = record {
  reads = reads;
  writes = writes;
  store = quiet (s ≡ status.StoreFault) c.before.store_faults c.after.store_faults same (bound_stores s c ends);
  other_stores = λ _. same;
}

pub causes_checkbound : (s : Status) (c : Call) → ChecksBound s c → c.after.store_faults ≡ c.before.store_faults
    → Cause (s ≡ status.ReadFault) c.before.read_faults c.after.read_faults → Cause (s ≡ status.WriteFault) c.before.write_faults c.after.write_faults → HasCauses s c
causes_checkbound s c ends same reads writes = record {
  reads = reads;
  writes = writes;
  store = quiet (s ≡ status.StoreFault) c.before.store_faults c.after.store_faults same (checkbound_stores s c ends);
  other_stores = λ _. same;
}

pub causes_replay : (s : Status) (c : Call) → Replays s c → c.after.store_faults ≡ c.before.store_faults
    → Cause (s ≡ status.ReadFault) c.before.read_faults c.after.read_faults → Cause (s ≡ status.WriteFault) c.before.write_faults c.after.write_faults → HasCauses s c
causes_replay s c ends same reads writes = record {
  reads = reads;
  writes = writes;
  store = quiet (s ≡ status.StoreFault) c.before.store_faults c.after.store_faults same (replay_stores s c ends);
  other_stores = λ _. same;
}

pub causes_usage : (s : Status) (c : Call) → Uses s c → c.after.store_faults ≡ c.before.store_faults → c.after.read_faults ≡ c.before.read_faults
    → Cause (s ≡ status.WriteFault) c.before.write_faults c.after.write_faults → HasCauses s c
causes_usage s c ends same unread writes = record {
  reads = quiet (s ≡ status.ReadFault) c.before.read_faults c.after.read_faults unread (usage_reads s c ends);
  writes = writes;
  store = quiet (s ≡ status.StoreFault) c.before.store_faults c.after.store_faults same (usage_stores s c ends);
  other_stores = λ _. same;
}

-- ---- want of memory for the words

-- nothing was done
pub record IsIdle (c : Call) : Type 0 where
  pub desk : c.after.desk ≡ c.before.desk
  pub slots : c.after.slots ≡ c.before.slots
  pub moments : c.after.moments ≡ c.before.moments
  pub reads : c.after.read_faults ≡ c.before.read_faults
  pub writes : c.after.write_faults ≡ c.before.write_faults
  pub stores : c.after.store_faults ≡ c.before.store_faults

pub causes_idle : (c : Call) → IsIdle c → HasCauses status.NoMemory c
causes_idle c idle = record {
  reads = quiet (status.NoMemory ≡ status.ReadFault) c.before.read_faults c.after.read_faults idle.reads (λ (e : status.NoMemory ≡ status.ReadFault). cc);
  writes = quiet (status.NoMemory ≡ status.WriteFault) c.before.write_faults c.after.write_faults idle.writes (λ (e : status.NoMemory ≡ status.WriteFault). cc);
  store = quiet (status.NoMemory ≡ status.StoreFault) c.before.store_faults c.after.store_faults idle.stores (λ (e : status.NoMemory ≡ status.StoreFault). cc);
  other_stores = λ _. idle.stores;
}

untouched : (c : Call) → IsIdle c → BothTell (TouchesInstance (instance_word c.words)) c.before.desk c.after.desk
untouched c idle = subst (λ (x : Option Told). BothTell (TouchesInstance (instance_word c.words)) c.before.desk x) (sym idle.desk) (same_touches (instance_word c.words) c.before.desk)

verify_idle : (c : Call) → IsIdle c → Verifies status.NoMemory c
verify_idle c idle = record {
  desk = inr (inr (inr (inr (inr (inr (refl, both_same (IsSilent (paths_of c.words)) (λ (t : Told). inl refl) c.before.desk c.after.desk idle.desk))))));
  slots = idle.slots;
}

pub ends_idle : (c : Call) → TakenWordsAreGiven → IsIdle c → Ends status.NoMemory c
ends_idle c given idle = elim (which_words c.words given) [
  | inl call ↦ ends_solve status.NoMemory c call (silent_short c (untouched c idle) idle.slots idle.moments)
  | inr (inl call) ↦ ends_verify status.NoMemory c call (verify_idle c idle)
  | inr (inr (inl call)) ↦ ends_tour status.NoMemory c call (inr (inr (inr (inr (refl, record { desk = untouched c idle; slots = idle.slots })))))
  | inr (inr (inr (inl call))) ↦ ends_bench status.NoMemory c call (inr (inr (inr (refl, record { desk = idle.desk; slots = idle.slots }))))
  | inr (inr (inr (inr (inl call)))) ↦ ends_replay status.NoMemory c call (inr (inr (inr (inr (inr (refl, inl (record { desk = untouched c idle; slots = idle.slots })))))))
  | inr (inr (inr (inr (inr (inl call))))) ↦ ends_bound status.NoMemory c call (inr (inr (inr (inr (refl, inl (record { desk = untouched c idle; slots = idle.slots }))))))
  | inr (inr (inr (inr (inr (inr (inl call)))))) ↦ ends_checkbound status.NoMemory c call (inr (inr (inr (inr (inr (
    refl,
    record {
      desk = both_same (IsSilent (paths_of_bound c.words)) (λ (t : Told). inl refl) c.before.desk c.after.desk idle.desk;
      slots = idle.slots;
    },
  ))))))
  | inr (inr (inr (inr (inr (inr (inr none)))))) ↦ ends_usage status.NoMemory c none (inr (inr (refl, record { desk = idle.desk; slots = idle.slots })))
]
