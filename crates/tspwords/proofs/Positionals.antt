-- `bench`, whose words are numbers and a path. A word is used where the next one comes, so the walk over the words is taken in
-- steps.
use Rattle.std.proofs.Common.{◌≡◌, Bool, true, false, cond, List, [], ◌∷◌, codes, fold, refl, sym, ap, subst, ◌∙◌, Some, None}
use Rattle.clap.specs.Kinds.{or_else}
use Rattle.clap.specs.Faults.{level_fault, turn_fault, walk_fault}
use Rattle.clap.specs.Simple.{Shape}
use Rattle.clap.specs.Walk.{Text, Walk, idle, nothing_held, walk, walk_from, walked}
use Rattle.clap.specs.ValueTests.{is_unsigned_in}
use Rattle.clap.specs.declared.error.kind.ErrorKind.TheVariants as kind
use Rattle.clap.proofs.OnLiterals.{clap_on_literals}
use Rattle.tspwords.specs.Program.{IsTaken, command_word, rows_of_words, most_budget, least_cities, most_cities, most_seed}
use Rattle.tspwords.specs.Laws.{IsPlain, BenchIsTaken}
use Rattle.tspwords.proofs.Numbers.{in_unsigned}
use Rattle.tspwords.proofs.Options.{end_fault, level_free}
use Rattle.tspwords.proofs.PlainWords.{given, not_dashes, not_long, not_short, number_is_plain}
use Rattle.tspwords.proofs.Taken.{bench_built}

-- a word at which nothing goes wrong, and the words after it
walk_on : (s : Shape) (w after : Walk) (word : Text) (rest : List Text) → turn_fault s [] w word ≡ [] → walked s.rules [] w word ≡ after → walk_fault s [] after rest ≡ []
    → walk_fault s [] w (word ∷ rest) ≡ []
unfolding walk_fault
walk_on s w after word rest turn step free =
    subst (λ k. or_else k (walk_fault s [] (walked s.rules [] w word) rest) ≡ []) (sym turn) (subst (λ x. walk_fault s [] x rest ≡ []) (sym step) free)

-- after the seed's word
abbrev at_seed : Text → Walk
at_seed a = record {
  held = record { rows = []; pending = Some (codes "seed", a ∷ []); skip = 0 };
  waiting = idle;
  position = 2;
  is_trailing = false;
  stopped = None;
}

-- after the word of the cities
abbrev at_cities : Text → Text → Walk
at_cities a b = record {
  held = record { rows = given (codes "seed") a ∷ []; pending = Some (codes "cities", b ∷ []); skip = 0 };
  waiting = idle;
  position = 3;
  is_trailing = false;
  stopped = None;
}

-- after the budget's word
abbrev at_budget : Text → Text → Text → Walk
at_budget a b c = record {
  held = record { rows = given (codes "seed") a ∷ given (codes "cities") b ∷ []; pending = Some (codes "budget", c ∷ []); skip = 0 };
  waiting = idle;
  position = 4;
  is_trailing = false;
  stopped = None;
}

-- after the path
abbrev at_out : Text → Text → Text → Text → Walk
at_out a b c d = record {
  held = record { rows = given (codes "seed") a ∷ given (codes "cities") b ∷ given (codes "budget") c ∷ []; pending = Some (codes "out", d ∷ []); skip = 0 };
  waiting = idle;
  position = 5;
  is_trailing = false;
  stopped = None;
}

to_seed : (a : Text) → IsPlain a → walked bench_built.rules [] (walk_from nothing_held) a ≡ at_seed a
unfolding clap_on_literals
to_seed a pa = rw (not_dashes a pa, not_long a pa, not_short a pa) refl

to_cities : (a b : Text) → IsPlain b → walked bench_built.rules [] (at_seed a) b ≡ at_cities a b
unfolding clap_on_literals
to_cities a b pb = rw (not_dashes b pb, not_long b pb, not_short b pb) refl

to_budget : (a b c : Text) → IsPlain c → walked bench_built.rules [] (at_cities a b) c ≡ at_budget a b c
unfolding clap_on_literals
to_budget a b c pc = rw (not_dashes c pc, not_long c pc, not_short c pc) refl

to_out : (a b c d : Text) → IsPlain d → walked bench_built.rules [] (at_budget a b c) d ≡ at_out a b c d
unfolding clap_on_literals
to_out a b c d pd = rw (not_dashes d pd, not_long d pd, not_short d pd) refl

free_to_seed : (a : Text) → IsPlain a → turn_fault bench_built [] (walk_from nothing_held) a ≡ []
unfolding clap_on_literals
free_to_seed a pa = rw (not_dashes a pa, not_long a pa, not_short a pa) refl

free_to_cities : (a b : Text) → is_unsigned_in 0 most_seed a ≡ true → IsPlain b → turn_fault bench_built [] (at_seed a) b ≡ []
unfolding clap_on_literals
free_to_cities a b is pb =
    rw (not_dashes b pb, not_long b pb, not_short b pb) (subst (λ (x : Bool). or_else (cond x [] (kind.ValueValidation ∷ [])) [] ≡ []) (sym is) refl)

free_to_budget : (a b c : Text) → is_unsigned_in least_cities most_cities b ≡ true → IsPlain c → turn_fault bench_built [] (at_cities a b) c ≡ []
unfolding clap_on_literals
free_to_budget a b c is pc =
    rw (not_dashes c pc, not_long c pc, not_short c pc) (subst (λ (x : Bool). or_else (cond x [] (kind.ValueValidation ∷ [])) [] ≡ []) (sym is) refl)

free_to_out : (a b c d : Text) → is_unsigned_in 0 most_budget c ≡ true → IsPlain d → turn_fault bench_built [] (at_budget a b c) d ≡ []
unfolding clap_on_literals
free_to_out a b c d is pd =
    rw (not_dashes d pd, not_long d pd, not_short d pd) (subst (λ (x : Bool). or_else (cond x [] (kind.ValueValidation ∷ [])) [] ≡ []) (sym is) refl)

none_left : (w : Walk) → walk_fault bench_built [] w [] ≡ []
unfolding walk_fault
none_left w = refl

end_free : (a b c d : Text) → end_fault bench_built (at_out a b c d).held ≡ []
unfolding clap_on_literals
end_free a b c d = refl

walk_free : (a b c d : Text) → IsPlain a → IsPlain b → IsPlain c → IsPlain d → is_unsigned_in 0 most_seed a ≡ true → is_unsigned_in least_cities most_cities b ≡ true → is_unsigned_in 0 most_budget c ≡ true
    → walk_fault bench_built [] (walk_from nothing_held) (a ∷ b ∷ c ∷ d ∷ []) ≡ []
walk_free a b c d pa pb pc pd is_a is_b is_c =
    walk_on bench_built (walk_from nothing_held) (at_seed a) a (b ∷ c ∷ d ∷ []) (free_to_seed a pa) (to_seed a pa)
    (walk_on bench_built (at_seed a) (at_cities a b) b (c ∷ d ∷ []) (free_to_cities a b is_a pb) (to_cities a b pb)
    (walk_on bench_built (at_cities a b) (at_budget a b c) c (d ∷ []) (free_to_budget a b c is_b pc) (to_budget a b c pc)
    (walk_on bench_built (at_budget a b c) (at_out a b c d) d [] (free_to_out a b c d is_c pd) (to_out a b c d pd) (none_left (at_out a b c d)))))

walk_ends : (a b c d : Text) → IsPlain a → IsPlain b → IsPlain c → IsPlain d → walk bench_built.rules [] nothing_held (a ∷ b ∷ c ∷ d ∷ []) ≡ at_out a b c d
walk_ends a b c d pa pb pc pd =
    ap (λ w. fold (walked bench_built.rules []) w (b ∷ c ∷ d ∷ [])) (to_seed a pa)
    ∙ ap (λ w. fold (walked bench_built.rules []) w (c ∷ d ∷ [])) (to_cities a b pb)
    ∙ ap (λ w. walked bench_built.rules [] w d) (to_budget a b c pc)
    ∙ to_out a b c d pd

bench_level : (a b c d : Text) → IsPlain a → IsPlain b → IsPlain c → IsPlain d → is_unsigned_in 0 most_seed a ≡ true → is_unsigned_in least_cities most_cities b ≡ true → is_unsigned_in 0 most_budget c ≡ true
    → level_fault bench_built [] nothing_held (a ∷ b ∷ c ∷ d ∷ []) false [] ≡ []
bench_level a b c d pa pb pc pd is_a is_b is_c =
    level_free bench_built (a ∷ b ∷ c ∷ d ∷ []) (at_out a b c d) (walk_free a b c d pa pb pc pd is_a is_b is_c) (walk_ends a b c d pa pb pc pd) (end_free a b c d)

bench_fault_free : (name a b c d : Text) → IsPlain a → IsPlain b → IsPlain c → IsPlain d → is_unsigned_in 0 most_seed a ≡ true → is_unsigned_in least_cities most_cities b ≡ true → is_unsigned_in 0 most_budget c ≡ true
    → IsTaken (name ∷ codes "bench" ∷ a ∷ b ∷ c ∷ d ∷ [])
unfolding clap_on_literals
bench_fault_free name a b c d pa pb pc pd is_a is_b is_c = ap (λ k. or_else k []) (bench_level a b c d pa pb pc pd is_a is_b is_c)

bench_rows_are : (name a b c d : Text) → IsPlain a → IsPlain b → IsPlain c → IsPlain d
    → rows_of_words (name ∷ codes "bench" ∷ a ∷ b ∷ c ∷ d ∷ []) ≡ given (codes "seed") a ∷ given (codes "cities") b ∷ given (codes "budget") c ∷ given (codes "out") d ∷ []
unfolding clap_on_literals
bench_rows_are name a b c d pa pb pc pd =
    rw (not_dashes a pa, not_long a pa, not_short a pa, not_dashes b pb, not_long b pb, not_short b pb, not_dashes c pc, not_long c pc, not_short c pc, not_dashes d pd, not_long d pd, not_short d pd) refl

named_bench : (name a b c d : Text) → command_word (name ∷ codes "bench" ∷ a ∷ b ∷ c ∷ d ∷ []) ≡ codes "bench"
unfolding clap_on_literals
named_bench name a b c d = refl

pub bench_taken : BenchIsTaken
bench_taken name a b c d fits_a fits_b fits_c pd =
    let pa = number_is_plain 0 most_seed a fits_a in
    let pb = number_is_plain least_cities most_cities b fits_b in
    let pc = number_is_plain 0 most_budget c fits_c in
    let is_a = in_unsigned 0 most_seed a fits_a in
    let is_b = in_unsigned least_cities most_cities b fits_b in
    let is_c = in_unsigned 0 most_budget c fits_c in
    let rows = bench_rows_are name a b c d pa pb pc pd in record {
      call = record { taken = bench_fault_free name a b c d pa pb pc pd is_a is_b is_c; named = named_bench name a b c d };
      seed_is = rw rows refl;
      cities_is = rw rows refl;
      budget_is = rw rows refl;
      out_is = rw rows refl;
    }
