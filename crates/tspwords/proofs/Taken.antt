-- What words that are taken give.
use Rattle.std.proofs.Common.{◌≡◌, ◌<◌, ◌||◌, ◌⊎◌, ℕ, Bool, true, false, cond, List, [], ◌∷◌, ◌++◌, length, fold, refl, sym, ap, subst, ◌∙◌, arith, not, inl, inr, Option, Some, None, is_some, codes}
use Rattle.std.specs.Prelude.{find, slice_get, unwrap_or, option_and_then, option_map}
use Rattle.std.specs.Option.{option_map_or}
use Rattle.std.specs.List.{list_any, slice_index_or}
use Rattle.std.specs.Str.{bytes_eq}
use Rattle.std.proofs.lemmas.Slice.Eq.{bytes_eq-Decides}
use Rattle.clap.specs.Facts.{explicit_source, parser_of_value}
use Rattle.clap.specs.Kinds.{Kinds, check_kinds, or_else, value_kinds, values_kinds}
use Rattle.clap.specs.Values.{refused_kind}
use Rattle.clap.specs.ValueTests.{accepts, is_unsigned_in}
use Rattle.clap.specs.Walk.{Row, Rule, Text, answers_to, arg_by_id, default_rows, finished, first_of, has_row, more_values, nothing_held, reading_by, rows_after, settled, walk, with_default, with_values}
use Rattle.clap.specs.Simple.{Shape, argument_words, matches_of, subcommand_of, built, built_leaf, entered, help_rule, inherited, label_of, names_of, rows_at}
use Rattle.clap.specs.Takes.{is_given}
use Rattle.clap.specs.Faults.{check_fault, entered_fault, level_fault, values_fault}
use Rattle.clap.specs.declared.builder.value_parser.Reading.{Reading}
use Rattle.clap.specs.declared.builder.value_parser.ValueParser.TheVariants as parser
use Rattle.clap.specs.declared.parser.matches.ValueSource.{ValueSource}
use Rattle.clap.specs.declared.parser.matches.ValueSource.TheVariants.{DefaultValue}
use Rattle.tspwords.specs.Program.{program, verifier, IsTaken, IsVerifierCall, word_in, word_for, most_budget, least_cities, most_cities, most_seed, most_gap, least_grunts, most_grunts, most_lose, most_steps, solve_shape, verify_shape, tour_shape, bench_shape, replay_shape, bound_shape, checkbound_shape}
use Rattle.tspwords.specs.Laws.{TakenWordsAreGiven, VerifierWordsAreGiven}
use Rattle.tspwords.proofs.Numbers.{unsigned_in}
use Rattle.tspwords.proofs.Given.{Each, IsGood, ArePlain, IsFound, first_free, level_found}

-- `solve` as the parser has it
abbrev pub solve_built : Shape
solve_built = built_leaf (inherited (built program).top solve_shape)

-- `verify` as the parser has it
abbrev pub verify_built : Shape
verify_built = built_leaf (inherited (built program).top verify_shape)

-- `tour` as the parser has it
abbrev pub tour_built : Shape
tour_built = built_leaf (inherited (built program).top tour_shape)

-- `bench` as the parser has it
abbrev pub bench_built : Shape
bench_built = built_leaf (inherited (built program).top bench_shape)

-- `replay` as the parser has it
abbrev pub replay_built : Shape
replay_built = built_leaf (inherited (built program).top replay_shape)

-- `bound` as the parser has it
abbrev pub bound_built : Shape
bound_built = built_leaf (inherited (built program).top bound_shape)

-- `checkbound` as the parser has it
abbrev pub checkbound_built : Shape
checkbound_built = built_leaf (inherited (built program).top checkbound_shape)

subs_are : (built program).subs ≡ solve_built ∷ verify_built ∷ tour_built ∷ bench_built ∷ replay_built ∷ bound_built ∷ checkbound_built ∷ []
subs_are = refl

-- the verifier as the parser has it
abbrev pub verifier_built : Shape
verifier_built = (built verifier).top

solve_plain : ArePlain solve_built.rules
solve_plain = (record { own = refl; kind = inl (record { set = refl; least = refl; most = refl }) }, (record { own = refl; kind = inl (record { set = refl; least = refl; most = refl }) }, (record { own = refl; kind = inl (record { set = refl; least = refl; most = refl }) }, (record { own = refl; kind = inl (record { set = refl; least = refl; most = refl }) }, (record { own = refl; kind = inl (record { set = refl; least = refl; most = refl }) }, (record { own = refl; kind = inr (inr (record { set = refl; least = refl; most = refl; some = omega arith })) }, (record { own = refl; kind = inl (record { set = refl; least = refl; most = refl }) }, (record { own = refl; kind = inl (record { set = refl; least = refl; most = refl }) }, (record { own = refl; kind = inl (record { set = refl; least = refl; most = refl }) }, (record { own = refl; kind = inr (inr (record { set = refl; least = refl; most = refl; some = omega arith })) }, (record { own = refl; kind = inr (inr (record { set = refl; least = refl; most = refl; some = omega arith })) }, (record { own = refl; kind = inr (inl refl) }, tt))))))))))))

verify_plain : ArePlain verify_built.rules
verify_plain = (record { own = refl; kind = inl (record { set = refl; least = refl; most = refl }) }, (record { own = refl; kind = inl (record { set = refl; least = refl; most = refl }) }, (record { own = refl; kind = inr (inl refl) }, tt)))

tour_plain : ArePlain tour_built.rules
tour_plain = (record { own = refl; kind = inl (record { set = refl; least = refl; most = refl }) }, (record { own = refl; kind = inl (record { set = refl; least = refl; most = refl }) }, (record { own = refl; kind = inr (inl refl) }, tt)))

bench_plain : ArePlain bench_built.rules
bench_plain = (record { own = refl; kind = inl (record { set = refl; least = refl; most = refl }) }, (record { own = refl; kind = inl (record { set = refl; least = refl; most = refl }) }, (record { own = refl; kind = inl (record { set = refl; least = refl; most = refl }) }, (record { own = refl; kind = inl (record { set = refl; least = refl; most = refl }) }, (record { own = refl; kind = inr (inl refl) }, tt)))))

replay_plain : ArePlain replay_built.rules
replay_plain = (record { own = refl; kind = inl (record { set = refl; least = refl; most = refl }) }, (record { own = refl; kind = inl (record { set = refl; least = refl; most = refl }) }, (record { own = refl; kind = inl (record { set = refl; least = refl; most = refl }) }, (record { own = refl; kind = inl (record { set = refl; least = refl; most = refl }) }, (record { own = refl; kind = inr (inl refl) }, tt)))))

bound_plain : ArePlain bound_built.rules
bound_plain = (record { own = refl; kind = inl (record { set = refl; least = refl; most = refl }) }, (record { own = refl; kind = inl (record { set = refl; least = refl; most = refl }) }, (record { own = refl; kind = inl (record { set = refl; least = refl; most = refl }) }, (record { own = refl; kind = inr (inl refl) }, tt))))

checkbound_plain : ArePlain checkbound_built.rules
checkbound_plain = (record { own = refl; kind = inl (record { set = refl; least = refl; most = refl }) }, (record { own = refl; kind = inl (record { set = refl; least = refl; most = refl }) }, (record { own = refl; kind = inr (inl refl) }, tt)))

verifier_plain : ArePlain verifier_built.rules
verifier_plain = (record { own = refl; kind = inl (record { set = refl; least = refl; most = refl }) }, (record { own = refl; kind = inl (record { set = refl; least = refl; most = refl }) }, (record { own = refl; kind = inr (inl refl) }, tt)))

-- ---- a word that has to be there

find_good : (c : List Rule) (id : Text) (rows : List Row) (r : Row) → Each (IsGood c) rows → find (λ r. bytes_eq r.id id) rows ≡ Some r → IsGood c r × (r.id ≡ id)
find_good c id [] r good e = cc
find_good c id (x ∷ xs) r good e = go (bytes_eq x.id id) refl e (λ f. find_good c id xs r good.1 f)
  where
    go : (b : Bool) → bytes_eq x.id id ≡ b → cond b (Some x) (find (λ r. bytes_eq r.id id) xs) ≡ Some r → (find (λ r. bytes_eq r.id id) xs ≡ Some r → IsGood c r × (r.id ≡ id)) → IsGood c r × (r.id ≡ id)
    go true is f rest = let same : x ≡ r = cc in (subst (IsGood c) same good.0, ap (λ y. y.id) (sym same) ∙ (bytes_eq-Decides x.id id).0 is)
    go false is f rest = rest f

-- the first value of a good row
record HasWord (c : List Rule) (id : Text) (rows : List Row) (a : Rule) : Type 0 where
  word : Text
  first : first_of id rows ≡ Some word
  passes : accepts a.ignore_case (parser_of_value a.parser) word ≡ true

passed : (a : Rule) (v : Text) (vs : List Text) → values_fault a (v ∷ vs) ≡ [] → accepts a.ignore_case (parser_of_value a.parser) v ≡ true
passed a v vs e = go (accepts a.ignore_case (parser_of_value a.parser) v) refl (first_free (value_kinds a.ignore_case (parser_of_value a.parser) v) (values_kinds a.ignore_case (parser_of_value a.parser) vs) e)
  where
    go : (b : Bool) → accepts a.ignore_case (parser_of_value a.parser) v ≡ b → cond b [] (refused_kind (parser_of_value a.parser) ∷ []) ≡ [] → accepts a.ignore_case (parser_of_value a.parser) v ≡ true
    go true is f = is
    go false is f = cc

word_found : (c : List Rule) (id : Text) (rows : List Row) (a : Rule) (r : Row) → arg_by_id c id ≡ Some a → Each (IsGood c) rows → find (λ r. bytes_eq r.id id) rows ≡ Some r → HasWord c id rows a
word_found c id rows a r own good e =
    let got = find_good c id rows r good e in
    let is : got.0.rule ≡ a = cc in
    go r.values refl got.0.some (subst (λ x. values_fault x r.values ≡ []) is got.0.pass)
  where
    go : (vs : List Text) → r.values ≡ vs → 0 < length vs → values_fault a vs ≡ [] → HasWord c id rows a
    go [] is some pass = absurd (omega arith)
    go (v ∷ vs) is some pass = record {
      word = v;
      first = ap (λ o. option_and_then (λ r. slice_get r.values 0) o) e ∙ ap (λ xs. slice_get xs 0) is;
      passes = passed a v vs pass;
    }

given_row : (id : Text) (rows : List Row) → is_given id rows ≡ true → (r : Row) × (find (λ r. bytes_eq r.id id) rows ≡ Some r)
given_row id rows e = go (find (λ r. bytes_eq r.id id) rows) refl e
  where
    go : (o : Option Row) → find (λ r. bytes_eq r.id id) rows ≡ o → option_map_or (λ r. explicit_source r.source) o false ≡ true → (r : Row) × (find (λ r. bytes_eq r.id id) rows ≡ Some r)
    go None is f = cc
    go (Some r) is f = (r, is)

-- ---- a word that has a default

has_values : (id : Text) (how : Reading) (s : ValueSource) (vs : List Text) (rows : List Row) → has_row id (with_values id how s vs rows) ≡ true
has_values id how s vs [] = ap (λ b. b || false) ((bytes_eq-Decides id id).1 refl)
has_values id how s vs (r ∷ rs) = go (bytes_eq r.id id) refl (has_values id how s vs rs)
  where
    go : (b : Bool) → bytes_eq r.id id ≡ b → has_row id (with_values id how s vs rs) ≡ true → has_row id (cond b (more_values s vs r ++ rs) (r ∷ with_values id how s vs rs)) ≡ true
    go true e rest = ap (λ b. b || list_any (λ r. bytes_eq r.id id) rs) e
    go false e rest = ap (λ b. b || has_row id (with_values id how s vs rs)) e ∙ rest

has_default : (rows : List Row) (a : Rule) (v : Text) (vs : List Text) → a.defaults ≡ v ∷ vs → has_row a.id (with_default rows a) ≡ true
has_default rows a v vs e = go (has_row a.id rows) refl a.defaults e
  where
    go : (b : Bool) → has_row a.id rows ≡ b → (ds : List Text) → ds ≡ v ∷ vs → has_row a.id (cond b rows (default_rows a.id (reading_by a) ds rows)) ≡ true
    go true is ds f = is
    go false is [] f = cc
    go false is (d ∷ ds) f = has_values a.id (reading_by a) DefaultValue (d ∷ ds) rows

either_kept : (a b c : Bool) → (a || b) ≡ true → (b ≡ true → c ≡ true) → (a || c) ≡ true
either_kept true b c e more = refl
either_kept false b c e more = more e

-- a row that is there stays
kept_by_values : (id own : Text) (how : Reading) (s : ValueSource) (vs : List Text) (rows : List Row) → has_row id rows ≡ true → has_row id (with_values own how s vs rows) ≡ true
kept_by_values id own how s vs [] e = cc
kept_by_values id own how s vs (r ∷ rs) e = go (bytes_eq r.id own) (kept_by_values id own how s vs rs)
  where
    go : (b : Bool) → (has_row id rs ≡ true → has_row id (with_values own how s vs rs) ≡ true)
        → has_row id (cond b (more_values s vs r ++ rs) (r ∷ with_values own how s vs rs)) ≡ true
    go true rest = e
    go false rest = either_kept (bytes_eq r.id id) (has_row id rs) (has_row id (with_values own how s vs rs)) e rest

kept_by_default : (id : Text) (rows : List Row) (a : Rule) → has_row id rows ≡ true → has_row id (with_default rows a) ≡ true
kept_by_default id rows a e = go (has_row a.id rows) a.defaults
  where
    go : (b : Bool) (vs : List Text) → has_row id (cond b rows (default_rows a.id (reading_by a) vs rows)) ≡ true
    go true vs = e
    go false [] = e
    go false (v ∷ vs) = kept_by_values id a.id (reading_by a) DefaultValue (v ∷ vs) rows e

kept : (id : Text) (rows : List Row) (xs : List Rule) → has_row id rows ≡ true → has_row id (fold with_default rows xs) ≡ true
kept id rows [] e = e
kept id rows (x ∷ xs) e = kept id (with_default rows x) xs (kept_by_default id rows x e)

some_rule : (a b : Rule) → Some a ≡ Some b → a ≡ b
some_rule a b e = cc

-- an argument that has a default has a row in the end
filled : (id : Text) (rows : List Row) (xs : List Rule) (a : Rule) (v : Text) (vs : List Text) → arg_by_id xs id ≡ Some a → a.id ≡ id → a.defaults ≡ v ∷ vs → has_row id (fold with_default rows xs) ≡ true
filled id rows [] a v vs own is e = cc
filled id rows (x ∷ xs) a v vs own is e = go (bytes_eq x.id id) own (λ f. filled id (with_default rows x) xs a v vs f is e)
  where
    go : (b : Bool) → cond b (Some x) (arg_by_id xs id) ≡ Some a → (arg_by_id xs id ≡ Some a → has_row id (fold with_default (with_default rows x) xs) ≡ true)
        → has_row id (fold with_default (with_default rows x) xs) ≡ true
    go true f rest =
        let same : x ≡ a = some_rule x a f in
        let there : has_row x.id (with_default rows x) ≡ true = has_default rows x v vs (ap (λ y. y.defaults) same ∙ e) in
        kept id (with_default rows x) xs (subst (λ t. has_row t (with_default rows x) ≡ true) (ap (λ y. y.id) same ∙ is) there)
    go false f rest = rest f

found_row : (id : Text) (rows : List Row) → has_row id rows ≡ true → (r : Row) × (find (λ r. bytes_eq r.id id) rows ≡ Some r)
found_row id [] e = cc
found_row id (x ∷ xs) e = go (bytes_eq x.id id) e (found_row id xs)
  where
    go : (b : Bool) → (b || has_row id xs) ≡ true → (has_row id xs ≡ true → (r : Row) × (find (λ r. bytes_eq r.id id) xs ≡ Some r)) → (r : Row) × (cond b (Some x) (find (λ r. bytes_eq r.id id) xs) ≡ Some r)
    go true f rest = (x, refl)
    go false f rest = rest f

-- ---- the words of `solve`

three_given : (x y z : Bool) → check_kinds false false (not x || (not y || (not z || false))) ≡ [] → (x ≡ true) × (y ≡ true) × (z ≡ true)
three_given true true true e = (refl, refl, refl)
three_given true true false e = cc
three_given true false z e = cc
three_given false y z e = cc

-- what is found for `solve`
pub record IsWhole (rows : List Row) : Type 0 where
  pub instance : first_of (codes "instance") rows ≡ Some (word_in (codes "instance") rows)
  pub proof : first_of (codes "proof") rows ≡ Some (word_in (codes "proof") rows)
  pub restart : first_of (codes "restart") rows ≡ Some (word_in (codes "restart") rows)
  pub budget : is_unsigned_in 0 most_budget (word_in (codes "budget") rows) ≡ true
  pub seed : is_unsigned_in 0 most_seed (word_in (codes "seed") rows) ≡ true
  pub gap : is_unsigned_in 0 most_gap (word_in (codes "gap") rows) ≡ true
  pub grunts : is_unsigned_in least_grunts most_grunts (word_in (codes "grunts") rows) ≡ true
  pub lose : is_unsigned_in 0 most_lose (word_in (codes "lose") rows) ≡ true

word_is : (id : Text) (rows : List Row) (v : Text) → first_of id rows ≡ Some v → first_of id rows ≡ Some (word_in id rows)
word_is id rows v e = e ∙ ap (λ o. Some (unwrap_or o [])) (sym e)

path_whole : (s : Shape) (words : List Text) (id : Text) (a : Rule) → arg_by_id s.rules id ≡ Some a → IsFound s words → is_given id (rows_after s.rules [] words) ≡ true
    → first_of id (rows_after s.rules [] words) ≡ Some (word_in id (rows_after s.rules [] words))
path_whole s words id a own found given =
    let rows = rows_after s.rules [] words in
    let r = given_row id rows given in
    let w = word_found s.rules id rows a r.0 own found.good r.1 in
    word_is id rows w.word w.first

-- the number of an argument that takes one from `least` to `most` and has a row
number_passed : (s : Shape) (words : List Text) (id : Text) (least most : ℕ) (a : Rule) (r : Row) → arg_by_id s.rules id ≡ Some a → parser_of_value a.parser ≡ parser.Unsigned least most → IsFound s words
    → find (λ r. bytes_eq r.id id) (rows_after s.rules [] words) ≡ Some r → is_unsigned_in least most (word_in id (rows_after s.rules [] words)) ≡ true
number_passed s words id least most a r own reads found there =
    let rows = rows_after s.rules [] words in
    let w = word_found s.rules id rows a r own found.good there in
    let is : word_in id rows ≡ w.word = ap (λ o. unwrap_or o []) w.first in
    let passes : is_unsigned_in least most w.word ≡ true = subst (λ p. accepts a.ignore_case p w.word ≡ true) reads w.passes in
    subst (λ t. is_unsigned_in least most t ≡ true) (sym is) passes

-- an argument that takes a number from `least` to `most`, and has a default
record TakesNumber (s : Shape) (id : Text) (least most : ℕ) : Type 0 where
  rule : Rule
  own : arg_by_id s.rules id ≡ Some rule
  is : rule.id ≡ id
  reads : parser_of_value rule.parser ≡ parser.Unsigned least most
  default : Text
  fills : rule.defaults ≡ default ∷ []

number_whole : (s : Shape) (words : List Text) (id : Text) (least most : ℕ) → TakesNumber s id least most → IsFound s words → is_unsigned_in least most (word_in id (rows_after s.rules [] words)) ≡ true
number_whole s words id least most takes found =
    let rows = rows_after s.rules [] words in
    let r = found_row id rows (filled id (settled s.rules (walk s.rules [] nothing_held words).held).rows s.rules takes.rule takes.default [] takes.own takes.is takes.fills) in
    number_passed s words id least most takes.rule r.0 takes.own takes.reads found r.1

-- an argument that has to be there takes a number from `least` to `most`
numeral_whole : (s : Shape) (words : List Text) (id : Text) (least most : ℕ) (a : Rule) → arg_by_id s.rules id ≡ Some a → parser_of_value a.parser ≡ parser.Unsigned least most → IsFound s words
    → is_given id (rows_after s.rules [] words) ≡ true → is_unsigned_in least most (word_in id (rows_after s.rules [] words)) ≡ true
numeral_whole s words id least most a own reads found given =
    let r = given_row id (rows_after s.rules [] words) given in
    number_passed s words id least most a r.0 own reads found r.1

solve_budget : TakesNumber solve_built (codes "budget") 0 most_budget
solve_budget = record { rule = slice_index_or solve_built.rules 3 help_rule; own = refl; is = refl; reads = refl; default = codes "65536"; fills = refl }

solve_seed : TakesNumber solve_built (codes "seed") 0 most_seed
solve_seed = record { rule = slice_index_or solve_built.rules 4 help_rule; own = refl; is = refl; reads = refl; default = codes "1"; fills = refl }

solve_gap : TakesNumber solve_built (codes "gap") 0 most_gap
solve_gap = record { rule = slice_index_or solve_built.rules 6 help_rule; own = refl; is = refl; reads = refl; default = codes "0"; fills = refl }

solve_grunts : TakesNumber solve_built (codes "grunts") least_grunts most_grunts
solve_grunts = record { rule = slice_index_or solve_built.rules 7 help_rule; own = refl; is = refl; reads = refl; default = codes "4"; fills = refl }

solve_lose : TakesNumber solve_built (codes "lose") 0 most_lose
solve_lose = record { rule = slice_index_or solve_built.rules 8 help_rule; own = refl; is = refl; reads = refl; default = codes "0"; fills = refl }

tour_seed : TakesNumber tour_built (codes "seed") 0 most_seed
tour_seed = record { rule = slice_index_or tour_built.rules 1 help_rule; own = refl; is = refl; reads = refl; default = codes "1"; fills = refl }

pub solve_whole : (words : List Text) → IsFound solve_built words → IsWhole (rows_after solve_built.rules [] words)
solve_whole words found =
    let rows = rows_after solve_built.rules [] words in
    let given = three_given (is_given (codes "instance") rows) (is_given (codes "proof") rows) (is_given (codes "restart") rows) found.checked in record {
      instance = path_whole solve_built words (codes "instance") (slice_index_or solve_built.rules 0 help_rule) refl found given.0;
      proof = path_whole solve_built words (codes "proof") (slice_index_or solve_built.rules 1 help_rule) refl found given.1;
      restart = path_whole solve_built words (codes "restart") (slice_index_or solve_built.rules 2 help_rule) refl found given.2;
      budget = number_whole solve_built words (codes "budget") 0 most_budget solve_budget found;
      seed = number_whole solve_built words (codes "seed") 0 most_seed solve_seed found;
      gap = number_whole solve_built words (codes "gap") 0 most_gap solve_gap found;
      grunts = number_whole solve_built words (codes "grunts") least_grunts most_grunts solve_grunts found;
      lose = number_whole solve_built words (codes "lose") 0 most_lose solve_lose found;
    }

-- ---- the words of `tour`

one_given : (x : Bool) → check_kinds false false (not x || false) ≡ [] → x ≡ true
one_given true e = refl
one_given false e = cc

-- what is found for `tour`
pub record IsWholeTour (rows : List Row) : Type 0 where
  pub instance : first_of (codes "instance") rows ≡ Some (word_in (codes "instance") rows)
  pub seed : is_unsigned_in 0 most_seed (word_in (codes "seed") rows) ≡ true

tour_whole : (words : List Text) → IsFound tour_built words → IsWholeTour (rows_after tour_built.rules [] words)
tour_whole words found =
    let given = one_given (is_given (codes "instance") (rows_after tour_built.rules [] words)) found.checked in record {
      instance = path_whole tour_built words (codes "instance") (slice_index_or tour_built.rules 0 help_rule) refl found given;
      seed = number_whole tour_built words (codes "seed") 0 most_seed tour_seed found;
    }

-- ---- the words of `bench`

four_given : (x y z w : Bool) → check_kinds false false (not x || (not y || (not z || (not w || false)))) ≡ [] → (x ≡ true) × (y ≡ true) × (z ≡ true) × (w ≡ true)
four_given true true true true e = (refl, refl, refl, refl)
four_given true true true false e = cc
four_given true true false w e = cc
four_given true false z w e = cc
four_given false y z w e = cc

-- what is found for `bench`
pub record IsWholeBench (rows : List Row) : Type 0 where
  pub seed : is_unsigned_in 0 most_seed (word_in (codes "seed") rows) ≡ true
  pub cities : is_unsigned_in least_cities most_cities (word_in (codes "cities") rows) ≡ true
  pub budget : is_unsigned_in 0 most_budget (word_in (codes "budget") rows) ≡ true
  pub out : first_of (codes "out") rows ≡ Some (word_in (codes "out") rows)

bench_whole : (words : List Text) → IsFound bench_built words → IsWholeBench (rows_after bench_built.rules [] words)
bench_whole words found =
    let rows = rows_after bench_built.rules [] words in
    let given = four_given (is_given (codes "seed") rows) (is_given (codes "cities") rows) (is_given (codes "budget") rows) (is_given (codes "out") rows) found.checked in record {
      seed = numeral_whole bench_built words (codes "seed") 0 most_seed (slice_index_or bench_built.rules 0 help_rule) refl refl found given.0;
      cities = numeral_whole bench_built words (codes "cities") least_cities most_cities (slice_index_or bench_built.rules 1 help_rule) refl refl found given.1;
      budget = numeral_whole bench_built words (codes "budget") 0 most_budget (slice_index_or bench_built.rules 2 help_rule) refl refl found given.2;
      out = path_whole bench_built words (codes "out") (slice_index_or bench_built.rules 3 help_rule) refl found given.3;
    }

-- ---- the words of `verify` and of the verifier

two_given : (x y : Bool) → check_kinds false false (not x || (not y || false)) ≡ [] → (x ≡ true) × (y ≡ true)
two_given true true e = (refl, refl)
two_given true false e = cc
two_given false y e = cc

-- what is found for two paths
pub record HasPaths (rows : List Row) : Type 0 where
  pub instance : first_of (codes "instance") rows ≡ Some (word_in (codes "instance") rows)
  pub proof : first_of (codes "proof") rows ≡ Some (word_in (codes "proof") rows)

verify_whole : (words : List Text) → IsFound verify_built words → HasPaths (rows_after verify_built.rules [] words)
verify_whole words found =
    let rows = rows_after verify_built.rules [] words in
    let given = two_given (is_given (codes "instance") rows) (is_given (codes "proof") rows) found.checked in record {
      instance = path_whole verify_built words (codes "instance") (slice_index_or verify_built.rules 0 help_rule) refl found given.0;
      proof = path_whole verify_built words (codes "proof") (slice_index_or verify_built.rules 1 help_rule) refl found given.1;
    }

verifier_whole : (words : List Text) → IsFound verifier_built words → HasPaths (rows_after verifier_built.rules [] words)
verifier_whole words found =
    let rows = rows_after verifier_built.rules [] words in
    let given = two_given (is_given (codes "instance") rows) (is_given (codes "proof") rows) found.checked in record {
      instance = path_whole verifier_built words (codes "instance") (slice_index_or verifier_built.rules 0 help_rule) refl found given.0;
      proof = path_whole verifier_built words (codes "proof") (slice_index_or verifier_built.rules 1 help_rule) refl found given.1;
    }

-- ---- the words of `replay`

replay_budget : TakesNumber replay_built (codes "budget") 0 most_budget
replay_budget = record { rule = slice_index_or replay_built.rules 2 help_rule; own = refl; is = refl; reads = refl; default = codes "65536"; fills = refl }

replay_grunts : TakesNumber replay_built (codes "grunts") least_grunts most_grunts
replay_grunts = record { rule = slice_index_or replay_built.rules 3 help_rule; own = refl; is = refl; reads = refl; default = codes "4"; fills = refl }

-- what is found for `replay`
pub record IsWholeReplay (rows : List Row) : Type 0 where
  pub instance : first_of (codes "instance") rows ≡ Some (word_in (codes "instance") rows)
  pub tape : first_of (codes "tape") rows ≡ Some (word_in (codes "tape") rows)
  pub budget : is_unsigned_in 0 most_budget (word_in (codes "budget") rows) ≡ true
  pub grunts : is_unsigned_in least_grunts most_grunts (word_in (codes "grunts") rows) ≡ true

replay_whole : (words : List Text) → IsFound replay_built words → IsWholeReplay (rows_after replay_built.rules [] words)
replay_whole words found =
    let rows = rows_after replay_built.rules [] words in
    let given = two_given (is_given (codes "instance") rows) (is_given (codes "tape") rows) found.checked in record {
      instance = path_whole replay_built words (codes "instance") (slice_index_or replay_built.rules 0 help_rule) refl found given.0;
      tape = path_whole replay_built words (codes "tape") (slice_index_or replay_built.rules 1 help_rule) refl found given.1;
      budget = number_whole replay_built words (codes "budget") 0 most_budget replay_budget found;
      grunts = number_whole replay_built words (codes "grunts") least_grunts most_grunts replay_grunts found;
    }

-- ---- the words of `bound` and `checkbound`

bound_steps : TakesNumber bound_built (codes "steps") 0 most_steps
bound_steps = record { rule = slice_index_or bound_built.rules 2 help_rule; own = refl; is = refl; reads = refl; default = codes "100"; fills = refl }

-- what is found for an instance and a certificate
pub record HasCert (rows : List Row) : Type 0 where
  pub instance : first_of (codes "instance") rows ≡ Some (word_in (codes "instance") rows)
  pub cert : first_of (codes "cert") rows ≡ Some (word_in (codes "cert") rows)

-- what is found for `bound`
pub record IsWholeBound (rows : List Row) : Type 0 where
  pub paths : HasCert rows
  pub steps : is_unsigned_in 0 most_steps (word_in (codes "steps") rows) ≡ true

bound_whole : (words : List Text) → IsFound bound_built words → IsWholeBound (rows_after bound_built.rules [] words)
bound_whole words found =
    let rows = rows_after bound_built.rules [] words in
    let given = two_given (is_given (codes "instance") rows) (is_given (codes "cert") rows) found.checked in record {
      paths = record {
        instance = path_whole bound_built words (codes "instance") (slice_index_or bound_built.rules 0 help_rule) refl found given.0;
        cert = path_whole bound_built words (codes "cert") (slice_index_or bound_built.rules 1 help_rule) refl found given.1;
      };
      steps = number_whole bound_built words (codes "steps") 0 most_steps bound_steps found;
    }

checkbound_whole : (words : List Text) → IsFound checkbound_built words → HasCert (rows_after checkbound_built.rules [] words)
checkbound_whole words found =
    let rows = rows_after checkbound_built.rules [] words in
    let given = two_given (is_given (codes "instance") rows) (is_given (codes "cert") rows) found.checked in record {
      instance = path_whole checkbound_built words (codes "instance") (slice_index_or checkbound_built.rules 0 help_rule) refl found given.0;
      cert = path_whole checkbound_built words (codes "cert") (slice_index_or checkbound_built.rules 1 help_rule) refl found given.1;
    }

-- ---- the verifier alone

-- the verifier has no command, wherever its words stop
verifier_level : (given : List Text) (stop : Option (Text × List Text)) → level_fault verifier_built [] nothing_held given (is_some (entered (built verifier) stop)) (entered_fault (built verifier) stop) ≡ []
    → level_fault verifier_built [] nothing_held given false [] ≡ []
verifier_level given None e = e
verifier_level given (Some p) e = e

pub verifier_taken : (words : List Text) → IsVerifierCall words → HasPaths (matches_of verifier words)
verifier_taken words taken =
    let given = argument_words verifier words in
    verifier_whole given (level_found verifier_built given verifier_plain (verifier_level given (walk verifier_built.rules [] nothing_held given).stopped taken))

pub verifier_given : VerifierWordsAreGiven
verifier_given words taken = let whole = verifier_taken words taken in record { instance = whole.instance; proof = whole.proof }

-- ---- the program

-- the words name this command, and its arguments are found
pub record IsWholeOf (command : Text) (Whole : List Row → Type 0) (o : Option (Text × List Row)) : Type 0 where
  pub named : option_map_or (λ p. p.0) o [] ≡ command
  pub whole : Whole (option_map_or (λ p. p.1) o [])

abbrev pub IsSolveFound : Option (Text × List Row) → Type 0
IsSolveFound o = IsWholeOf (codes "solve") IsWhole o

abbrev pub IsVerifyFound : Option (Text × List Row) → Type 0
IsVerifyFound o = IsWholeOf (codes "verify") HasPaths o

abbrev pub IsTourFound : Option (Text × List Row) → Type 0
IsTourFound o = IsWholeOf (codes "tour") IsWholeTour o

abbrev pub IsBenchFound : Option (Text × List Row) → Type 0
IsBenchFound o = IsWholeOf (codes "bench") IsWholeBench o

abbrev pub IsReplayFound : Option (Text × List Row) → Type 0
IsReplayFound o = IsWholeOf (codes "replay") IsWholeReplay o

abbrev pub IsBoundFound : Option (Text × List Row) → Type 0
IsBoundFound o = IsWholeOf (codes "bound") IsWholeBound o

abbrev pub IsCheckboundFound : Option (Text × List Row) → Type 0
IsCheckboundFound o = IsWholeOf (codes "checkbound") HasCert o

abbrev pub IsWholeCall : Option (Text × List Row) → Type 0
IsWholeCall o = IsSolveFound o ⊎ (IsVerifyFound o ⊎ (IsTourFound o ⊎ (IsBenchFound o ⊎ (IsReplayFound o ⊎ (IsBoundFound o ⊎ IsCheckboundFound o)))))

four_free : (w b s d c : Kinds) → or_else w (or_else b (or_else s (or_else d c))) ≡ [] → (b ≡ []) × (c ≡ [])
four_free [] [] [] [] c e = (refl, e)
four_free (k ∷ ks) b s d c e = cc
four_free [] (k ∷ ks) s d c e = cc
four_free [] [] (k ∷ ks) d c e = cc
four_free [] [] [] (k ∷ ks) c e = cc

no_command : (rows : List Row) → check_fault (built program).top rows false ≡ [] → ⊥
no_command rows e = cc

entered_whole : (rows : List Row) (stop : Option (Text × List Text)) → entered_fault (built program) stop ≡ [] → check_fault (built program).top rows (is_some (entered (built program) stop)) ≡ []
    → IsWholeCall (entered (built program) stop)
entered_whole rows None below checks = absurd (no_command rows checks)
entered_whole rows (Some p) below checks =
    go (answers_to p.0 (label_of solve_built)) (answers_to p.0 (label_of verify_built)) (answers_to p.0 (label_of tour_built)) (answers_to p.0 (label_of bench_built))
    (answers_to p.0 (label_of replay_built)) (answers_to p.0 (label_of bound_built)) (answers_to p.0 (label_of checkbound_built)) below checks
  where
    found : (s v t b r o c : Bool) → Option Shape
    found s v t b r o c = cond s (Some solve_built) (cond v (Some verify_built) (cond t (Some tour_built) (cond b (Some bench_built) (cond r (Some replay_built) (cond o (Some bound_built) (cond c (Some checkbound_built) None))))))

    go : (s v t b r o c : Bool) → option_map_or (λ s. level_fault s [] nothing_held p.1 false []) (found s v t b r o c) [] ≡ []
        → check_fault (built program).top rows (is_some (option_map (λ s. rows_at s p.1) (found s v t b r o c))) ≡ []
        → IsWholeCall (option_map (λ s. rows_at s p.1) (found s v t b r o c))
    go true v t b r o c below checks = inl (record { named = refl; whole = solve_whole p.1 (level_found solve_built p.1 solve_plain below) })
    go false true t b r o c below checks = inr (inl (record { named = refl; whole = verify_whole p.1 (level_found verify_built p.1 verify_plain below) }))
    go false false true b r o c below checks = inr (inr (inl (record { named = refl; whole = tour_whole p.1 (level_found tour_built p.1 tour_plain below) })))
    go false false false true r o c below checks = inr (inr (inr (inl (record { named = refl; whole = bench_whole p.1 (level_found bench_built p.1 bench_plain below) }))))
    go false false false false true o c below checks = inr (inr (inr (inr (inl (record { named = refl; whole = replay_whole p.1 (level_found replay_built p.1 replay_plain below) })))))
    go false false false false false true c below checks = inr (inr (inr (inr (inr (inl (record { named = refl; whole = bound_whole p.1 (level_found bound_built p.1 bound_plain below) }))))))
    go false false false false false false true below checks = inr (inr (inr (inr (inr (inr (record { named = refl; whole = checkbound_whole p.1 (level_found checkbound_built p.1 checkbound_plain below) }))))))
    go false false false false false false false below checks = absurd (no_command rows checks)

pub taken_whole : (words : List Text) → IsTaken words → IsWholeCall (subcommand_of program words)
taken_whole words taken =
    let given = argument_words program words in
    let all = walk (built program).top.rules (names_of (built program)) nothing_held given in
    let parts = four_free _ (entered_fault (built program) all.stopped) _ _ (check_fault (built program).top (finished (built program).top.rules all.held) (is_some (entered (built program) all.stopped))) taken in
    entered_whole (finished (built program).top.rules all.held) all.stopped parts.0 parts.1

pub taken_given : TakenWordsAreGiven
taken_given words taken = elim (taken_whole words taken) [
  | inl solve ↦ inl (record {
    named = record { taken = taken; named = solve.named };
    instance = solve.whole.instance;
    proof = solve.whole.proof;
    restart = solve.whole.restart;
    budget = unsigned_in 0 most_budget (word_for (codes "budget") words) solve.whole.budget;
    seed = unsigned_in 0 most_seed (word_for (codes "seed") words) solve.whole.seed;
    gap = unsigned_in 0 most_gap (word_for (codes "gap") words) solve.whole.gap;
    grunts = unsigned_in least_grunts most_grunts (word_for (codes "grunts") words) solve.whole.grunts;
    lose = unsigned_in 0 most_lose (word_for (codes "lose") words) solve.whole.lose;
  })
  | inr (inl verify) ↦ inr (inl (record {
    named = record { taken = taken; named = verify.named };
    instance = verify.whole.instance;
    proof = verify.whole.proof;
  }))
  | inr (inr (inl tour)) ↦ inr (inr (inl (record {
    named = record { taken = taken; named = tour.named };
    instance = tour.whole.instance;
    seed = unsigned_in 0 most_seed (word_for (codes "seed") words) tour.whole.seed;
  })))
  | inr (inr (inr (inl bench))) ↦ inr (inr (inr (inl (record {
    named = record { taken = taken; named = bench.named };
    seed = unsigned_in 0 most_seed (word_for (codes "seed") words) bench.whole.seed;
    cities = unsigned_in least_cities most_cities (word_for (codes "cities") words) bench.whole.cities;
    budget = unsigned_in 0 most_budget (word_for (codes "budget") words) bench.whole.budget;
    out = bench.whole.out;
  }))))
  | inr (inr (inr (inr (inl replay)))) ↦ inr (inr (inr (inr (inl (record {
    named = record { taken = taken; named = replay.named };
    instance = replay.whole.instance;
    tape = replay.whole.tape;
    budget = unsigned_in 0 most_budget (word_for (codes "budget") words) replay.whole.budget;
    grunts = unsigned_in least_grunts most_grunts (word_for (codes "grunts") words) replay.whole.grunts;
  })))))
  | inr (inr (inr (inr (inr (inl bound))))) ↦ inr (inr (inr (inr (inr (inl (record {
    named = record { taken = taken; named = bound.named };
    instance = bound.whole.paths.instance;
    cert = bound.whole.paths.cert;
    steps = unsigned_in 0 most_steps (word_for (codes "steps") words) bound.whole.steps;
  }))))))
  | inr (inr (inr (inr (inr (inr check))))) ↦ inr (inr (inr (inr (inr (inr (record {
    named = record { taken = taken; named = check.named };
    instance = check.whole.instance;
    cert = check.whole.cert;
  }))))))
]
