-- What is found for words that are taken: each argument has values, and its parser passed them. The walk over the words
-- keeps this of the rows found so far, since a use of an argument with no fault adds only such values.
use Rattle.std.proofs.Common.{◌≡◌, ◌⊎◌, inl, inr, ℕ, ◌<◌, ◌&&◌, ◌||◌, zero, suc, Bool, true, false, cond, List, [], ◌∷◌, ◌++◌, length, drop, fold, refl, sym, ap, subst, ◌∙◌, arith, length-append, Option, Some, None, is_some, not}
use Rattle.std.specs.Prelude.{find, slice_get, encode_utf8}
use Rattle.std.specs.Option.{option_map_or}
use Rattle.std.specs.Str.{bytes_eq, chars}
use Rattle.std.proofs.lemmas.Bool.{ne_eqb}
use Rattle.std.proofs.lemmas.Bool.Decides.{nat_tests}
use Rattle.std.proofs.lemmas.Slice.Eq.{bytes_eq-Decides}
use Rattle.clap.specs.Lexer.{long_of, short_of}
use Rattle.clap.specs.Facts.{parser_of_value, unwrap_or_range}
use Rattle.clap.specs.Kinds.{Kinds, or_else, range_kinds, request_kinds, value_kinds, values_kinds}
use Rattle.clap.specs.Walk.{Held, Outcome, Row, Rule, Step, Text, Waiting, Walk, action_of, after_flag, after_step, arg_by_id, arg_by_index, arg_by_long, arg_by_short, attached_value, bundle, bundle_met, bundle_step, default_rows, done, finished, flag_met, has_long, has_row, has_short, idle, is_empty, is_pending, long_met, long_or_other, most_values, more_values, next, nothing_held, option, option_met, option_word, plain, plain_word, positional, reacted, reading_by, refused, settled, settled_rows, rows_after, short_met, short_or_plain, stronger, subcommand, subcommand_or_other, takes_several, takes_values, to_positional, trailing, used, used_as, used_by_id, value, values_or_missing, waits, walk, walk_from, walked, walked_from, with_default, with_values, without, word_met}
use Rattle.clap.specs.Simple.{Shape}
use Rattle.clap.specs.Faults.{action_fault, bundle_fault, bundle_step_fault, check_fault, default_fault, defaults_fault, flag_word_fault, flags_fault, given_default_fault, level_fault, long_fault, option_fault, other_fault, positional_fault, react_fault, repeat_fault, set_fault, settle_fault, short_fault, step_fault, stray_fault, turn_fault, use_fault, values_fault, walk_fault, word_fault}
use Rattle.clap.specs.declared.error.kind.ErrorKind.TheVariants as kind
use Rattle.clap.specs.declared.builder.action.ArgAction.TheVariants.{Help, Set, SetTrue}
use Rattle.clap.specs.declared.builder.value_parser.ValueParser.{ValueParser}
use Rattle.clap.specs.declared.builder.value_parser.Reading.{Reading}
use Rattle.clap.specs.declared.parser.matches.ValueSource.{ValueSource}
use Rattle.clap.specs.declared.parser.matches.ValueSource.TheVariants.{DefaultValue, CommandLine}

abbrev pub Each : {X : Type 0} → (X → Type 0) → List X → Type 0
Each P [] = Unit {0}
Each P (x ∷ xs) = P x × Each P xs

-- steps of which none fails
pub first_free : (a b : Kinds) → or_else a b ≡ [] → a ≡ []
first_free [] b e = refl
first_free (k ∷ ks) b e = e

pub then_free : (a b : Kinds) → or_else a b ≡ [] → b ≡ []
then_free [] b e = e
then_free (k ∷ ks) b e = cc

-- what was found for an argument is a value or more, which its parser passed
pub record IsGood (c : List Rule) (r : Row) : Type 0 where
  pub rule : Rule
  pub found : arg_by_id c r.id ≡ Some rule
  pub some : 0 < length r.values
  pub pass : values_fault rule r.values ≡ []

-- the argument takes one value
pub record TakesOne (a : Rule) : Type 0 where
  pub set : action_of a ≡ Set
  pub least : (unwrap_or_range a.range).start_inclusive ≡ 1
  pub most : most_values a ≡ 1

-- the argument takes no value, and has one that stands for its use
pub record IsSwitch (a : Rule) : Type 0 where
  pub set : action_of a ≡ SetTrue
  pub least : (unwrap_or_range a.range).start_inclusive ≡ 0
  pub most : most_values a ≡ 0
  pub some : 0 < length a.missing

-- an argument whose id is its own, that takes one value, asks for help or is a switch
pub record IsPlainRule (c : List Rule) (a : Rule) : Type 0 where
  pub own : arg_by_id c a.id ≡ Some a
  pub kind : TakesOne a ⊎ ((action_of a ≡ Help) ⊎ IsSwitch a)

-- ---- one use

values_append : (ic : Bool) (p : ValueParser) (xs ys : List Text) → values_kinds ic p xs ≡ [] → values_kinds ic p ys ≡ [] → values_kinds ic p (xs ++ ys) ≡ []
values_append ic p [] ys x y = y
values_append ic p (v ∷ vs) ys x y =
    let here = first_free (value_kinds ic p v) (values_kinds ic p vs) x in
    let rest = values_append ic p vs ys (then_free (value_kinds ic p v) (values_kinds ic p vs) x) y in
    ap (λ k. or_else k (values_kinds ic p (vs ++ ys))) here ∙ rest

without_good : (c : List Rule) (id : Text) (rows : List Row) → Each (IsGood c) rows → Each (IsGood c) (without id rows)
without_good c id [] good = good
without_good c id (r ∷ rs) good = go (bytes_eq r.id id) (without_good c id rs good.1)
  where
    go : (b : Bool) → Each (IsGood c) (without id rs) → Each (IsGood c) (cond b rs (r ∷ without id rs))
    go true rest = good.1
    go false rest = (good.0, rest)

new_row : Text → Reading → ValueSource → List Text → Row
new_row id how s values = record { id = id; values = values; count = None; source = Some s; reading = how }

some_equal : (a b : Rule) → Some a ≡ Some b → a ≡ b
some_equal a b e = cc

more_good : (c : List Rule) (a : Rule) (s : ValueSource) (values : List Text) (r : Row) → arg_by_id c a.id ≡ Some a → r.id ≡ a.id → values_fault a values ≡ [] → IsGood c r
    → IsGood c (record r { values = r.values ++ values; source = Some (stronger r.source s) })
more_good c a s values r own same pass good =
    let is : good.rule ≡ a = some_equal good.rule a (sym good.found ∙ ap (arg_by_id c) same ∙ own) in
    let had : values_fault a r.values ≡ [] = subst (λ x. values_fault x r.values ≡ []) is good.pass in record {
      rule = a;
      found = ap (arg_by_id c) same ∙ own;
      some = omega (arith, good.some, length-append r.values values);
      pass = values_append a.ignore_case (parser_of_value a.parser) r.values values had pass;
    }

pub with_good : (c : List Rule) (a : Rule) (how : Reading) (s : ValueSource) (values : List Text) (rows : List Row) → arg_by_id c a.id ≡ Some a
    → 0 < length values → values_fault a values ≡ [] → Each (IsGood c) rows → Each (IsGood c) (with_values a.id how s values rows)
with_good c a how s values [] own some pass good = (record { rule = a; found = own; some = some; pass = pass }, tt)
with_good c a how s values (r ∷ rs) own some pass good = go (bytes_eq r.id a.id) refl (with_good c a how s values rs own some pass good.1)
  where
    go : (b : Bool) → bytes_eq r.id a.id ≡ b → Each (IsGood c) (with_values a.id how s values rs) → Each (IsGood c) (cond b (more_values s values r ++ rs) (r ∷ with_values a.id how s values rs))
    go true e rest = (more_good c a s values r own ((bytes_eq-Decides r.id a.id).0 e) pass good.0, good.1)
    go false e rest = (good.0, rest)

one_value : (n : ℕ) → range_kinds 1 1 n ≡ [] → n ≡ 1
one_value n e = grind (arith, nat_tests)

no_value : (n : ℕ) → range_kinds 0 0 n ≡ [] → n ≡ 0
no_value n e = grind (arith, nat_tests)

pub used_good : (c : List Rule) (again : Bool) (a : Rule) (values : List Text) (rows : List Row) → IsPlainRule c a → use_fault again a values rows ≡ []
    → Each (IsGood c) rows → Each (IsGood c) (used a values rows)
used_good c again a values rows rule free good = go rule.kind
  where
    act : action_fault (action_of a) again a (values_or_missing a values) rows ≡ []
    act = then_free (range_kinds (unwrap_or_range a.range).start_inclusive (most_values a) (length values)) (action_fault (action_of a) again a (values_or_missing a values) rows) free

    range : range_kinds (unwrap_or_range a.range).start_inclusive (most_values a) (length values) ≡ []
    range = first_free (range_kinds (unwrap_or_range a.range).start_inclusive (most_values a) (length values)) (action_fault (action_of a) again a (values_or_missing a values) rows) free

    set : (vs : List Text) → length vs ≡ 1 → set_fault again a (values_or_missing a vs) rows ≡ [] → Each (IsGood c) (with_values a.id (reading_by a) CommandLine (values_or_missing a vs) (without a.id rows))
    set [] one e = absurd (omega (arith, one))
    set (v ∷ vs) one e = with_good c a (reading_by a) CommandLine (v ∷ vs) (without a.id rows) rule.own (omega arith)
        (then_free (repeat_fault again a.id rows) (values_fault a (v ∷ vs)) e) (without_good c a.id rows good)

    switch : (vs : List Text) → length vs ≡ 0 → 0 < length a.missing → set_fault again a (values_or_missing a vs) rows ≡ [] → Each (IsGood c) (with_values a.id (reading_by a) CommandLine (values_or_missing a vs) (without a.id rows))
    switch [] none some e = with_good c a (reading_by a) CommandLine a.missing (without a.id rows) rule.own some
        (then_free (repeat_fault again a.id rows) (values_fault a a.missing) e) (without_good c a.id rows good)
    switch (v ∷ vs) none some e = absurd (omega (arith, none))

    go : TakesOne a ⊎ ((action_of a ≡ Help) ⊎ IsSwitch a) → Each (IsGood c) (used a values rows)
    go (inl one) =
        let count : length values ≡ 1 = one_value (length values) (subst (λ n. range_kinds n 1 (length values) ≡ []) one.least (subst (λ n. range_kinds (unwrap_or_range a.range).start_inclusive n (length values) ≡ []) one.most range)) in
        let e : set_fault again a (values_or_missing a values) rows ≡ [] = subst (λ x. action_fault x again a (values_or_missing a values) rows ≡ []) one.set act in
        subst (λ x. Each (IsGood c) (used_as x a.id (reading_by a) (values_or_missing a values) rows)) (sym one.set) (set values count e)
    go (inr (inl help)) =
        let e = subst (λ x. action_fault x again a (values_or_missing a values) rows ≡ []) help act in
        cc
    go (inr (inr on)) =
        let count : length values ≡ 0 = no_value (length values) (subst (λ n. range_kinds n 0 (length values) ≡ []) on.least (subst (λ n. range_kinds (unwrap_or_range a.range).start_inclusive n (length values) ≡ []) on.most range)) in
        let e : set_fault again a (values_or_missing a values) rows ≡ [] = subst (λ x. action_fault x again a (values_or_missing a values) rows ≡ []) on.set act in
        subst (λ x. Each (IsGood c) (used_as x a.id (reading_by a) (values_or_missing a values) rows)) (sym on.set) (switch values count on.some e)

-- ---- one word

-- every argument of the command is plain
abbrev pub ArePlain : List Rule → Type 0
ArePlain c = Each (IsPlainRule c) c

find_each : (P : Rule → Type 0) (p : Rule → Bool) (xs : List Rule) (a : Rule) → Each P xs → find p xs ≡ Some a → P a
find_each P p [] a all e = cc
find_each P p (x ∷ xs) a all e = go (p x) e (λ f. find_each P p xs a all.1 f)
  where
    go : (b : Bool) → cond b (Some x) (find p xs) ≡ Some a → (find p xs ≡ Some a → P a) → P a
    go true f rest = subst P (some_equal x a f) all.0
    go false f rest = rest f

-- the rows found so far are good
abbrev pub IsGoodHeld : List Rule → Held → Type 0
IsGoodHeld c h = Each (IsGood c) h.rows

pub settled_good : (c : List Rule) (again : Bool) (h : Held) → ArePlain c → settle_fault c again h ≡ [] → IsGoodHeld c h → IsGoodHeld c (settled c h)
settled_good c again h all free good = go h.pending free
  where
    spent : (values : List Text) (o : Option Rule) → ((a : Rule) → o ≡ Some a → IsPlainRule c a) → option_map_or (λ a. use_fault again a values h.rows) o [] ≡ [] → Each (IsGood c) (used_by_id o values h.rows)
    spent values None plains e = good
    spent values (Some a) plains e = used_good c again a values h.rows (plains a refl) e good

    go : (p : Option (Text × List Text)) → option_map_or (λ p. option_map_or (λ a. use_fault again a p.1 h.rows) (arg_by_id c p.0) []) p [] ≡ [] → Each (IsGood c) (settled_rows c p h.rows)
    go None e = good
    go (Some p) e = spent p.1 (arg_by_id c p.0) (λ a f. find_each (IsPlainRule c) (λ a. bytes_eq a.id p.0) c a all f) e

pub reacted_good : (c : List Rule) (again : Bool) (a : Rule) (values : List Text) (h : Held) → ArePlain c → IsPlainRule c a → react_fault c again a values h ≡ []
    → IsGoodHeld c h → IsGoodHeld c (reacted c a values h)
reacted_good c again a values h all rule free good =
    let before = settled_good c again h all (first_free (settle_fault c again h) (use_fault again a values (settled c h).rows) free) good in
    used_good c again a values (settled c h).rows rule (then_free (settle_fault c again h) (use_fault again a values (settled c h).rows) free) before

option_good : (c : List Rule) (again : Bool) (a : Rule) (v : Option Text) (h : Held) → ArePlain c → IsPlainRule c a → option_fault c again a v h ≡ [] → IsGoodHeld c h → IsGoodHeld c (option_met c a v h).0
option_good c again a (Some v) h all rule free good = reacted_good c again a (v ∷ []) h all rule free good
option_good c again a None h all rule free good = settled_good c again h all free good

long_good : (c : List Rule) (again : Bool) (o : Option Rule) (v : Option Text) (h : Held) → ArePlain c → ((a : Rule) → o ≡ Some a → IsPlainRule c a)
    → long_fault c again o v h ≡ [] → IsGoodHeld c h → IsGoodHeld c (long_met c o v h).0
long_good c again None v h all rules free good = good
long_good c again (Some a) v h all rules free good = go (takes_values a) v free
  where
    go : (b : Bool) (v : Option Text) → cond b (option_fault c again a v h) (cond (is_some v) (kind.TooManyValues ∷ []) (react_fault c again a [] h)) ≡ []
        → IsGoodHeld c (cond b (option_met c a v h) (flag_met c a v h)).0
    go true v e = option_good c again a v h all (rules a refl) e good
    go false None e = reacted_good c again a [] h all (rules a refl) e good
    go false (Some v) e = good

short_good : (c : List Rule) (again : Bool) (o : Option Rule) (rest : Text) (h : Held) (fault : Held → Kinds) (met : Held → Held × Outcome) → ArePlain c
    → ((a : Rule) → o ≡ Some a → IsPlainRule c a) → ((h : Held) → fault h ≡ [] → IsGoodHeld c h → IsGoodHeld c (met h).0)
    → short_fault c again o rest h fault ≡ [] → IsGoodHeld c h → IsGoodHeld c (short_met c o rest h met).0
short_good c again None rest h fault met all rules more free good = good
short_good c again (Some a) rest h fault met all rules more free good = go (takes_values a) free
  where
    go : (b : Bool) → cond b (option_fault c again a (attached_value rest) h) (or_else (react_fault c again a [] h) (fault (reacted c a [] h))) ≡ []
        → IsGoodHeld c (cond b (option_met c a (attached_value rest) h) (met (reacted c a [] h))).0
    go true e = option_good c again a (attached_value rest) h all (rules a refl) e good
    go false e = more (reacted c a [] h) (then_free (react_fault c again a [] h) (fault (reacted c a [] h)) e)
        (reacted_good c again a [] h all (rules a refl) (first_free (react_fault c again a [] h) (fault (reacted c a [] h)) e) good)

bundle_good : (c : List Rule) (again : Bool) (k : ℕ) (flags : Text) (skip : ℕ) (so_far : Outcome) (h : Held) → ArePlain c → flags_fault c again k flags skip h ≡ [] → IsGoodHeld c h
    → IsGoodHeld c (bundle_met c k flags skip so_far h).0
unfolding bundle_met flags_fault
bundle_good c again zero flags skip so_far h all free good = good
bundle_good c again (suc k) flags skip so_far h all free good =
    go (slice_get (chars flags) 0) skip free (λ flags skip so_far h. bundle_good c again k flags skip so_far h all)
  where
    go : (x : Option ℕ) (skip : ℕ) → bundle_step_fault c again x flags skip h (flags_fault c again k) ≡ []
        → ((flags : Text) (skip : ℕ) (so_far : Outcome) (h : Held) → flags_fault c again k flags skip h ≡ [] → IsGoodHeld c h → IsGoodHeld c (bundle_met c k flags skip so_far h).0)
        → IsGoodHeld c (bundle_step c x flags skip so_far h (bundle_met c k)).0
    go None skip e more = good
    go (Some x) zero e more =
        let rest = drop (length (encode_utf8 x)) flags in
        short_good c again (arg_by_short c x) rest h (flags_fault c again k rest 0) (bundle_met c k rest 0 done) all
        (λ a f. find_each (IsPlainRule c) (λ a. not (is_some a.index) && has_short a x) c a all f) (λ h. more rest 0 done h) e good
    go (Some x) (suc skip) e more = more (drop (length (encode_utf8 x)) flags) skip so_far h e good

plain_good : (c : List Rule) (waiting : Waiting) (word : Text) (h : Held) → IsGoodHeld c h → IsGoodHeld c (plain_word c waiting word h).0
plain_good c idle word h good = good
plain_good c positional word h good = good
plain_good c (option id) word h good = go (arg_by_id c id)
  where
    go : (o : Option Rule) → IsGoodHeld c (option_word o id word h).0
    go None = good
    go (Some a) = good

flag_good : (c : List Rule) (waiting : Waiting) (word : Text) (h : Held) (outcome : Outcome) → IsGoodHeld c h → IsGoodHeld c (after_flag c waiting word h outcome).0
flag_good c waiting word h done good = good
flag_good c waiting word h (waits id) good = good
flag_good c waiting word h plain good = plain_good c waiting word h good
flag_good c waiting word h refused good = plain_good c waiting word h good

other_good : (s : Shape) (waiting : Waiting) (position : ℕ) (word : Text) (h : Held) → ArePlain s.rules → other_fault s None word h ≡ [] → IsGoodHeld s.rules h
    → IsGoodHeld s.rules (subcommand_or_other s.rules None waiting position word h).0
other_good s waiting position word h all free good = go (bytes_eq word (45 ∷ 45 ∷ [])) free
  where
    short : (o : Option Text) → option_map_or (λ flags. bundle_fault s.rules s.args_override_self flags h) o [] ≡ [] → IsGoodHeld s.rules (short_or_plain s.rules waiting word o h).0
    short None e = plain_good s.rules waiting word h good
    short (Some flags) e = flag_good s.rules waiting word (bundle s.rules flags h).0 (bundle s.rules flags h).1
        (bundle_good s.rules s.args_override_self (length flags) flags h.skip plain (record h { skip = 0 }) all e good)

    long : (o : Option (Text × Option Text)) → flag_word_fault s.rules s.args_override_self o word h ≡ [] → IsGoodHeld s.rules (long_or_other s.rules waiting word o h).0
    long None e = short (short_of word) e
    long (Some p) e = flag_good s.rules waiting word (long_met s.rules (arg_by_long s.rules p.0) p.1 h).0 (long_met s.rules (arg_by_long s.rules p.0) p.1 h).1
        (long_good s.rules s.args_override_self (arg_by_long s.rules p.0) p.1 h all (λ a f. find_each (IsPlainRule s.rules) (λ a. not (is_some a.index) && has_long a p.0) s.rules a all f) e good)

    go : (b : Bool) → cond b [] (flag_word_fault s.rules s.args_override_self (long_of word) word h) ≡ []
        → IsGoodHeld s.rules (cond b (h, trailing position) (long_or_other s.rules waiting word (long_of word) h)).0
    go true e = good
    go false e = long (long_of word) e

word_good : (s : Shape) (is_trailing : Bool) (waiting : Waiting) (position : ℕ) (word : Text) (h : Held) → ArePlain s.rules → word_fault s [] is_trailing waiting word h ≡ []
    → IsGoodHeld s.rules h → IsGoodHeld s.rules (word_met s.rules [] is_trailing waiting position word h).0
word_good s true waiting position word h all free good = good
word_good s false idle position word h all free good = other_good s idle position word h all free good
word_good s false (option id) position word h all free good = other_good s (option id) position word h all free good
word_good s false positional position word h all free good = other_good s positional position word h all free good

step_good : (s : Shape) (word : Text) (w : Walk) (h : Held) (step : Step) → ArePlain s.rules → step_fault s w.position h step ≡ [] → IsGoodHeld s.rules h
    → IsGoodHeld s.rules (after_step s.rules word w h step).held
step_good s word w h (next waiting) all free good = good
step_good s word w h (trailing position) all free good = good
step_good s word w h (subcommand name) all free good = good
step_good s word w h value all free good = go (arg_by_index s.rules w.position) free
  where
    held : (a : Rule) (b : Bool) → cond b [] (settle_fault s.rules s.args_override_self h) ≡ [] → Each (IsGood s.rules) (cond b h (settled s.rules h)).rows
    held a true e = good
    held a false e = settled_good s.rules s.args_override_self h all e good

    go : (o : Option Rule) → option_map_or (λ a. positional_fault s.rules s.args_override_self a h) o (stray_fault s) ≡ [] → IsGoodHeld s.rules (to_positional s.rules o word w h).held
    go None e = good
    go (Some a) e = held a (is_pending a h.pending && takes_several a) e

turn_good : (s : Shape) (w : Walk) (word : Text) → ArePlain s.rules → turn_fault s [] w word ≡ [] → IsGoodHeld s.rules w.held → IsGoodHeld s.rules (walked s.rules [] w word).held
unfolding walked
turn_good s w word all free good = go w.stopped free
  where
    go : (o : Option (Text × List Text)) → cond (is_some o) [] (or_else (word_fault s [] w.is_trailing w.waiting word w.held)
        (step_fault s w.position (word_met s.rules [] w.is_trailing w.waiting w.position word w.held).0 (word_met s.rules [] w.is_trailing w.waiting w.position word w.held).1)) ≡ []
        → IsGoodHeld s.rules (walked_from s.rules [] o w word).held
    go (Some p) e = good
    go None e =
        let here = first_free (word_fault s [] w.is_trailing w.waiting word w.held) _ e in
        let after = then_free (word_fault s [] w.is_trailing w.waiting word w.held) _ e in
        step_good s word w (word_met s.rules [] w.is_trailing w.waiting w.position word w.held).0 (word_met s.rules [] w.is_trailing w.waiting w.position word w.held).1 all after
        (word_good s w.is_trailing w.waiting w.position word w.held all here good)

-- ---- all the words

pub walk_good : (s : Shape) (w : Walk) (words : List Text) → ArePlain s.rules → walk_fault s [] w words ≡ [] → IsGoodHeld s.rules w.held
    → IsGoodHeld s.rules (fold (walked s.rules []) w words).held
unfolding walk_fault
walk_good s w [] all free good = good
walk_good s w (word ∷ rest) all free good =
    walk_good s (walked s.rules [] w word) rest all (then_free (turn_fault s [] w word) (walk_fault s [] (walked s.rules [] w word) rest) free)
    (turn_good s w word all (first_free (turn_fault s [] w word) (walk_fault s [] (walked s.rules [] w word) rest) free) good)

default_good : (c : List Rule) (rows : List Row) (a : Rule) → IsPlainRule c a → default_fault rows a ≡ [] → Each (IsGood c) rows → Each (IsGood c) (with_default rows a)
default_good c rows a rule free good = go (has_row a.id rows) free
  where
    given : (vs : List Text) → cond (is_empty vs) [] (given_default_fault a vs) ≡ [] → Each (IsGood c) (default_rows a.id (reading_by a) vs rows)
    given [] e = good
    given (v ∷ vs) e =
        let filled : is_empty (v ∷ vs) ≡ false = ne_eqb (length (v ∷ vs)) 0 (λ p. absurd (omega arith)) in
        let passes = subst (λ (b : Bool). cond b [] (given_default_fault a (v ∷ vs)) ≡ []) filled e in
        with_good c a (reading_by a) DefaultValue (v ∷ vs) rows rule.own (omega arith) (then_free (request_kinds (action_of a)) (values_fault a (v ∷ vs)) passes) good

    go : (b : Bool) → cond (b || is_empty a.defaults) [] (given_default_fault a a.defaults) ≡ [] → Each (IsGood c) (cond b rows (default_rows a.id (reading_by a) a.defaults rows))
    go true e = good
    go false e = given a.defaults e

pub defaults_good : (c xs : List Rule) (rows : List Row) → Each (IsPlainRule c) xs → defaults_fault rows xs ≡ [] → Each (IsGood c) rows → Each (IsGood c) (fold with_default rows xs)
unfolding defaults_fault
defaults_good c [] rows all free good = good
defaults_good c (a ∷ rest) rows all free good =
    defaults_good c rest (with_default rows a) all.1 (then_free (default_fault rows a) (defaults_fault (with_default rows a) rest) free)
    (default_good c rows a all.0 (first_free (default_fault rows a) (defaults_fault (with_default rows a) rest) free) good)

-- what a level of a parse with no fault finds
pub record IsFound (s : Shape) (words : List Text) : Type 0 where
  pub good : Each (IsGood s.rules) (rows_after s.rules [] words)
  pub checked : check_fault s (rows_after s.rules [] words) false ≡ []

pub level_found : (s : Shape) (words : List Text) → ArePlain s.rules → level_fault s [] nothing_held words false [] ≡ [] → IsFound s words
level_found s words all free =
    let end : Held = (walk s.rules [] nothing_held words).held in
    let again = s.args_override_self in
    let settles = settle_fault s.rules again end in
    let fills = defaults_fault (settled s.rules end).rows s.rules in
    let checks = check_fault s (finished s.rules end) false in
    let walks = first_free (walk_fault s [] (walk_from nothing_held) words) (or_else settles (or_else fills checks)) free in
    let past : or_else settles (or_else fills checks) ≡ [] = then_free (walk_fault s [] (walk_from nothing_held) words) (or_else settles (or_else fills checks)) free in
    let settled_free = first_free settles (or_else fills checks) past in
    let past2 : or_else fills checks ≡ [] = then_free settles (or_else fills checks) past in
    let walk_rows : IsGoodHeld s.rules end = walk_good s (walk_from nothing_held) words all walks tt in
    let settled_rows_good : Each (IsGood s.rules) (settled s.rules end).rows = settled_good s.rules again end all settled_free walk_rows in record {
      good = defaults_good s.rules s.rules (settled s.rules end).rows all (first_free fills checks past2) settled_rows_good;
      checked = then_free fills checks past2;
    }
