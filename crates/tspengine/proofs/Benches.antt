-- How a call of `bench` ends.
use Rattle.std.proofs.Common.{◌≡◌, ℕ, ◌+◌, ◌≤◌, List, refl, ap, sym, subst, ◌∙◌, inl, inr, string_bytes, arith, Option, Some, None}
use Rattle.std.specs.Global.{Vec}
use Rattle.ports.specs.Outside.{BothTell}
use Rattle.clap.specs.Walk.{Text}
use Rattle.tspdef.specs.Instances.{Instance, length_in}
use Rattle.tspdef.specs.Trees.{settled}
use Rattle.certdef.specs.Proofs.{Proof, text}
use Rattle.certdef.specs.Accepted.{IsAcceptedText, IsTextOf, IsBoundOf}
use Rattle.certdef.specs.Restarts.{IsSoundProof}
use Rattle.tspgen.specs.Points.{drawn}
use Rattle.tspwords.specs.Program.{seed_of, budget_of, out_word}
use Rattle.tspwords.specs.Says.{SaysBench}
use Rattle.tspwords.specs.declared.words.BenchWords.{BenchWords}
use Rattle.tspengine.specs.Calls.{Call, SlotsKept}
use Rattle.tspengine.specs.Steps.{writes, prints, TearsWriting}
use Rattle.tspengine.specs.Drawn.{drawn_by}
use Rattle.tspengine.specs.Starts.{Start, BeginsAnew}
use Rattle.tspengine.specs.Outcomes.{IsProved, IsProofOf, IsBodyOf}
use Rattle.tspengine.specs.Benching.{Benches, IsBenchOutcome, IsSmallBench}
use Rattle.tspengine.specs.declared.outcomes.Closed.{Closed}
use Rattle.tspengine.specs.declared.outcomes.Outcome.{Outcome}
use Rattle.tspengine.specs.declared.outcomes.Outcome.TheVariants as outcome
use Rattle.tspengine.specs.declared.statuses.Status.TheVariants as status

-- the instance and the budget are those of the words
same_drawn : (words : List Text) (b : BenchWords) → SaysBench words b → drawn b.seed b.cities ≡ drawn_by words
same_drawn words b says = ap (λ (x : ℕ). drawn x b.cities) says.seed ∙ ap (drawn (seed_of words)) says.cities

-- what came of it is of the words' instance and budget
pub outcome_of_words : (words : List Text) (b : BenchWords) (o : Outcome) → SaysBench words b → IsBenchOutcome (drawn b.seed b.cities) b.budget o → IsBenchOutcome (drawn_by words) (budget_of words) o
outcome_of_words words b o says is = subst (λ (i : Instance). IsBenchOutcome i (budget_of words) o) (same_drawn words b says)
    (subst (λ (n : ℕ). IsBenchOutcome (drawn b.seed b.cities) n o) says.budget is)

-- without a gap the bound is the length
no_gap : (i : Instance) (budget : ℕ) (s : Start) (tour : List ℕ) (l b : ℕ) (proof : List ℕ) → IsProved i budget 0 s tour l b proof → b ≡ l
no_gap i budget s tour l b proof is = let below = is.below in let near = is.near in omega arith

-- of a body too: the bound of a text is its length, or less
exact : (i : Instance) (p : Proof) (b : ℕ) → IsSoundProof i p.long b p → p.long ≤ b + 0 → b ≡ p.long
exact i p b sound near = go p.bound sound.about.bound
  where
    go : (o : Option ℕ) → IsBoundOf o p.long b → b ≡ p.long
    go None e = e
    go (Some told) e = let less = e.1 in absurd (omega arith)

-- and nothing was settled before
none_before : (i : Instance) (s : Start) → BeginsAnew i s → settled s.tree ≡ 0
none_before i s anew = ap settled anew.tree

pub benched : (c : Call) (b : BenchWords) (closed : Closed) → SaysBench c.words b → SlotsKept c → IsBenchOutcome (drawn b.seed b.cities) b.budget (outcome.Closed closed)
    → BothTell (λ t u. u ≡ prints closed.line.items (writes (string_bytes b.out) closed.proof.items t)) c.before.desk c.after.desk → Benches status.Benched c
benched c b closed says kept is wrote =
    let o = outcome_of_words c.words b (outcome.Closed closed) says is in
    let i = drawn_by c.words in
    let l = closed.length in
    let proof = closed.proof.items in
    let p : IsProofOf i (budget_of c.words) 0 o.start closed = o.outcome in
    let equal = no_gap i (budget_of c.words) o.start p.tour l closed.bound proof p.proved in
    let at = subst (λ (w : List ℕ). BothTell (λ t u. u ≡ prints closed.line.items (writes w proof t)) c.before.desk c.after.desk) says.out wrote in
    let none = none_before i o.start o.anew in
    let few = p.proved.few in
    inl (
      refl,
      record {
        length = l;
        proof = proof;
        value = p.proved.value;
        no_tour_is_shorter = λ other t. subst (λ (k : ℕ). k ≤ length_in i other) equal (p.proved.no_shorter other t);
        proof_is_accepted = subst (λ (k : ℕ). IsAcceptedText i proof l k) equal p.proved.accepted;
        proof_text = subst (λ (k : ℕ). IsTextOf i proof l k p.proved.value) equal p.proved.written;
        within_budget = omega arith;
        desk = subst (λ (x : List ℕ). BothTell (λ t u. u ≡ prints x (writes (out_word c.words) proof t)) c.before.desk c.after.desk) p.lines at;
        slots = kept;
      },
    )

pub bench_stopped : (c : Call) (b : BenchWords) (body printed : Vec ℕ) → SaysBench c.words b → SlotsKept c → IsBenchOutcome (drawn b.seed b.cities) b.budget (outcome.Stopped body printed)
    → (b.cities ≤ 5 → 2047 ≤ b.budget → ⊥)
    → BothTell (λ t u. u ≡ prints printed.items (writes (string_bytes b.out) body.items t)) c.before.desk c.after.desk → Benches status.BenchStopped c
bench_stopped c b body printed says kept is large wrote =
    let o = outcome_of_words c.words b (outcome.Stopped body printed) says is in
    let i = drawn_by c.words in
    let p : IsBodyOf i (budget_of c.words) 0 o.start body.items printed.items = o.outcome in
    let on = p.stopped.on_the_way in
    let at = subst (λ (w : List ℕ). BothTell (λ t u. u ≡ prints printed.items (writes w body.items t)) c.before.desk c.after.desk) says.out wrote in
    let of_body = subst (λ (x : List ℕ). BothTell (λ t u. u ≡ prints printed.items (writes (out_word c.words) x t)) c.before.desk c.after.desk) p.is_text at in
    let whole : on.bound ≡ p.body.long = exact i p.body on.bound on.sound on.near in
    inr (inl (
      refl,
      record {
        start = o.start;
        body = p.body;
        begins = o.anew;
        body_is_sound = (on.form, subst (λ (k : ℕ). IsSoundProof i p.body.long k p.body) whole on.sound);
        no_longer_than_opening = on.no_longer;
        a_node_is_open = on.some_open;
        budget_is_settled = let all = p.stopped.settled in let none = none_before i o.start o.anew in omega arith;
        splits_were_needed = on.grown;
        desk = subst (λ (x : List ℕ). BothTell (λ t u. u ≡ prints x (writes (out_word c.words) (text p.body) t)) c.before.desk c.after.desk) p.prints of_body;
        slots = kept;
      },
      λ (small : IsSmallBench c.words). large (subst (λ (k : ℕ). k ≤ 5) (sym says.cities) small.few) (subst (λ (k : ℕ). 2047 ≤ k) (sym says.budget) small.enough),
    ))

pub torn_benched : (c : Call) (b : BenchWords) (closed : Closed) → SaysBench c.words b → SlotsKept c → IsBenchOutcome (drawn b.seed b.cities) b.budget (outcome.Closed closed)
    → BothTell (TearsWriting (string_bytes b.out) closed.proof.items closed.line.items) c.before.desk c.after.desk → Benches status.WriteFault c
torn_benched c b closed says kept is tears =
    let o = outcome_of_words c.words b (outcome.Closed closed) says is in
    let i = drawn_by c.words in
    let l = closed.length in
    let proof = closed.proof.items in
    let p : IsProofOf i (budget_of c.words) 0 o.start closed = o.outcome in
    let equal = no_gap i (budget_of c.words) o.start p.tour l closed.bound proof p.proved in
    let at = subst (λ (w : List ℕ). BothTell (TearsWriting w proof closed.line.items) c.before.desk c.after.desk) says.out tears in
    inr (inr (inl (
      refl,
      inl (record {
        start = o.start;
        tour = p.tour;
        length = l;
        proof = proof;
        anew = o.anew;
        proved = subst (λ (k : ℕ). IsProved i (budget_of c.words) 0 o.start p.tour l k proof) equal p.proved;
        desk = subst (λ (x : List ℕ). BothTell (TearsWriting (out_word c.words) proof x) c.before.desk c.after.desk) p.lines at;
        slots = kept;
      }),
    )))

pub torn_bench_stopped : (c : Call) (b : BenchWords) (body printed : Vec ℕ) → SaysBench c.words b → SlotsKept c → IsBenchOutcome (drawn b.seed b.cities) b.budget (outcome.Stopped body printed)
    → BothTell (TearsWriting (string_bytes b.out) body.items printed.items) c.before.desk c.after.desk → Benches status.WriteFault c
torn_bench_stopped c b body printed says kept is tears =
    let o = outcome_of_words c.words b (outcome.Stopped body printed) says is in
    let i = drawn_by c.words in
    let p : IsBodyOf i (budget_of c.words) 0 o.start body.items printed.items = o.outcome in
    let at = subst (λ (w : List ℕ). BothTell (TearsWriting w body.items printed.items) c.before.desk c.after.desk) says.out tears in
    let of_body = subst (λ (x : List ℕ). BothTell (TearsWriting (out_word c.words) x printed.items) c.before.desk c.after.desk) p.is_text at in
    inr (inr (inl (
      refl,
      inr (record {
        start = o.start;
        body = p.body;
        anew = o.anew;
        stopped = p.stopped;
        desk = subst (λ (x : List ℕ). BothTell (TearsWriting (out_word c.words) (text p.body) x) c.before.desk c.after.desk) p.prints of_body;
        slots = kept;
      }),
    )))
