-- How many rows a node begins with.
use Rattle.std.proofs.Common.{◌≡◌, ℕ, zero, suc, ◌+◌, ◌<◌, ◌≤◌, List, [], ◌∷◌, ◌++◌, length, Bool, true, Some, None, refl, sym, ap, subst, ◌∙◌, arith}
use Rattle.std.specs.Prelude.{Option}
use Rattle.std.proofs.lemmas.List.{length-append}
use Rattle.tspdef.specs.Instances.{Instance}
use Rattle.tspdef.specs.Paths.{Condition, fixed, absent, present, two, four}
use Rattle.simplex.specs.Lp.{Program, is_new_to, is_counted}
use Rattle.simplex.specs.declared.answer.LpAnswer.{LpAnswer}
use Rattle.nodelp.specs.Shapes.{degree_shapes, degree_shape, clique_shapes}
use Rattle.nodelp.specs.Node.{Node, IsNodeLp}
use Rattle.nodelp.specs.Adding.{AreFurther}
use Rattle.worker.specs.Works.{cliques}
use Rattle.grunt.specs.Rounds.{IsBegun, IsReady, HasGrown}
use Rattle.lpcheck.specs.declared.row.Row.{Row}

-- conditions on sets are counted alike
pub cliques_are : (path : List Condition) → length (clique_shapes path) ≡ cliques path
cliques_are [] = refl
cliques_are (fixed u v ∷ path) = cliques_are path
cliques_are (absent u v ∷ path) = cliques_are path
cliques_are (present u v ∷ path) = cliques_are path
cliques_are (two s ∷ path) = ap suc (cliques_are path)
cliques_are (four s ∷ path) = ap suc (cliques_are path)

degrees_are : (n : ℕ) → length (degree_shapes n) ≡ n
degrees_are zero = refl
degrees_are (suc n) = let l = length-append (degree_shapes n) (degree_shape n ∷ []) in let ih = degrees_are n in omega arith

-- a node without cuts has few rows
pub few_rows : (i : Instance) (path : List Condition) (node : Node) → i.n ≤ 2000 → cliques path ≤ 2097152 → node.cuts ≡ [] → IsNodeLp i path node → length node.program.rows ≤ 2099152
few_rows i path node few some none is =
    let all = is.all in
    let l = length-append (degree_shapes i.n) (clique_shapes path) in
    let d = degrees_are i.n in
    let k = cliques_are path in
    let z : length node.cuts ≡ 0 = ap length none in
    omega arith

-- a relaxation without cuts and without solves has begun
pub begun_near : (i : Instance) (path : List Condition) (node : Node) → i.n ≤ 2000 → cliques path ≤ 2097152 → IsNodeLp i path node → node.cuts ≡ [] → node.program.last ≡ None → node.program.rounds ≡ 0 → IsBegun i path node
begun_near i path node few some is none unsolved rounds =
    let rows = few_rows i path node few some none is in
    record { is_lp = is; unsolved = unsolved; rounds = rounds; rows = omega (arith, rows) }

-- so has one that was given cuts before a solve
pub begun_further : (i : Instance) (path : List Condition) (many : ℕ) (before after : Node) → many ≤ 65536 → IsNodeLp i path before → before.program.last ≡ None → before.program.rounds ≡ 0
    → length before.program.rows ≤ 2099152 → AreFurther many before after → IsBegun i path after
begun_further i path many before after few is unsolved rounds rows further =
    let most = further.most in
    record {
      is_lp = further.kept i path is;
      unsolved = ap (λ (p : Program). p.last) further.others ∙ unsolved;
      rounds = ap (λ (p : Program). p.rounds) further.others ∙ rounds;
      rows = omega (arith, most, few, rows);
    }

-- the first solve counts
pub first_counts : (p : Program) → p.last ≡ None → is_counted p ≡ true
first_counts p e = subst (λ (o : Option LpAnswer). (elim o as (λ _. Bool) [ None ↦ true | Some a ↦ is_new_to p a ]) ≡ true) (sym e) refl

-- what has begun is ready
pub begun_ready : (i : Instance) (path : List Condition) (node : Node) → IsBegun i path node → IsReady i path node
begun_ready i path node begun =
    let rounds = begun.rounds in
    let rows = begun.rows in
    record { is_lp = begun.is_lp; counted = first_counts node.program begun.unsolved; rounds = omega (arith, rounds); rows = omega (arith, rounds, rows) }

-- what has grown after a solve is ready again, where not all rounds but the last are used up
pub grown_ready : (i : Instance) (path : List Condition) (before solved after : Node) → IsReady i path before → before.program.rounds < 199 → solved.program.rounds ≡ before.program.rounds + 1 → solved.program.rows ≡ before.program.rows
    → HasGrown i path solved after → IsReady i path after
grown_ready i path before solved after ready few rounds rows grown =
    let same = grown.rounds in
    let most = grown.rows in
    let room = ready.rows in
    let equal = ap (λ (l : List Row). length l) rows in
    record {
      is_lp = grown.is_lp;
      counted = grown.counted;
      rounds = omega (arith, same, rounds, few);
      rows = omega (arith, same, rounds, most, equal, room);
    }

-- a path has no more conditions on sets than conditions
pub cliques_few : (path : List Condition) → cliques path ≤ length path
cliques_few [] = omega arith
cliques_few (fixed u v ∷ path) = let ih = cliques_few path in omega (arith, ih)
cliques_few (absent u v ∷ path) = let ih = cliques_few path in omega (arith, ih)
cliques_few (present u v ∷ path) = let ih = cliques_few path in omega (arith, ih)
cliques_few (two s ∷ path) = let ih = cliques_few path in omega (arith, ih)
cliques_few (four s ∷ path) = let ih = cliques_few path in omega (arith, ih)

-- so has a short path with a condition more
pub few_after : (path child : List Condition) (c : Condition) → length path < 1048576 → child ≡ path ++ c ∷ [] → cliques child ≤ 2097152
few_after path child c few is =
    let k = cliques_few child in
    let l = length-append path (c ∷ []) in
    let e : length child ≡ length (path ++ c ∷ []) = ap length is in
    omega (arith, k, l, e, few)
