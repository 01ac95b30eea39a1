-- A book at its start.
use Rattle.std.proofs.Common.{◌≡◌, ℕ, ◌+◌, ◌-◌, ◌*◌, ◌<◌, ◌≤◌, List, [], length, refl, sym, ◌∙◌, ap, subst, arith}
use Rattle.std.specs.Prelude.{ℤ, pos, replicate, vec_capacity}
use Rattle.std.proofs.lemmas.List.{length-replicate}
use Rattle.tspdef.specs.Instances.{Instance, IsInstance, IsTourOf, length_in}
use Rattle.tspdef.specs.Trees.{settled, IsSoundFor}
use Rattle.treebook.specs.Tables.{Node, tree_of, IsTable}
use Rattle.treebook.specs.Tree as trees
use Rattle.leasebook.specs.declared.lease.Lease.{Lease}
use Rattle.leasebook.specs.declared.lease.Entry.{Entry}
use Rattle.leasebook.specs.Log.{Table}
use Rattle.bossx.specs.Books.{Book}
use Rattle.bossx.specs.Kept.{IsBook}
use Rattle.bossx.specs.Answers.{AreOpenBelow}
use Rattle.bossx.specs.declared.boss.Boss.TheInside.{Inside}
use Rattle.bossx.specs.BossInside.{AreFree, IsWellKept}
use Rattle.bossx.proofs.FreeLemmas.{first_free}

abbrev pub begun : Instance → trees.Table → Table → List ℕ → ℕ → ℕ → ℕ → Book
begun i t leases best budget grunts gap = record {
  instance = i;
  tree = t;
  keys = replicate (length t.nodes) (pos 0);
  table = record leases { leases = []; log = [] };
  best = best;
  settled = 0;
  budget = budget;
  grunts = grunts;
  gap = gap;
  start = record { nodes = t.nodes; length = length_in i best };
}

pub begun_book : (i : Instance) (t : trees.Table) (leases : Table) (best : List ℕ) (budget grunts gap : ℕ) → IsInstance i → IsTourOf i best → t.n ≡ i.n → t.fixed ≡ i.fixed → IsTable t.n t.fixed t.nodes
    → IsSoundFor i (length_in i best - gap) (tree_of t.nodes) → IsBook (begun i t leases best budget grunts gap)
begun_book i t leases best budget grunts gap is tour cities fixed table sound =
    let table_n : IsTable i.n t.fixed t.nodes = subst (λ (n : ℕ). IsTable n t.fixed t.nodes) cities table in
    record {
      instance = is;
      tour = tour;
      no_longer = omega arith;
      tree = record { cities = cities; fixed = fixed; is_table = subst (λ (ps : List (ℕ × ℕ)). IsTable i.n ps t.nodes) fixed table_n };
      sound = sound;
      keys = length-replicate (length t.nodes) (pos 0);
      apart = λ x y d less within. absurd (omega (arith, within));
      names = λ l within. absurd (omega (arith, within));
      counted = omega arith;
      charged = record { within = omega arith; grants = omega arith; entries = omega arith; done = omega arith; made = omega arith };
      replays = refl;
    }

moved : (P : List ℤ → Table → ℕ → List Node → ℕ → Type 0) (ks ks' : List ℤ) (t t' : Table) (n n' : ℕ) (ns ns' : List Node) (l l' : ℕ) → ks' ≡ ks → t' ≡ t → n' ≡ n → ns' ≡ ns → l' ≡ l → P ks t n ns l → P ks' t' n' ns' l'
moved P ks ks' t t' n n' ns ns' l l' a b c d e p =
    subst (λ z. P z t' n' ns' l') (sym a) (subst (λ z. P ks z n' ns' l') (sym b) (subst (λ z. P ks t z ns' l') (sym c) (subst (λ z. P ks t n z l') (sym d) (subst (λ z. P ks t n ns z) (sym e) p))))

emptied : (t : Table) → t.leases ≡ [] → t.log ≡ [] → t ≡ record t { leases = []; log = [] }
emptied t a b = ap (λ (ls : List Lease). record t { leases = ls }) a ∙ ap (λ (es : List Entry). record t { leases = []; log = es }) b

-- what a boss has whose room is taken
pub record IsBegun (x : Inside) : Type 0 where
  pub is_instance : IsInstance x.instance
  pub tour : IsTourOf x.instance x.best
  pub cities : x.tree.n ≡ x.instance.n
  pub pairs : x.tree.fixed ≡ x.instance.fixed
  pub is_table : IsTable x.tree.n x.tree.fixed x.tree.nodes
  pub sound : IsSoundFor x.instance (length_in x.instance x.best - x.gap) (tree_of x.tree.nodes)
  pub few : length x.tree.nodes + 2 * x.budget ≤ 1048576
  pub room : 2 * x.budget ≤ x.tree.room
  pub zeros : x.keys.items ≡ replicate (length x.tree.nodes) (pos 0)
  pub key_room : length x.tree.nodes + 2 * x.budget ≤ vec_capacity x.keys
  pub open_ones : AreOpenBelow x.tree.nodes (length x.tree.nodes) x.free
  pub places : length x.tree.nodes + 2 * x.budget ≤ x.free.size
  pub leases : x.table.leases ≡ []
  pub log : x.table.log ≡ []
  pub lease_room : x.budget + 256 ≤ x.table.lease_room
  pub entry_room : 3 * x.budget + 512 ≤ x.table.entry_room
  pub names : length x.tree.nodes + 2 * x.budget ≤ x.table.nodes
  pub grunts : x.grunts < x.table.grunts
  pub none_settled : x.settled ≡ 0
  pub opened : x.opening.value ≡ x.tree
  pub long : x.length ≡ length_in x.instance x.best
  pub first_long : x.first_length ≡ length_in x.instance x.best
  pub first_nodes : x.first_nodes ≡ length x.tree.nodes
  pub first_settled : x.first_settled ≡ settled (tree_of x.tree.nodes)

pub begun_kept : (x : Inside) → IsBegun x → IsWellKept x
begun_kept x s =
    let nodes = x.tree.nodes in
    let zeros = replicate (length nodes) (pos 0) in
    let long = length_in x.instance x.best in
    let opened : x.opening.value.nodes ≡ nodes = ap (λ (t : trees.Table). t.nodes) s.opened in
    let count = ap length opened in
    let key_room = s.key_room in let places = s.places in let room = s.room in let few = s.few in let names = s.names in
    let none = s.none_settled in
    record {
      book = moved (λ ks t n ns l. IsBook (record { instance = x.instance; tree = x.tree; keys = ks; table = t; best = x.best; settled = n; budget = x.budget; grunts = x.grunts; gap = x.gap; start = record { nodes = ns; length = l } }))
          zeros x.keys.items (record x.table { leases = []; log = [] }) x.table 0 x.settled nodes x.opening.value.nodes long x.first_length
          s.zeros (emptied x.table s.leases s.log) s.none_settled opened s.first_long
          (begun_book x.instance x.tree x.table x.best x.budget x.grunts x.gap s.is_instance s.tour s.cities s.pairs s.is_table s.sound);
      room = record {
        leases = s.lease_room;
        entries = s.entry_room;
        nodes = omega (arith, room);
        names = omega (arith, count, names);
        grunts = s.grunts;
        few = omega (arith, count, few);
      };
      long = s.long;
      free = subst (λ (ls : List Lease). AreFree nodes ls x.keys.items x.free) (sym s.leases) (subst (λ (ks : List ℤ). AreFree nodes [] ks x.free) (sym s.zeros) (first_free nodes x.free s.open_ones));
      places = omega (arith, count, places);
      keys = omega (arith, count, key_room);
      first_nodes = s.first_nodes ∙ sym count;
      first_settled = s.first_settled ∙ ap (λ (ns : List Node). settled (tree_of ns)) (sym opened);
    }
