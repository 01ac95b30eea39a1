use Rattle.std.proofs.Common.{ℕ, refl, subst}
use Rattle.treebook.specs.Tables.{IsTable}
use Rattle.bossx.proofs.Beginning.{begun_kept}
use Rattle.bossx.proofs.boss.Boss.begin.Goals as goal

pub invariant_of-result : goal.invariant_of-result
invariant_of-result c = begun_kept _ (record {
  is_instance = c.n-many.ensures.instance;
  tour = c.requires.tour;
  cities = c.requires.cities;
  pairs = c.requires.fixed;
  is_table = subst (λ (n : ℕ). IsTable n c.args.tree.fixed c.args.tree.nodes) c.n-table.ensures.value c.n-table.ensures.is_table;
  sound = c.requires.sound;
  few = c.requires.few;
  room = c.requires.room;
  zeros = c.requires.keys;
  key_room = c.requires.key_room;
  open_ones = c.requires.free;
  places = c.requires.places;
  leases = c.requires.empty.0;
  log = c.requires.empty.1;
  lease_room = c.requires.leases;
  entry_room = c.requires.entries;
  names = c.requires.names;
  grunts = c.requires.grunts;
  none_settled = refl;
  opened = c.of-opening.ensures;
  long = c.length-first_length.ensures;
  first_long = c.length-first_length.ensures;
  first_nodes = c.nodes-first_nodes.ensures.number;
  first_settled = c.settled-first_settled.ensures;
})
