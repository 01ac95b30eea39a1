-- What the grunts of a round share may be used by many threads at once.
use denote.RattleType.{RattleType}
use denote.Ref.{NamedLft}
use denote.Param.Send.{IsSend, IsSync, sendable}
use Rattle.std.specs.declared.sync.ledger.Ledger as Ledger
use Rattle.std.proofs.Crossing.{crosses}
use Rattle.boxcar.proofs.Sent.{slot_send, slot_sync, tag_sync}
use Rattle.cyc.specs.contracts.tour.Tour as Tour
use Rattle.cyc.specs.contracts.marks.Marks as Marks
use Rattle.cyc.specs.contracts.city_set.CitySet as CitySet
use Rattle.cutform.specs.contracts.cut.Cut as Cut
use Rattle.cutpool.specs.contracts.seat.SharedPool as SharedPool
use Rattle.neigh.specs.contracts.lists.Neigh as Neigh
use Rattle.pricer.specs.contracts.closing.Closing as Closing
use Rattle.treebook.specs.contracts.node.Node as Node
use Rattle.tspinst.specs.contracts.table.Instance as Instance
use Rattle.treebook.specs.contracts.tree.Tree as Tree
use Rattle.tournament.specs.contracts.Tournament as Tournament
use Rattle.leasebook.specs.contracts.table.LeaseTable as Table
use Rattle.bossx.specs.contracts.boss.Boss as Boss
use Rattle.worker.specs.declared.workers.Worker as Worker
use Rattle.ports.specs.declared.posts.Posts as Posts
use Rattle.tspround.specs.declared.opening.Opening as Opening
use Rattle.tspround.proofs.held.Ledgers.TheSendSync.{the_field_send as ledgers_send}
use Rattle.tspround.specs.contracts.held.Held as Held
use Rattle.tspround.specs.contracts.room.Room as Room

table_send : IsSend Table.the_row
table_send = search (sendable, crosses) depth 40

tour_send : IsSend Tour.the_row
tour_send = search (sendable, crosses) depth 40

instance_send : IsSend Instance.the_row
instance_send = search (sendable, crosses) depth 40

marks_send : IsSend Marks.the_row
marks_send = search (sendable, crosses) depth 40

city_set_send : IsSend CitySet.the_row
city_set_send = search (sendable, crosses, marks_send) depth 40

cut_send : IsSend Cut.the_row
cut_send = search (sendable, crosses, city_set_send) depth 40

closing_send : IsSend Closing.the_row
closing_send = search (sendable, crosses, cut_send) depth 40

node_send : IsSend Node.the_row
node_send = search (sendable, crosses, closing_send, city_set_send) depth 40

tree_send : IsSend Tree.the_row
tree_send = search (sendable, crosses, node_send) depth 40

tournament_send : IsSend Tournament.the_row
tournament_send = search (sendable, crosses) depth 40

boss_send : IsSend Boss.the_row
boss_send = search (sendable, crosses, table_send, tour_send, instance_send, tree_send, tournament_send) depth 40

-- the value behind the boss's lock may cross to another thread
pub held_send : (T T' T'' T''' : RattleType) (j : Opening.Ghosts T.Denot) (w : Worker.Ghosts T'.Denot) (l : Ledger.Ghosts T''.Denot) (m : Ledger.Ghosts T'''.Denot)
    → IsSend (Held.the_row T T' T'' T''' j w l m)
held_send T T' T'' T''' j w l m = search (sendable, crosses, boss_send, ledgers_send) depth 40

-- ---- what is shared

marks_sync : IsSync Marks.the_row
marks_sync = search (sendable, crosses) depth 40

city_set_sync : IsSync CitySet.the_row
city_set_sync = search (sendable, crosses, marks_sync) depth 40

cut_sync : IsSync Cut.the_row
cut_sync = search (sendable, crosses, city_set_sync) depth 40

instance_sync : IsSync Instance.the_row
instance_sync = search (sendable, crosses) depth 40

lists_sync : IsSync Neigh.the_row
lists_sync = search (sendable, crosses) depth 40

pool_sync : IsSync SharedPool.the_row
pool_sync = search (sendable, crosses, cut_send, cut_sync, slot_sync, slot_send, tag_sync) depth 60

pub room_sync : (κ : NamedLft) (J W P G L M : RattleType) (j : Opening.Ghosts J.Denot) (w : Worker.Ghosts W.Denot) (p : Posts.Ghosts P.Denot) (l : Ledger.Ghosts L.Denot) (m : Ledger.Ghosts M.Denot)
    → IsSync W → IsSync P → IsSync G → IsSync (Room.the_row κ J W P G L M j w p l m)
room_sync κ J W P G L M j w p l m yw yp yg = search (sendable, crosses, held_send, pool_sync, lists_sync, instance_send, instance_sync) depth 60
