-- How a call of `tour` ends.
use Rattle.std.proofs.Common.{◌≡◌, ℕ, List, take, inl, inr, Option}
use Rattle.ports.specs.Outside.{BothTell}
use Rattle.ports.specs.Desk.{Told, Adds}
use Rattle.ports.specs.declared.desk.Outlet.TheVariants as outlet
use Rattle.tspdef.specs.Instances.{Instance}
use Rattle.tspwords.specs.Program.{instance_word}
use Rattle.verification.specs.Transfers.{ReadsInstance}
use Rattle.tspengine.specs.Calls.{Call, SlotsKept}
use Rattle.tspengine.specs.Outcomes.{IsTouring}
use Rattle.tspengine.specs.Touring.{Tours}
use Rattle.tspengine.specs.declared.statuses.Status.{Status}
use Rattle.tspengine.specs.declared.statuses.Status.TheVariants as status
use Rattle.tspengine.proofs.InstanceReads.{EndsRefused, bytes_read, read_and_printed}

pub refused_tour : (s : Status) (c : Call) → EndsRefused s c → Tours s c
refused_tour s c ends = elim ends [
  | inl (e, x) ↦ inr (inl (e, x))
  | inr (inl (e, x)) ↦ inr (inr (inr (inl (e, inl x))))
  | inr (inr (e, x)) ↦ inr (inr (inr (inr (e, x))))
]

pub toured : (s : Status) (c : Call) (i : Instance) (printed : List ℕ) (b : Option Told) → s ≡ status.Toured → IsTouring i printed → SlotsKept c
    → BothTell (ReadsInstance (instance_word c.words) i) c.before.desk b → BothTell (Adds outlet.Text printed) b c.after.desk → Tours s c
toured s c i printed b e touring kept read adds = inl (
  e,
  record {
    instance = i;
    tour = touring.tour;
    tour_text = printed;
    bytes_read = bytes_read (instance_word c.words) i c.before.desk b read;
    is_good = touring.opening;
    says_the_tour = touring.prints;
    desk = read_and_printed (instance_word c.words) printed i c.before.desk b c.after.desk read adds;
    slots = kept;
  },
)

pub torn_tour : (s : Status) (c : Call) (i : Instance) (printed : List ℕ) (k : ℕ) (b : Option Told) → s ≡ status.WriteFault → IsTouring i printed → SlotsKept c
    → BothTell (ReadsInstance (instance_word c.words) i) c.before.desk b → BothTell (Adds outlet.Text (take k printed)) b c.after.desk → Tours s c
torn_tour s c i printed k b e touring kept read adds = inr (inr (inr (inl (
  e,
  inr (record {
    instance = i;
    tour_text = printed;
    front = k;
    bytes_read = bytes_read (instance_word c.words) i c.before.desk b read;
    touring = touring;
    desk = read_and_printed (instance_word c.words) (take k printed) i c.before.desk b c.after.desk read adds;
    slots = kept;
  }),
))))
