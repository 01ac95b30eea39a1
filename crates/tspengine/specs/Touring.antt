-- How a call of `tour` ends.
use Rattle.std.specs.Prelude.{◌≡◌, ℕ, ◌⊎◌, List, take}
use Rattle.tspdef.specs.Instances.{Instance}
use Rattle.tspinst.specs.Texts.{InstanceText}
use Rattle.tspwords.specs.Program.{IsTourCall, instance_word}
use Rattle.tspengine.specs.Calls.{Call, DeskHad, DeskIs, DeskTold, SlotsKept, IsDeskCalm}
use Rattle.tspengine.specs.Steps.{reads, prints}
use Rattle.tspengine.specs.Outcomes.{IsTouring}
use Rattle.tspengine.specs.Headline.{Toured}
use Rattle.tspengine.specs.Readings.{Refuses, TornRefusal, Unread}
use Rattle.tspengine.specs.declared.statuses.Status.{Status}
use Rattle.tspengine.specs.declared.statuses.Status.TheVariants as status

-- WriteFault after the tour was found: a front of its text is printed.
pub record TornTour (c : Call) : Type 0 where
  pub instance : Instance
  pub tour_text : List ℕ
  pub front : ℕ
  pub bytes_read : DeskHad (λ t. InstanceText t.instance instance) c
  pub touring : IsTouring instance tour_text
  pub desk : DeskIs (λ t. prints (take front tour_text) (reads (instance_word c.words) t)) c
  pub slots : SlotsKept c

-- It ends with one of these statuses, and so.
abbrev pub Tours : Status → Call → Type 0
Tours s c = ((s ≡ status.Toured) × Toured c)
    ⊎ ((s ≡ status.BadInstance) × Refuses c)
    ⊎ ((s ≡ status.ReadFault) × Unread c)
    ⊎ ((s ≡ status.WriteFault) × (TornRefusal c ⊎ TornTour c))
    ⊎ ((s ≡ status.NoMemory) × Unread c)

-- Where the bytes are an instance's text and nothing fails, it ends with Toured, or for want of memory.
abbrev pub TourCompletes : Status → Call → Type 0
TourCompletes s c = (i : Instance) → IsTourCall c.words → DeskTold (λ t. InstanceText t.instance i) c → IsDeskCalm c
    → (s ≡ status.Toured) ⊎ (s ≡ status.NoMemory)
