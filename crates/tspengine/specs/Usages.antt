-- How a call ends whose words are of no command's form.
use Rattle.std.specs.Prelude.{◌≡◌, ℕ, ◌⊎◌, take}
use Rattle.tspengine.specs.Calls.{Call, DeskIs, SlotsKept}
use Rattle.tspengine.specs.Steps.{prints}
use Rattle.tspengine.specs.Texts.{usage_text}
use Rattle.tspengine.specs.declared.statuses.Status.{Status}
use Rattle.tspengine.specs.declared.statuses.Status.TheVariants as status

-- Usage: the usage is printed.
pub record Usage (c : Call) : Type 0 where
  pub desk : DeskIs (prints usage_text) c
  pub slots : SlotsKept c

-- WriteFault: a front of it is printed.
pub record TornUsage (c : Call) : Type 0 where
  pub front : ℕ
  pub desk : DeskIs (prints (take front usage_text)) c
  pub slots : SlotsKept c

-- NoMemory: nothing is done.
pub record Unused (c : Call) : Type 0 where
  pub desk : c.after.desk ≡ c.before.desk
  pub slots : SlotsKept c

-- It ends with one of these statuses, and so.
abbrev pub Uses : Status → Call → Type 0
Uses s c = ((s ≡ status.Usage) × Usage c)
    ⊎ ((s ≡ status.WriteFault) × TornUsage c)
    ⊎ ((s ≡ status.NoMemory) × Unused c)
