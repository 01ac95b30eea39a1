-- What a store keeps of its slots.
use Rattle.std.specs.Prelude.{◌≡◌, IfSome}
use Rattle.ports.specs.Slots.{SlotsTold}
use Rattle.slotstore.specs.Crashing.{IsSettled}
use Rattle.slotstore.specs.Store.{target, target_number}
use Rattle.slotstore.specs.declared.target.Target.{Target}
use Rattle.slotstore.specs.declared.store.Store.{Store}

-- a crash leaves what reads give, and a save writes this slot, with this number
pub record IsNext (next : Target) (t : SlotsTold) : Type 0 where
  pub settled : IsSettled t
  pub slot : next.slot ≡ target t
  pub number : next.number ≡ target_number t

-- where it keeps where the next save goes, so it is
abbrev pub StandsFor : Store → SlotsTold → Type 0
StandsFor store t = IfSome store.next (λ next. IsNext next t)
