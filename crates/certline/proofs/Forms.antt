-- an item that is read is of the form
use Rattle.std.proofs.Common.{◌≡◌, ℕ, true, List, Option, Some, None, Result, Ok, Err, sym}
use Rattle.std.specs.Prelude.{IfOk, IfSome}
use Rattle.certdef.specs.Items.{fits}
use Rattle.verdict.proofs.Lines.{item_said}
use Rattle.certline.specs.Said.{said, ReadsAs}
use Rattle.certline.specs.declared.item.Item.{Item}

pub of_form : {E : Type 0} (n : ℕ) (bytes : List ℕ) (r : Result (Option Item) E) → IfOk r (λ o. ReadsAs n bytes o) → IfOk r (λ o. IfSome o (λ i. fits n (said i) ≡ true))
of_form n bytes (Ok None) h = tt
of_form n bytes (Ok (Some i)) h = (item_said n bytes (said i) (sym h)).1
of_form n bytes (Err e) h = tt
