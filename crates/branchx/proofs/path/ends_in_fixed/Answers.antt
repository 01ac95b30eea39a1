use Rattle.std.proofs.Common.{◌≡◌, ◌-◌, length, Some, slice_get, sym, ap, ◌∙◌}
use Rattle.std.specs.Option.{option_copied}
use Rattle.branchx.proofs.PathLemmas.{last_is}
use Rattle.branchx.proofs.path.ends_in_fixed.Goals as goal

pub returns-in-Some : goal.returns-in-Some
returns-in-Some c =
    let xs = c.args.conditions.now in
    let at : slice_get xs (length xs - 1) ≡ Some c.in-Some.last.now = sym c.last.ensures.value ∙ ap option_copied c.in-Some.is in
    c.is_fixed.ensures ∙ sym (last_is xs c.in-Some.last.now at)
