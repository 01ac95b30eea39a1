use Rattle.std.proofs.Common.{◌≡◌, ℕ, ◌-◌, ◌^◌, min, Some, inl, inr, refl, arith, drop}
use Rattle.std.proofs.lemmas.Grind.{common_steps}
use Rattle.std.specs.Str.Parse.{digits_value}
use Rattle.tsplex.specs.Number.{digits, behind_sign, power}
use Rattle.tsplex.proofs.number.read_power.Goals as goal

pub returns-then-is_empty-clause-some : goal.returns-then-is_empty-clause-some
unfolding power
returns-then-is_empty-clause-some c =
    let e : power c.args.bytes.now ≡ Some (0, 0) = grind (arith, common_steps) in
    ((0, 0), e, record { up_capped = refl; down_capped = refl; one_way = inl refl })

pub returns-then-begins-clause-some : goal.returns-then-begins-clause-some
unfolding power
returns-then-begins-clause-some c =
    let v : ℕ = digits_value 10 (digits (behind_sign (drop 1 c.args.bytes.now))) in
    let e : power c.args.bytes.now ≡ Some (0, v) = grind (arith, common_steps) in
    let d : c.capped_digits-read.result.value ≡ min v (2 ^ 64 - 1) = grind (arith, common_steps) in
    ((0, v), e, record { up_capped = refl; down_capped = d; one_way = inl refl })

pub returns-else-begins-clause-some : goal.returns-else-begins-clause-some
unfolding power
returns-else-begins-clause-some c =
    let v : ℕ = digits_value 10 (digits (behind_sign (drop 1 c.args.bytes.now))) in
    let e : power c.args.bytes.now ≡ Some (v, 0) = grind (arith, common_steps) in
    let d : c.capped_digits-read.result.value ≡ min v (2 ^ 64 - 1) = grind (arith, common_steps) in
    ((v, 0), e, record { up_capped = d; down_capped = refl; one_way = inr refl })
