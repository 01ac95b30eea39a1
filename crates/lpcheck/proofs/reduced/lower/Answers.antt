use Rattle.std.proofs.Common.{◌≡◌, ◌+◌, ◌*◌, ◌^◌, ℤ, pos, ◌-ℤ◌, ◌*ℤ◌, List, length, set, drop, get_or, to_z, of_z, w64, ap, sym, ◌∙◌, ◌<◌, arith}
use Rattle.std.specs.Int.{w128}
use Rattle.std.proofs.lemmas.Int.{ints}
use Rattle.std.proofs.lemmas.List.{drop_more, length-set}
use Rattle.std.proofs.lemmas.List.Elements.{All-set, All-weaker}
use Rattle.lpcheck.specs.Sizes.{IsWithin}
use Rattle.lpcheck.specs.Cells.{lowered}
use Rattle.lpcheck.specs.declared.cells.Cell.{Cell}
use Rattle.lpcheck.proofs.reduced.lower.Goals as goal

abbrev nothing : Cell
nothing = record { column = 0; coef = 0 }

pub loop-cell-preserved : goal.loop-cell-preserved
loop-cell-preserved c =
    let i = c.loop-cell.cell-index in
    let cells = c.args.cells.now in
    let cell : Cell = get_or cells i nothing in
    let rs = c.loop-cell.rs in
    let d : ℤ = to_z w64 (of_z w64 c.args.d) in
    let v : ℤ = to_z w128 (of_z w128 c.minus.result) in
    let more = drop_more cells i nothing c.loop-cell-test.true in
    let within : cell.column < length rs = (let a = c.requires.within i nothing c.loop-cell-test.true in let s = c.loop-cell.invariant.all in omega (arith, a, s)) in
    let size = c.loop-cell.invariant.size cell.column (pos 0) within in
    let value : v ≡ get_or rs cell.column (pos 0) -ℤ d *ℤ pos cell.coef = omega (arith, ints) in
    record {
      so_far = ap (λ (z : ℤ). lowered d (drop (i + 1) cells) (set rs cell.column z)) value ∙ ap (λ (l : List Cell). lowered d l rs) (sym more) ∙ c.loop-cell.invariant.so_far;
      size = All-set (IsWithin (2 ^ 100 + 2 ^ 80 * (i + 1))) rs cell.column v (record { low = omega (arith, ints); high = omega (arith, ints) })
          (All-weaker (IsWithin (2 ^ 100 + 2 ^ 80 * i)) (IsWithin (2 ^ 100 + 2 ^ 80 * (i + 1))) (λ r h. let l = h.low in let u = h.high in record { low = omega (arith, ints); high = omega (arith, ints) }) rs c.loop-cell.invariant.size);
      all = length-set rs cell.column v ∙ c.loop-cell.invariant.all;
    }
