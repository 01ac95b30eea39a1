use Rattle.std.proofs.Common.{◌≡◌, ℕ, suc, ◌+◌, ◌<◌, Bool, List, [], ◌∷◌, length, refl, ◌∙◌, arith}
use Rattle.std.proofs.lemmas.List.Sums.{sum_by-cons}
use Rattle.maxflow.specs.declared.residual.Edge.{Edge}
use Rattle.maxflow.specs.Edges.{room_at, room}
use Rattle.maxflow.specs.Edges.{edge_at}

-- no edge leads out
pub none_open : (p : ℕ → Bool) (es : List Edge) → ((i : ℕ) → i < length es → room_at p (edge_at es i) ≡ 0) → room es p ≡ 0
none_open p [] h = refl
none_open p (e ∷ es) h =
    let ih = none_open p es (λ i l. h (suc i) (omega arith)) in
    let c = sum_by-cons (room_at p) e es in
    let z : room_at p e ≡ 0 = h 0 (omega arith) in
    c ∙ (let y : room_at p e + room es p ≡ 0 = omega arith in y)
