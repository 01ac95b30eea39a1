-- How the code keeps the value of digits that it has read.
use Rattle.std.specs.Prelude.{◌≡◌, ℕ, ◌*◌, ◌-◌, ◌%◌, ◌^◌, ◌⊎◌, min}

-- What is kept of a value: the part before the zeros at its end, capped, and how many zeros these are.
pub record Keeps (kept zeros v : ℕ) : Type 0 where
  pub front : ℕ
  pub value : v ≡ front * 10 ^ zeros
  pub capped : kept ≡ min front (2 ^ 32)
  pub last : front % 10 ≡ 0 → front ≡ 0

-- a power of ten whose parts are capped, of which one is 0
pub record CapsPower (up down : ℕ) (q : ℕ × ℕ) : Type 0 where
  pub up_capped : up ≡ min q.0 (2 ^ 64 - 1)
  pub down_capped : down ≡ min q.1 (2 ^ 64 - 1)
  pub one_way : (q.0 ≡ 0) ⊎ (q.1 ≡ 0)
