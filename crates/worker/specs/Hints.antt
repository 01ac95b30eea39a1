-- Bounds as whole lengths.
use Rattle.std.specs.Prelude.{◌-◌, ◌^◌, ℤ, pos, negsuc}
use Rattle.std.specs.Int.{int_min, int_max, int_div_euclid}
use Rattle.tspdef.specs.Bounds.{scale}

-- units rounded down to a whole length, as near to it as 64 bits allow
abbrev pub whole_length : ℤ → ℤ
whole_length units = int_max (negsuc (2 ^ 63 - 1)) (int_min (int_div_euclid units (pos scale)) (pos (2 ^ 63 - 1)))
