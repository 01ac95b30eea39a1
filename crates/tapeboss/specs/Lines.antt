-- The lines of a text: what the first of them says, and what stands behind it.
use Rattle.std.specs.Prelude.{ℕ, ◌+◌, ◌==◌, Bool, true, false, List, [], ◌∷◌, position, take, drop, Option, Some, None, ℤ}
use Rattle.certdef.specs.Items.{Item, tour_line, cuts_line, handle_line, tooth_line, pair_line, city_line, cut_line, condition_line, item_of}

-- nothing is left
abbrev pub are_over : List ℕ → Bool
are_over [] = true
are_over (b ∷ bs) = false

abbrev pub line_at : ℕ → List ℕ → Option ℕ → Option Item
line_at n bytes None = None
line_at n bytes (Some k) = item_of n (take k bytes)

abbrev pub behind_at : List ℕ → Option ℕ → List ℕ
behind_at bytes None = []
behind_at bytes (Some k) = drop (k + 1) bytes

-- where the first line ends: at its LF, if there is one
abbrev pub line_end : List ℕ → Option ℕ
line_end bytes = position (λ b. b == 10) bytes

-- what the first line says; nothing where there is none, it is not of the form, or it has no end
abbrev pub first_line : ℕ → List ℕ → Option Item
first_line n bytes = line_at n bytes (line_end bytes)

-- what stands behind the first line
abbrev pub other_lines : List ℕ → List ℕ
other_lines bytes = behind_at bytes (line_end bytes)

-- ---- what a line of one kind says

abbrev pub set_of_handle : Option Item → Option (List ℕ)
set_of_handle (Some (handle_line s)) = Some s
set_of_handle _ = None

abbrev pub set_of_tooth : Option Item → Option (List ℕ)
set_of_tooth (Some (tooth_line s)) = Some s
set_of_tooth _ = None

abbrev pub pair_of : Option Item → Option (ℕ × ℕ)
pair_of (Some (pair_line u v)) = Some (u, v)
pair_of _ = None

abbrev pub city_of : Option Item → Option (ℕ × ℤ)
city_of (Some (city_line v x)) = Some (v, x)
city_of _ = None

abbrev pub cut_dual_of : Option Item → Option (ℕ × ℕ)
cut_dual_of (Some (cut_line k y)) = Some (k, y)
cut_dual_of _ = None

abbrev pub condition_dual_of : Option Item → Option (ℕ × ℕ)
condition_dual_of (Some (condition_line d z)) = Some (d, z)
condition_dual_of _ = None

abbrev pub count_of : Option Item → Option ℕ
count_of (Some (cuts_line k)) = Some k
count_of _ = None

abbrev pub cities_of : Option Item → Option (List ℕ)
cities_of (Some (tour_line cs)) = Some cs
cities_of _ = None
