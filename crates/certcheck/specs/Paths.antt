-- The paths on which trees are still to come, where one node's path is known: a text has the first child's tree before the second's.
use Rattle.std.specs.Prelude.{List, [], ◌∷◌, ◌++◌, Option, Some, None}
use Rattle.tspdef.specs.Paths.{Condition, fixed, absent, present, two, four}

-- the condition of the second child, of a first child's
abbrev pub second : Condition → Option Condition
second (fixed u v) = None
second (absent u v) = Some (present u v)
second (present u v) = None
second (two s) = Some (four s)
second (four s) = None

-- the path of a sibling that is still to come, if there is one
abbrev pub sibling : List Condition → Option Condition → List (List Condition)
sibling p None = []
sibling p (Some c) = (p ++ c ∷ []) ∷ []

-- the siblings below p, the deepest first
abbrev pub later_below : List Condition → List Condition → List (List Condition)
later_below p [] = []
later_below p (c ∷ cs) = later_below (p ++ c ∷ []) cs ++ sibling p (second c)

-- the paths of the second children that come after the tree on this path
abbrev pub later : List Condition → List (List Condition)
later path = later_below [] path
