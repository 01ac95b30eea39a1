-- What an item says, in the words of the definitions.
use Rattle.std.specs.Prelude.{◌≡◌, ℕ, List, Option}
use Rattle.std.specs.Option.{option_map}
use Rattle.certdef.specs.Items as items
use Rattle.certline.specs.declared.item.Item.{Item}
use Rattle.certline.specs.declared.item.Item.TheVariants as lines

abbrev pub said : Item → items.Item
said (lines.Cert v) = items.title_line v
said (lines.N n) = items.size_line n
said (lines.Length l) = items.length_line l
said (lines.Bound b) = items.bound_line b
said (lines.Tour v) = items.tour_line v.items
said (lines.Cuts k) = items.cuts_line k
said (lines.Subtour v) = items.subtour_line v.items
said (lines.Comb t) = items.comb_line t
said (lines.Handle v) = items.handle_line v.items
said (lines.Tooth v) = items.tooth_line v.items
said (lines.Odd t) = items.odd_line t
said (lines.Pair u v) = items.pair_line u v
said (lines.Edge u v) = items.edge_line u v
said (lines.Clique v) = items.clique_line v.items
said (lines.Leaf a b c) = items.leaf_line a b c
said (lines.City c x) = items.city_line c x
said (lines.CutDual k y) = items.cut_line k y
said (lines.CondDual d z) = items.condition_line d z
said lines.Open = items.open_line

-- the bytes are read as this item, or as none
abbrev pub ReadsAs : ℕ → List ℕ → Option Item → Type 0
ReadsAs n bytes o = option_map said o ≡ items.item_of n bytes
