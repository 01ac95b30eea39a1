use Rattle.std.proofs.Common.{◌≡◌, ◌++◌, length, map}
use Rattle.certcheck.specs.Parts.{parts_of}
use Rattle.viewing.specs.Saying.{node_of}
use Rattle.viewing.proofs.saying.nodes.Given as goal

abbrev pub invariant-loop-part : goal.invariant-loop-part
invariant-loop-part l = l.nodes.items ++ map node_of (parts_of l.parts.items) ≡ map node_of (parts_of l.initial.parts.items)

abbrev pub decreases-loop-part : goal.decreases-loop-part
decreases-loop-part l = length l.parts.items
