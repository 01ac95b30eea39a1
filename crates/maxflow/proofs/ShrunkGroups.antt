-- Groups whose merging is over are shrunk.
use Rattle.std.proofs.Common.{◌≡◌, ℕ, ◌≤◌, List, subst, arith}
use Rattle.cyc.specs.declared.frac.Entry.{Entry}
use Rattle.cyc.specs.Frac.{Values}
use Rattle.maxflow.specs.declared.shrinking.Merging.{Merging}
use Rattle.maxflow.specs.Shrinking.{IsShrinking, IsShrunk, AreUntied}
use Rattle.maxflow.specs.Merging.{AreUntiedBelow, IsMerging}

untied_all : (n : ℕ) (es : List Entry) (m : Merging) (a : ℕ) → AreUntiedBelow n es m.shrunk.groups.items a n → n ≤ a → AreUntied n es m.shrunk.groups.items
untied_all n es m a below over = λ b c first second less.
    let inside = first.below in
    let other = second.below in
    below b c first second less (omega arith) (λ e. absurd (omega arith)) (λ e. absurd (omega arith))

pub shrunk_groups : (x : Values) (n : ℕ) (es : List Entry) (m : Merging) (a : ℕ)
    → n ≡ x.n → es ≡ x.entries → IsMerging n es m → AreUntiedBelow n es m.shrunk.groups.items a n → n ≤ a → IsShrunk x m.shrunk
shrunk_groups x n es m a e f merging below over = record {
  shrunk = subst (λ k. IsShrinking k x.entries m.shrunk) e (subst (λ l. IsShrinking n l m.shrunk) f merging.shrinking);
  untied = subst (λ k. AreUntied k x.entries m.shrunk.groups.items) e (subst (λ l. AreUntied n l m.shrunk.groups.items) f (untied_all n es m a below over));
}
