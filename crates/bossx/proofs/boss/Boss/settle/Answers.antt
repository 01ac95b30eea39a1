use Rattle.std.proofs.Common.{rules, arith, ◌≡◌, refl, sym, ◌∙◌, ap, subst, w64, to_z, of_z}
use Rattle.std.proofs.lemmas.Int.{ints}
use Rattle.std.specs.Prelude.{ℤ}
use Rattle.pricer.specs.declared.closing.Report.{Report}
use Rattle.bossx.specs.Books.{Book, key_at, key_from, keys_after, tree_after}
use Rattle.bossx.specs.Judging.{MayBeTaken}
use Rattle.bossx.specs.Answers.{key_after}
use Rattle.bossx.proofs.Room.{close_room}
use Rattle.bossx.proofs.Kept.{settle_kept, table_steps}
use Rattle.bossx.proofs.boss.Boss.settle.Goals as goal

pub close_out-requires-clause-held : goal.close_out-requires-clause-held
close_out-requires-clause-held c =
    let may = subst (λ (b : Book). MayBeTaken b c.args.node c.args.brought) (sym c.self.view_is) c.requires in
    rw (c.of_node-holder.ensures, c.take.ensures) (close_room _ c.args.node _ may.ready.left c.self.invariant.book c.self.invariant.room)

pub invariant_of-self : goal.invariant_of-self
invariant_of-self c =
    let x = c.self.inside in
    let node = c.args.node in
    let what = c.args.brought in
    let may = subst (λ (b : Book). MayBeTaken b node what) (sym c.self.view_is) c.requires in
    let same : to_z w64 (of_z w64 c.key_from-key.result) ≡ c.key_from-key.result = omega (arith, ints) in
    let mine : c.key_from-key.result ≡ key_from what (key_at x.keys.items node) = search rules in
    let key : to_z w64 (of_z w64 c.key_from-key.result) ≡ key_from what (key_at x.keys.items node) = same ∙ mine in
    let is = c.content_of-report.ensures in
    settle_kept x _ c.args.by node what c.self.invariant may (record {
      same = refl;
      tree = c.grow.ensures.tree ∙ ap (tree_after x.tree node) is;
      keys = c.grow.ensures.keys ∙ ap (λ (k : ℤ). keys_after x.keys.items k c.content_of-report.result) key ∙ ap (keys_after x.keys.items (key_from what (key_at x.keys.items node))) is;
      capacity = c.grow.ensures.capacity;
      table = table_steps x c.args.by node what c.content_of-report.result c.is_split.result c.of_node-holder.result c.fate_by.result c.take.new.self c.close_out.new.table
          is c.is_split.ensures c.of_node-holder.ensures c.fate_by.ensures.value c.take.ensures c.close_out.ensures;
      size = c.grow.ensures.size;
      free = λ k. c.grow.ensures.free k ∙ ap (λ (y : ℤ). key_after x.free x.tree.nodes node c.content_of-report.result y k) key ∙ ap (λ (r : Report). key_after x.free x.tree.nodes node r (key_from what (key_at x.keys.items node)) k) is;
      settled = refl;
    })
