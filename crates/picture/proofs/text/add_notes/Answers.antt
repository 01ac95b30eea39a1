use Rattle.std.specs.Prelude.{string_bytes}
use Rattle.picture.specs.Texts.{notes_text}
use Rattle.picture.proofs.Chains.{when_ok, then_ok, three_between}
use Rattle.picture.proofs.text.add_notes.Goals as goal

pub returns : goal.returns
unfolding notes_text
returns c = then_ok c.push_str-2.result _ _ (when_ok c.push_str-2.result _ _ _ c.push_str-2.ensures.bytes) (λ last.
    three_between (string_bytes c.args.text.now) _ _ _ _ _ _ _ _ _ _ c.in_ok-push_str.ensures.bytes c.in_ok-add_size.ensures c.in_ok-add_layout.ensures c.in_ok-add_census.ensures last)
