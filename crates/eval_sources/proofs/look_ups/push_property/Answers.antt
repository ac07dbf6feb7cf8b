use Rattle.std.proofs.Common.{◌≡◌, ◌++◌, ◌∷◌, [], Option, OnOk, codes, subst, sym, ◌∙◌}
use Rattle.text_bytes.specs.Text.{Text}
use Rattle.eval_effects.specs.Items.{item_name}
use Rattle.eval_sources.proofs.Lookups.{at_property}
use Rattle.eval_sources.proofs.look_ups.push_property.Goals as goal

pub returns : goal.returns
returns c =
    subst (λ (value : Option Text). OnOk c.push_pair.result (c.push_pair.new.found.items ≡ c.args.found.now.items ++ (item_name (codes "env") c.args.name.now, value) ∷ []))
    (c.get.ensures ∙ sym (at_property c.args.scene.now c.args.name.now)) c.push_pair.ensures
