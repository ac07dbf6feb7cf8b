use Rattle.std.proofs.Common.{◌≡◌, ◌++◌, ◌∷◌, [], Some, None, Option, OnOk, cond, codes, ap, subst, sym, ◌∙◌}
use Rattle.text_bytes.specs.Text.{Text}
use Rattle.eval_effects.specs.Items.{item_name}
use Rattle.eval_sources.proofs.Lookups.{at_tag}
use Rattle.eval_sources.proofs.look_ups.push_tag.Goals as goal

pub returns : goal.returns
returns c =
    subst (λ (value : Option Text). OnOk c.push_member.result (c.push_member.new.found.items ≡ c.args.found.now.items ++ (item_name (codes "tag") c.args.tag.now, value) ∷ []))
    (ap (λ b. cond b (Some []) None) c.is_tag.ensures ∙ sym (at_tag c.args.scene.now c.args.tag.now)) c.push_member.ensures
