use Rattle.std.proofs.Common.{sym, ◌∙◌}
use Rattle.device_core.proofs.Paths.{parent_answer, parent_not}
use Rattle.device_core.proofs.parts.is_parent_path.Goals as goal

pub returns-then-not-starts_with : goal.returns-then-not-starts_with
returns-then-not-starts_with c = parent_not c.args.child.now c.args.parent.now (sym c.is_empty.ensures ∙ c.if-is_empty.false) (sym c.starts_with.ensures.value ∙ c.if-not-starts_with.true)

pub returns : goal.returns
returns c = parent_answer c.args.child.now c.args.parent.now _ c.begins_with.result (sym c.is_empty.ensures ∙ c.if-is_empty.false) (sym c.starts_with.ensures.value ∙ c.if-not-starts_with.false) c.split_at.ensures.back c.begins_with.ensures
