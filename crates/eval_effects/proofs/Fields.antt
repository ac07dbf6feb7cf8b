-- What is known of each key after one more rule, by what is kept for it.
use Rattle.std.proofs.Common.{◌≡◌, Bool, Option, ap, ◌∙◌}
use Rattle.std.proofs.Math.Path.{fun_ext}
use Rattle.std.specs.Bool.{then_some}
use Rattle.std.specs.Option.{option_or}
use Rattle.rule_types.specs.Rules.{Rule}
use Rattle.eval_state.specs.declared.finals.FinalKey.{FinalKey}
use Rattle.eval_state.specs.declared.finals.FinalKey.TheVariants as key
use Rattle.eval_state.specs.declared.finals.Finals.{Finals}
use Rattle.eval_state.specs.KeyTables.{Kept, kept_for}
use Rattle.eval_effects.specs.Since.{since_after}

-- one field: the rule that is known, or one more if the key is final
pub record One (was now : Option Rule) (final : Bool) (r : Rule) : Type 0 where
  pub told : Bool
  pub is_told : told ≡ final
  pub is_now : now ≡ option_or was (then_some told r)

is : {was now : Option Rule} {final : Bool} {r : Rule} → One was now final r → now ≡ option_or was (then_some final r)
is {was} {now} {final} {r} h = h.is_now ∙ ap (λ b. option_or was (then_some b r)) h.is_told

pub field_by_field : (was now : Kept (Option Rule)) (r : Rule) (f : Finals)
    → One was.owner now.owner (f key.Owner) r
    → One was.group now.group (f key.Group) r
    → One was.mode now.mode (f key.Mode) r
    → One was.name now.name (f key.Name) r
    → One was.symlink now.symlink (f key.Symlink) r
    → One was.run now.run (f key.Run) r
    → One was.priority now.priority (f key.Priority) r
    → One was.watch now.watch (f key.Watch) r
    → kept_for now ≡ since_after (kept_for was) r f
field_by_field was now r f owner group mode name symlink run priority watch = fun_ext by
  where
    by : (k : FinalKey) → kept_for now k ≡ since_after (kept_for was) r f k
    by key.Owner = is owner
    by key.Group = is group
    by key.Mode = is mode
    by key.Name = is name
    by key.Symlink = is symlink
    by key.Run = is run
    by key.Priority = is priority
    by key.Watch = is watch
