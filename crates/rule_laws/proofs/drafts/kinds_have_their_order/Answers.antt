use Rattle.std.proofs.Common.{◌≡◌, Some, refl, slice_get}
use Rattle.rule_types.specs.WrittenParts.{key_of_change}
use Rattle.rule_types.specs.declared.part.ActKind.{ActKind}
use Rattle.rule_types.specs.declared.part.ActKind.TheVariants as act_kind
use Rattle.rule_types.specs.declared.part.Change.{Change}
use Rattle.rule_types.specs.declared.part.Change.TheVariants as change
use Rattle.rule_types.specs.declared.part.Import.{Import}
use Rattle.rule_types.specs.declared.part.Import.TheVariants as import
use Rattle.rule_types.specs.declared.roles.Target.TheVariants as target
use Rattle.text_bytes.specs.declared.profile.Profile.TheVariants.{Manual}
use Rattle.rule_core.specs.Turns.{turn_of_act_kind, turn_of_change}
use Rattle.rule_laws.specs.Turns.{acts_in_order, key_and_type, keys_in_order}
use Rattle.rule_laws.proofs.drafts.kinds_have_their_order.Goals as goal

turns : (c : Change) → slice_get keys_in_order (turn_of_change Manual c) ≡ Some (key_of_change c)
turns (change.Text target.Owner template) = refl
turns (change.Text about template) = refl
turns other = refl

acts : (a : ActKind) → slice_get acts_in_order (turn_of_act_kind a) ≡ Some (key_and_type a)
acts (act_kind.Import (import.File template)) = refl
acts (act_kind.Import other) = refl
acts other = refl

pub returns : goal.returns
returns c = record { assignments = turns; acts = acts }
