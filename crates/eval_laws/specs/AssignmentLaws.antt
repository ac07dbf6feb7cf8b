-- What it means that a key which is final stays as it is.
use Rattle.std.specs.Prelude.{◌≡◌, Bool, true, false}
use Rattle.text_bytes.specs.declared.profile.Profile.{Profile}
use Rattle.text_bytes.specs.declared.profile.Profile.TheVariants.{Manual, Udev}
use Rattle.eval_state.specs.Finals.{is_final}
use Rattle.eval_state.specs.declared.finals.FinalKey.{FinalKey}
use Rattle.eval_state.specs.declared.finals.FinalKey.TheVariants as key
use Rattle.eval_state.specs.declared.scene.Scene.{Scene}

-- two scenes have the same value of a key
abbrev pub SameAt : FinalKey → Scene → Scene → Type 0
SameAt key.Owner s t = t.owner ≡ s.owner
SameAt key.Group s t = t.group ≡ s.group
SameAt key.Mode s t = t.mode ≡ s.mode
SameAt key.Name s t = t.state.name ≡ s.state.name
SameAt key.Symlink s t = t.state.links ≡ s.state.links
SameAt key.Run s t = (t.runs ≡ s.runs) × (t.made ≡ s.made)
SameAt key.Priority s t = t.priority ≡ s.priority
SameAt key.Watch s t = t.watch ≡ s.watch

-- whether a key may be final: for udev the priority of links never may
abbrev pub may_be_final : Profile → FinalKey → Bool
may_be_final Manual k = true
may_be_final Udev key.Priority = false
may_be_final Udev k = true

-- a key has in a later scene the value that it had in an earlier one, and is final there
pub record Keeps (k : FinalKey) (s t : Scene) : Type 0 where
  pub same : SameAt k s t
  pub stays : is_final t.finals k ≡ true
