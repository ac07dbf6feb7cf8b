-- What an IMPORT{db} does with what was stored.
use Rattle.std.proofs.Common.{◌≡◌, ◌≢◌, ℕ, Bool, true, false, cond, List, [], ◌∷◌, Option, Some, None, refl, ap, ◌∙◌, codes}
use Rattle.text_bytes.specs.Texts.{is_empty}
use Rattle.text_bytes.specs.declared.profile.Profile.{Profile}
use Rattle.text_bytes.specs.declared.profile.Profile.TheVariants.{Manual, Udev}
use Rattle.text_bytes.specs.Text.{Text}
use Rattle.text_tables.specs.Texts.{same_text}
use Rattle.text_tables.specs.Pairs.{Pair, value_of, with_value}
use Rattle.builtin_devices.specs.Knowledge.{Known}
use Rattle.rule_types.specs.declared.part.ActKind.TheVariants as act_kind
use Rattle.rule_types.specs.declared.part.Import.TheVariants as import
use Rattle.rule_types.specs.Rules.{Rule}
use Rattle.eval_state.specs.Scenes.{noted, with_env}
use Rattle.eval_state.specs.declared.note_kind.NoteKind.TheVariants.{ImportNotRun}
use Rattle.eval_state.specs.declared.scene.Scene.{Scene}
use Rattle.eval_acts.specs.Acts.{imported, performed, tried}
use Rattle.eval_acts.specs.Stored.{from_stored, is_removal}

module _ (known : Known) (r : Rule) (name : Text) (s : Scene) where
  pub as_stored : s.state.event.profile ≡ Udev → performed known r (act_kind.Import (import.Db name)) s ≡ tried (from_stored r name s)
  as_stored udev = ap (λ (p : Profile). imported p known r (import.Db name) s) udev

  pub by_manual : s.state.event.profile ≡ Manual → performed known r (act_kind.Import (import.Db name)) s ≡ (noted r ImportNotRun (codes "db") s, Some false)
  by_manual manual = ap (λ (p : Profile). imported p known r (import.Db name) s) manual

  changed : s.state.event.action ≡ codes "change" → is_removal s.state.event ≡ false
  changed e = ap (λ (t : Text). same_text t (codes "remove")) e

  removed : s.state.event.action ≡ codes "remove" → is_removal s.state.event ≡ true
  removed e = ap (λ (t : Text). same_text t (codes "remove")) e

  some_stored : (pairs : List Pair) (value : Text) → value_of pairs name ≡ Some value → is_empty pairs ≡ false
  some_stored [] value e = cc
  some_stored (pair ∷ pairs) value e = refl

  not_none : (pairs : List Pair) → pairs ≢ [] → is_empty pairs ≡ false
  not_none [] h = absurd (h refl)
  not_none (pair ∷ pairs) h = refl

  pub stored_set : (b : ℕ) (t : Text) → s.state.event.action ≡ codes "change" → value_of s.state.event.device.stored name ≡ Some (b ∷ t)
      → from_stored r name s ≡ (with_env (with_value s.state.env name (b ∷ t)) s, true)
  stored_set b t e is = rw (changed e, some_stored s.state.event.device.stored (b ∷ t) is, is) refl

  pub stored_absent : s.state.event.device.stored ≢ [] → value_of s.state.event.device.stored name ≡ None → from_stored r name s ≡ (s, false)
  stored_absent some none = by (is_removal s.state.event) refl
    where
      by : (b : Bool) → is_removal s.state.event ≡ b → from_stored r name s ≡ (s, false)
      by true e = rw e refl
      by false e = rw (e, not_none s.state.event.device.stored some, none) refl

  pub stored_removed : s.state.event.action ≡ codes "remove" → from_stored r name s ≡ (s, false)
  stored_removed e = rw (removed e) refl

  pub stored_unknown : s.state.event.action ≡ codes "change" → s.state.event.device.stored ≡ [] → from_stored r name s ≡ (noted r ImportNotRun (codes "db") s, false)
  stored_unknown e none = rw (changed e, none) refl
