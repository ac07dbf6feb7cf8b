use Rattle.std.proofs.Common.{◌≡◌, ◌↔◌, ◌&&◌, Bool, true, false, Option, Some, None, is_some, length, ap, refl, sym, ◌∙◌, true≢false}
use Rattle.std.specs.Cmp.Lexicographic.{bytes_decides}
use Rattle.text_bytes.specs.Text.{Text}
use Rattle.text_tables.specs.Texts.{same_text}
use Rattle.device_core.specs.Values.{DeviceValue, chain}
use Rattle.eval_state.specs.Chains.{device_at, kernel_of}
use Rattle.eval_state.specs.Named.{NamedValue, is_named, is_subsystem, named_place}
use Rattle.eval_state.specs.Texts.{or_empty}
use Rattle.eval_rendering.proofs.Finding.{found_first, none_found}
use Rattle.eval_laws.proofs.naming.the_nearest_device_is_named.Goals as goal

-- a device is the one that is named by both names
subsystem_is : (name : Text) (o : Option Text) → (is_subsystem name o ≡ true) ↔ (o ≡ Some name)
subsystem_is name None = (λ h. absurd (true≢false (sym h)), λ h. absurd (true≢false (sym (ap is_some h))))
subsystem_is name (Some other) = (λ h. ap Some ((bytes_decides other name).0 h), λ h. (bytes_decides other name).1 (ap (λ o. or_empty o) h))

both : (a b : Bool) → (a && b) ≡ true → (a ≡ true) × (b ≡ true)
both true b h = (refl, h)
both false b h = absurd (true≢false (sym h))

meant : (is : NamedValue) (device : DeviceValue) → (is_named is (Some device) ≡ true) ↔ ((device.subsystem ≡ Some is.subsystem) × (kernel_of device ≡ is.kernel))
meant is device = (forth, back)
  where
    forth : is_named is (Some device) ≡ true → (device.subsystem ≡ Some is.subsystem) × (kernel_of device ≡ is.kernel)
    forth h =
        let each = both (is_subsystem is.subsystem device.subsystem) (same_text (kernel_of device) is.kernel) h in
        ((subsystem_is is.subsystem device.subsystem).0 each.0, (bytes_decides (kernel_of device) is.kernel).0 each.1)

    back : (device.subsystem ≡ Some is.subsystem) × (kernel_of device ≡ is.kernel) → is_named is (Some device) ≡ true
    back h =
        ap (λ b. b && same_text (kernel_of device) is.kernel) ((subsystem_is is.subsystem device.subsystem).1 h.0)
        ∙ (bytes_decides (kernel_of device) is.kernel).1 h.1

pub returns-clause-meant : goal.returns-clause-meant
returns-clause-meant c = meant

pub returns-clause-found : goal.returns-clause-found
unfolding named_place
returns-clause-found c = λ is event place found.
    let first = found_first (λ n. is_named is (device_at event n)) (length (chain event)) place found in
    record { in_chain = first.0; meant = first.1; first = first.2 }

pub returns-clause-none : goal.returns-clause-none
unfolding named_place
returns-clause-none c = λ is event. none_found (λ n. is_named is (device_at event n)) (length (chain event))
