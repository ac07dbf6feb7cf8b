use Rattle.std.proofs.Common.{rules, ◌≡◌, map, ap, sym, ◌∙◌}
use Rattle.text_bytes.specs.declared.profile.Profile.TheVariants.{Manual, Udev}
use Rattle.eval_commands.specs.Inner.{candidates_as}
use Rattle.eval_commands.specs.LookUps.{modaliases_of, udev_modaliases_of}
use Rattle.eval_commands.proofs.Seeing.{by_profile}
use Rattle.eval_commands.proofs.lookups.found_for_devices.Goals as goal

pub returns-in_ok-modaliases-in-Manual : goal.returns-in_ok-modaliases-in-Manual
returns-in_ok-modaliases-in-Manual g c =
    let profile : c.args.state.now.event.profile ≡ Manual = sym (c.in-Manual.ensures ∙ ap (λ e. e.profile) c.event.ensures) in
    let same : map (λ m. m.now) c.deref.result.now ≡ modaliases_of c.args.request.now.subsystem (candidates_as Manual c.args.state.now) = search rules in
    rw (by_profile c.args.request.now.subsystem c.args.state.now Manual profile ∙ sym same) c.first_answer.ensures

pub returns-in_ok-modaliases-in-Udev : goal.returns-in_ok-modaliases-in-Udev
returns-in_ok-modaliases-in-Udev g c =
    let profile : c.args.state.now.event.profile ≡ Udev = sym (c.in-Udev.ensures ∙ ap (λ e. e.profile) c.event.ensures) in
    let same : map (λ m. m.now) c.deref-in-Udev-2.result.now ≡ udev_modaliases_of c.args.request.now.subsystem (candidates_as Udev c.args.state.now) = search rules in
    rw (by_profile c.args.request.now.subsystem c.args.state.now Udev profile ∙ sym same) c.first_answer-in-Udev.ensures
