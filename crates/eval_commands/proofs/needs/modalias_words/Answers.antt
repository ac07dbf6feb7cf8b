use Rattle.std.proofs.Common.{rules, ◌≡◌, None, option_map}
use Rattle.text_bytes.specs.declared.profile.Profile.TheVariants.{Udev}
use Rattle.eval_commands.specs.LookUps.{candidate, candidate_with}
use Rattle.eval_commands.proofs.Lacking.{last_word, next_item, one_word}
use Rattle.eval_commands.proofs.needs.modalias_words.Goals as goal

pub returns-then-branch-2 : goal.returns-then-branch-2
returns-then-branch-2 c =
    let at : candidate_with Udev c.device-item.result None (option_map (λ t. t.now) c.get-modalias-in-loop-device.result) ≡ candidate Udev c.device-item.result c.device-item.result.env = search rules in
    last_word c.event-event.result.now c.args.state.now.event (option_map (λ t. t.now) c.args.subsystem) c.device-item.result _ _ _ _ _ _ c.in_ok-add_word-2.field-0 c.event-event.ensures
    (next_item c.parents-device-items.result.now c.loop-device.device-index c.device-item.result c.device-item.is c.loop-device-test.true)
    at c.in_ok-add_word-2.ensures.last c.if-branch-2.true c.in_ok-add_word-2.ensures.words c.loop-device.invariant

pub loop-device-preserved : goal.loop-device-preserved
loop-device-preserved c =
    let at : candidate_with Udev c.device-item.result None (option_map (λ t. t.now) c.get-modalias-in-loop-device.result) ≡ candidate Udev c.device-item.result c.device-item.result.env = search rules in
    one_word c.event-event.result.now c.args.state.now.event (option_map (λ t. t.now) c.args.subsystem) c.device-item.result _ _ _ _ _ _ c.in_ok-add_word-2.field-0 c.event-event.ensures
    (next_item c.parents-device-items.result.now c.loop-device.device-index c.device-item.result c.device-item.is c.loop-device-test.true)
    at c.in_ok-add_word-2.ensures.last c.if-branch-2.false c.in_ok-add_word-2.ensures.words c.loop-device.invariant
