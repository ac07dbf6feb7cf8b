use Rattle.std.proofs.Common.{◌≡◌, ◌++◌, map, drop, option_map}
use Rattle.eval_commands.specs.LookUpNeeds.{devices_seen, modalias_words, parent_seen}
use Rattle.eval_commands.proofs.needs.modalias_words.Given as goal

abbrev pub invariant-loop-device : goal.invariant-loop-device
invariant-loop-device l =
    map (λ w. w.items) l.words.items ++ modalias_words l.state.event (option_map (λ t. t.now) l.subsystem) (map parent_seen (drop l.device-index l.device-items))
    ≡ modalias_words l.state.event (option_map (λ t. t.now) l.subsystem) (devices_seen l.state)
