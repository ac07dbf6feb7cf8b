use Rattle.std.proofs.Common.{◌≡◌, ◌++◌, map, drop, option_map}
use Rattle.text_bytes.specs.declared.profile.Profile.TheVariants.{Manual}
use Rattle.eval_commands.specs.Inner.{candidates_as}
use Rattle.eval_commands.specs.LookUps.{candidate, modaliases_of}
use Rattle.eval_commands.proofs.seen.modaliases_of.Given as goal

abbrev pub invariant-loop-device : goal.invariant-loop-device
invariant-loop-device l =
    map (λ m. m.now) l.found.items
    ++ modaliases_of (option_map (λ t. t.now) l.named) (map (λ parent. candidate Manual parent parent.env) (drop l.device-index l.device-items))
    ≡ modaliases_of (option_map (λ t. t.now) l.named) (candidates_as Manual l.state)
