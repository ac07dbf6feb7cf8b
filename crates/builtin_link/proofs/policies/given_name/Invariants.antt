use Rattle.std.proofs.Common.{◌≡◌, None, drop, fold}
use Rattle.std.specs.Prelude.{option_map}
use Rattle.builtin_link.specs.Policies.{with_name}
use Rattle.builtin_link.proofs.policies.given_name.Given as goal

abbrev pub invariant-loop-setting : goal.invariant-loop-setting
invariant-loop-setting l =
    fold with_name (option_map (λ t. t.now) l.held) (drop l.setting-index l.settings) ≡ fold with_name None l.settings
