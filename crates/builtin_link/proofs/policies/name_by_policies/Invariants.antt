use Rattle.std.proofs.Common.{◌≡◌, drop}
use Rattle.std.specs.Prelude.{option_map}
use Rattle.builtin_link.specs.Policies.{name_by_policies}
use Rattle.builtin_link.proofs.policies.name_by_policies.Given as goal

abbrev pub invariant-loop-policy : goal.invariant-loop-policy
invariant-loop-policy l =
    name_by_policies l.source l.env (option_map (λ t. t.now) l.kept) (option_map (λ t. t.now) l.left) (drop l.policy-index l.policies)
    ≡ name_by_policies l.source l.env (option_map (λ t. t.now) l.kept) (option_map (λ t. t.now) l.left) l.policies
