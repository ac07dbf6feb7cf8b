use Rattle.std.proofs.Common.{◌+◌, ◌*◌, ◌-◌, ◌^◌, ◌≤◌, get_or, sym, subst, ◌∙◌}
use Rattle.rule_types.proofs.Octal.{number_on, refused_mode}
use Rattle.rule_types.proofs.modes.mode_in.Goals as goal

pub returns-then-mode-ge-MODES-clause-value : goal.returns-then-mode-ge-MODES-clause-value
returns-then-mode-ge-MODES-clause-value c =
    let next = 8 * c.loop-byte.mode + (get_or c.args.digits.now c.loop-byte.byte-index 0 - 48) in
    refused_mode c.args.digits.now (c.loop-byte.byte-index + 1) next
    (sym (number_on c.args.digits.now c.loop-byte.byte-index c.loop-byte.mode c.loop-byte-test.true) ∙ c.loop-byte.invariant.number)
    (subst (λ n. 8 ^ 4 ≤ 8 * c.loop-byte.mode + n) c.from.ensures c.if-mode-ge-MODES.true)
