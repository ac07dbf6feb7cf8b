use Rattle.rule_file_lints.proofs.Meaning.{meant_past}
use Rattle.rule_file_lints.proofs.meant.add_meant.Goals as goal

pub loop-token-preserved : goal.loop-token-preserved
loop-token-preserved c =
    meant_past c.args.compared.now c.args.spots.now.items c.loop-token.spots.items c.add_before.new.spots.items c.args.tokens.now c.loop-token.following c.left_after-left.result c.loop-token.token-index c.token-item.result
    c.loop-token.invariant c.loop-token-test.true c.token-item.is c.left_after-left.ensures c.in_ok-add_before.ensures
