use Rattle.std.proofs.Common.{arith, drop, rules}
use Rattle.trie_build.specs.Prefixes.{codes}
use Rattle.trie_build.proofs.Prefixing.{prefix_more, prefix_whole}
use Rattle.trie_build.proofs.first_labels.prefix_of.Goals as goal

pub loop-at-preserved : goal.loop-at-preserved
loop-at-preserved c = record {
  len = search rules;
  within = c.following-from.ensures.within;
  codes = rw (c.first_code.ensures, c.following-from.ensures.value) (prefix_more c.loop-at.prefix c.loop-at.at (drop c.loop-at.from c.args.pattern.now) (codes 24 c.args.pattern.now) c.loop-at.invariant.len c.loop-at-test.true c.loop-at.invariant.codes);
}

pub returns : goal.returns
returns c = prefix_whole c.loop-at.prefix c.loop-at.at (drop c.loop-at.from c.args.pattern.now) (codes 24 c.args.pattern.now) c.loop-at.invariant.len (omega arith) c.loop-at.invariant.codes
