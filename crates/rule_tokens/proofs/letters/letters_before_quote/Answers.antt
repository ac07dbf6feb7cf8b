use Rattle.std.proofs.Common.{rules, []}
use Rattle.rule_tokens.specs.Prefixes.{letters_at}
use Rattle.rule_tokens.proofs.LetterLemmas.{letters_only}
use Rattle.rule_tokens.proofs.letters.letters_before_quote.Goals as goal

pub returns-in-Ok-clause-value : goal.returns-in-Ok-clause-value
unfolding letters_at
returns-in-Ok-clause-value c = search rules

pub returns-in-Ok-clause-letters : goal.returns-in-Ok-clause-letters
returns-in-Ok-clause-letters c = letters_only c.args.text.now c.split_at.result.0.now (returns-in-Ok-clause-value c)

pub returns-in-Err-clause-value : goal.returns-in-Err-clause-value
unfolding letters_at
returns-in-Err-clause-value c = search rules

pub returns-in-Err-clause-letters : goal.returns-in-Err-clause-letters
returns-in-Err-clause-letters c = letters_only c.args.text.now [] (returns-in-Err-clause-value c)
