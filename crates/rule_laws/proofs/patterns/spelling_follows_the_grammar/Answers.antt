use Rattle.text_core.specs.Spell.{spell, spell_blind}
use Rattle.text_core.specs.declared.reading.Reading.TheVariants.{Exact, Blind}
use Rattle.rule_laws.proofs.Lawful.{follows}
use Rattle.rule_laws.proofs.patterns.spelling_follows_the_grammar.Goals as goal

pub returns-clause-exact : goal.returns-clause-exact
unfolding spell
returns-clause-exact c = follows Exact

pub returns-clause-blind : goal.returns-clause-blind
unfolding spell_blind
returns-clause-blind c = follows Blind
