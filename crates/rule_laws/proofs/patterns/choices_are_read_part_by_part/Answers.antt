use Rattle.text_core.specs.Choices.{choice, choice_blind}
use Rattle.text_core.specs.Spell.{spell, spell_blind}
use Rattle.text_core.specs.declared.reading.Reading.TheVariants.{Exact, Blind}
use Rattle.rule_laws.proofs.Bars.{reads_parts}
use Rattle.rule_laws.proofs.patterns.choices_are_read_part_by_part.Goals as goal

pub returns-clause-exact : goal.returns-clause-exact
unfolding spell choice
returns-clause-exact c = reads_parts Exact

pub returns-clause-blind : goal.returns-clause-blind
unfolding spell_blind choice_blind
returns-clause-blind c = reads_parts Blind
