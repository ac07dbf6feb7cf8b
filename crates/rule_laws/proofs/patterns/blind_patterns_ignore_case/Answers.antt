use Rattle.text_core.specs.Spell.{spell_blind}
use Rattle.text_core.specs.declared.reading.Reading.TheVariants.{Blind}
use Rattle.rule_laws.proofs.Caseless.{spelled_same}
use Rattle.rule_laws.proofs.Lawful.{follows}
use Rattle.rule_laws.proofs.patterns.blind_patterns_ignore_case.Goals as goal

pub returns : goal.returns
unfolding spell_blind
returns c = λ t u v items read same. spelled_same t items (((follows Blind).items t items).0 read).1 u v same
