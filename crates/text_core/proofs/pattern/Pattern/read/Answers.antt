use Rattle.std.proofs.Common.{◌∙◌}
use Rattle.std.proofs.lemmas.Result.{MatchResult-weaker}
use Rattle.text_core.specs.Spell.{spell}
use Rattle.text_core.specs.declared.reading.Reading.TheVariants.{Exact}
use Rattle.text_core.proofs.Scanning.{spell_by_long, spell_by_short}
use Rattle.text_core.proofs.pattern.Pattern.read.Goals as goal

pub returns-then-text-gt-MAX_LEN-clause-value : goal.returns-then-text-gt-MAX_LEN-clause-value
unfolding spell
returns-then-text-gt-MAX_LEN-clause-value c = λ _. spell_by_long Exact c.args.text.now c.if-text-gt-MAX_LEN.true

pub returns-clause-value : goal.returns-clause-value
unfolding spell
returns-clause-value c = MatchResult-weaker c.read_at.result c.read_at.ensures
    (λ p h. spell_by_short Exact c.args.text.now c.if-text-gt-MAX_LEN.false ∙ h)
    (λ e h m. spell_by_short Exact c.args.text.now c.if-text-gt-MAX_LEN.false ∙ h m)
