use Rattle.std.proofs.Common.{Ok, map, sym, ◌∙◌, ap}
use Rattle.text_core.specs.Packed.{written}
use Rattle.text_core.specs.Spell.{spell}
use Rattle.text_core.specs.declared.reading.Reading.TheVariants.{Exact}
use Rattle.text_core.proofs.Packing.{spelled}
use Rattle.text_core.proofs.Scanning.{spell_by_short}
use Rattle.text_core.proofs.packed.PackedPattern.read.Goals as goal

pub returns-clause-value : goal.returns-clause-value
unfolding spell
returns-clause-value c =
    spell_by_short Exact c.args.text.now c.if-text-gt-MAX_LEN.false
    ∙ spelled c.args.text.now 0 (sym c.has_bracket.ensures ∙ c.if-has_bracket.false)
    ∙ ap (λ t. Ok (map written t)) (sym c.in_ok-from_slice.ensures.ok)
