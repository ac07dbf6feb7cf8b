-- What a moment tells.
use Rattle.eval_rules.specs.Watched.{Happening, passed, entered, meeting, searching, comparing, stopped, skipped, left}
use Rattle.eval_rules.specs.declared.watch.Moment.{Moment}
use Rattle.eval_rules.specs.declared.watch.Moment.TheVariants as moment

-- what happens at a moment, by what it borrows
abbrev pub happening : Moment → Happening
happening (moment.Passed rule) = passed rule.now
happening (moment.Entered rule) = entered rule.now
happening (moment.Meeting rule part) = meeting rule.now part.now
happening (moment.Searching rule) = searching rule.now
happening (moment.Comparing rule part) = comparing rule.now part.now
happening (moment.Stopped rule) = stopped rule.now
happening (moment.Skipped rule) = skipped rule.now
happening (moment.Left rule reached) = left rule.now reached
