use Rattle.engine_formats.proofs.Carets.{caret_points, whole_shown}
use Rattle.engine_formats.proofs.laws.marks_are_below_their_places.Goals as goal

pub returns-clause-mark : goal.returns-clause-mark
returns-clause-mark c in_color d placed within = caret_points in_color d placed within

pub returns-clause-whole : goal.returns-clause-whole
returns-clause-whole c in_color d placed short = whole_shown in_color d placed short
