use Rattle.engine_formats.proofs.LineParts.{long_alike, part_bounded, short_apart}
use Rattle.engine_formats.proofs.reader_laws.fingerprints_tell_lines_apart.Goals as goal

pub returns-clause-short : goal.returns-clause-short
returns-clause-short c one other short same = short_apart one other short same

pub returns-clause-long : goal.returns-clause-long
returns-clause-long c one other long longer few fewer same = long_alike one other long longer few fewer same

pub returns-clause-bounded : goal.returns-clause-bounded
returns-clause-bounded c source few = part_bounded source few
