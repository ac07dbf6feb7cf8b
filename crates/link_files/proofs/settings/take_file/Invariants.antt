use Rattle.std.proofs.Common.{◌≡◌, [], fold, length}
use Rattle.text_bytes.specs.Lines.{lines}
use Rattle.link_files.specs.Lines.{joined_from}
use Rattle.link_files.specs.Settings.{unmarked, with_line}
use Rattle.link_files.proofs.settings.take_file.Given as goal

abbrev pub invariant-lines : goal.invariant-lines
invariant-lines l =
    fold with_line l.reading (joined_from l.held.items (lines l.rest)) ≡ fold with_line (record l.fn.reading { section = [] }) (joined_from [] (lines (unmarked l.fn.bytes)))

abbrev pub decreases-lines : goal.decreases-lines
decreases-lines l = length l.rest
