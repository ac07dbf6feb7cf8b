use Rattle.devdry_links.proofs.NoBreak.{found_behind}
use Rattle.devdry_links.proofs.file_note_laws.no_break_spaces_are_found.Goals as goal

pub returns : goal.returns
returns c = found_behind 0 c.args.before.now c.args.after.now
