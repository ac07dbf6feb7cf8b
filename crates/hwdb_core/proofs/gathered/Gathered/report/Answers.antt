use Rattle.file_messages.specs.Messages.{message}
use Rattle.hwdb_core.proofs.Joining.{held_as}
use Rattle.hwdb_core.proofs.Keeping.{reported_as}
use Rattle.hwdb_core.proofs.gathered.Gathered.report.Goals as goal

pub returns : goal.returns
returns c =
    reported_as (held_as c.self.inside.wanted c.self.inside.entries.items c.self.inside.count c.self.inside.match_bytes c.self.inside.text_bytes c.self.inside.messages.items) c.args.self.now
    c.push.new.self.items c.in_ok-about.field-0 (message c.args.file.now c.args.number c.args.kind c.args.word.now)
    c.in_ok-about.ensures c.in_ok-push.ensures.items c.self.view_is
