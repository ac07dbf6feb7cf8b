use Rattle.text_tables.proofs.Held.{set}
use Rattle.builtin_devices.proofs.root_files.RootFiles.add.Goals as goal

pub returns-clause-files : goal.returns-clause-files
returns-clause-files c =
    rw (c.in_ok-insert.ensures.entries, ← c.self.view_is, ← c.in_ok-path.ensures.items)
    (set (λ k. k.items) (λ v. v) c.self.inside.held.entries c.in_ok-path.path c.args.found)
