use Rattle.text_tables.proofs.Held.{borrowed}
use Rattle.builtin_devices.proofs.root_files.RootFiles.get.Goals as goal

pub returns : goal.returns
returns c = rw (← c.self.view_is) (borrowed (λ k. k.items) (λ v. v) c.self.inside.held.entries c.args.path.now c.get.result c.get.ensures.value)
