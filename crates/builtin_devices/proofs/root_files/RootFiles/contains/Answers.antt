use Rattle.text_tables.proofs.Held.{has}
use Rattle.builtin_devices.proofs.root_files.RootFiles.contains.Goals as goal

pub returns : goal.returns
returns c = rw (c.contains_key.ensures, ← c.self.view_is) (has (λ k. k.items) (λ v. v) c.self.inside.held.entries c.args.path.now)
