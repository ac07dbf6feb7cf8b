use Rattle.std.proofs.Common.{refl}
use Rattle.devdry_files.proofs.asking.rules_folders.Goals as goal

pub returns : goal.returns
returns c = rw (
  c.in_ok-push-4.ensures.items,
  c.in_ok-push-3.ensures.items,
  c.in_ok-push-2.ensures.items,
  c.in_ok-push.ensures.items,
  c.new-folders.ensures.items,
  c.in_ok-folder.ensures,
  c.in_ok-folder-2.ensures,
  c.in_ok-folder-3.ensures,
  c.in_ok-folder-4.ensures,
) refl
