use Rattle.std.proofs.Common.{◌≡◌, [], drop, fold}
use Rattle.link_files.specs.Lists.{with_texts_of}
use Rattle.link_files.proofs.lists.list_of.Given as goal

abbrev pub invariant-loop-setting : goal.invariant-loop-setting
invariant-loop-setting l =
    fold (with_texts_of l.kind l.key) l.held.items (drop l.setting-index l.settings) ≡ fold (with_texts_of l.kind l.key) [] l.settings
