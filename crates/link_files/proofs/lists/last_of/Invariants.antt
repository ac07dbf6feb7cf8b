use Rattle.std.proofs.Common.{◌≡◌, [], drop, fold}
use Rattle.std.specs.Prelude.{if◌then◌else◌}
use Rattle.link_files.specs.Lists.{is_of}
use Rattle.link_files.proofs.lists.last_of.Given as goal

abbrev pub invariant-loop-setting : goal.invariant-loop-setting
invariant-loop-setting l =
    fold (λ held setting. if is_of l.section l.key setting then setting.value else held) l.held (drop l.setting-index l.settings)
    ≡ fold (λ held setting. if is_of l.section l.key setting then setting.value else held) [] l.settings
