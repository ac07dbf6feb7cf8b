use Rattle.std.proofs.Common.{◌∙◌, ap, option_map, sym}
use Rattle.builtin_devices.proofs.Gathered.{folder_put}
use Rattle.builtin_devices.proofs.folders.empty_folders.Goals as goal

pub loop-path-preserved-in_ok-insert : goal.loop-path-preserved-in_ok-insert
loop-path-preserved-in_ok-insert c = λ folder among.
    folder_put c.loop-path.folders.entries c.insert.new.self.entries c.loop-path.path-iterator c.next.new.self _ c.in-Some-described_path.folder c.new.result folder c.in-Some.ensures.steps
    (sym c.described_path.ensures ∙ ap (option_map (λ t. t.now)) c.in-Some-described_path.is)
    c.in_ok-insert.ensures.entries c.new.ensures.items
    (c.loop-path.invariant folder among)

pub loop-path-preserved-in_ok-insert-2 : goal.loop-path-preserved-in_ok-insert-2
loop-path-preserved-in_ok-insert-2 c = λ folder among.
    folder_put c.loop-path.folders.entries c.insert.new.self.entries c.loop-path.path-iterator c.next.new.self _ c.in-Some-described_path.folder c.new.result folder c.in-Some.ensures.steps
    (sym c.described_path.ensures ∙ ap (option_map (λ t. t.now)) c.in-Some-described_path.is)
    c.in_ok-insert.ensures.entries c.new.ensures.items
    (c.loop-path.invariant folder among)
