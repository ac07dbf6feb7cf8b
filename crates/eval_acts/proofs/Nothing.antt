-- A scene to whose notes nothing is added.
use Rattle.std.proofs.Common.{◌≡◌, [], ◌++◌, append-nil, ap, sym}
use Rattle.eval_state.specs.declared.scene.Scene.{Scene}

pub nothing_noted : (s : Scene) → s ≡ record s { notes = s.notes ++ [] }
nothing_noted s = ap (λ notes. record s { notes = notes }) (sym (append-nil s.notes))
