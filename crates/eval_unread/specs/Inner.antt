-- Serves inner proofs only: what is noted, moment by moment.
use Rattle.std.specs.Prelude.{true, List, ◌++◌}
use Rattle.eval_state.specs.declared.notes.Note.{Note}
use Rattle.eval_state.specs.declared.scene.Scene.{Scene}
use Rattle.eval_rules.specs.Watched.{Happening, assigned, searching}
use Rattle.eval_unread.specs.Unread.{searched_unread, unread_from}

-- what was noted, once more happened: only searches and assignments leave notes
abbrev pub noting : List Note → Happening → Scene → List Note
noting notes (assigned r made) s = notes ++ unread_from r r.sets s
noting notes (searching r) s = notes ++ searched_unread r (s, true)
noting notes happening s = notes
