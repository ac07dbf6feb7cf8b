-- A key that may be final, and the event, stay as they are if another part of a scene changes.
use Rattle.std.proofs.Common.{◌≡◌, List, Option, Some, None, refl, ◌∙◌}
use Rattle.text_bytes.specs.Text.{Text}
use Rattle.text_tables.specs.Pairs.{Pair}
use Rattle.rule_types.specs.declared.roles.AssignOperator.{AssignOperator}
use Rattle.rule_types.specs.declared.roles.AssignOperator.TheVariants.{Assign, Add, Remove, AssignFinal}
use Rattle.eval_state.specs.Runs.{RunValue}
use Rattle.eval_state.specs.Scenes.{with_env}
use Rattle.eval_state.specs.declared.made_runs.MadeRun.{MadeRun}
use Rattle.eval_state.specs.declared.notes.Note.{Note}
use Rattle.eval_state.specs.declared.finals.FinalKey.{FinalKey}
use Rattle.eval_state.specs.declared.finals.FinalKey.TheVariants as key
use Rattle.eval_state.specs.declared.finals.Finals.{Finals}
use Rattle.eval_state.specs.declared.scene.Scene.{Scene}
use Rattle.eval_assignments.specs.Finality.{finally}
use Rattle.eval_laws.specs.AssignmentLaws.{SameAt}

-- what is looked at: the value of a key that may be final, or the event
pub data Kept : Type 0 where
  value : FinalKey → Kept
  event : Kept

-- two scenes have the same of it
abbrev pub At : Kept → Scene → Scene → Type 0
At (value k) s t = SameAt k s t
At event s t = t.state.event ≡ s.state.event

-- a key is another one than this, if this is one
abbrev pub Other : Kept → Option FinalKey → Type 0
Other (value k) own = own ≡ Some k → ⊥
Other event own = Unit {0}

-- neither the value of a key nor what is final differs
abbrev pub Same : Kept → Scene → Scene → Type 0
Same k s t = At k s t × (t.finals ≡ s.finals)

-- ---- parts of a scene

pub itself : (k : Kept) (s : Scene) → At k s s
itself (value key.Run) s = (refl, refl)
itself (value key.Owner) s = refl
itself (value key.Group) s = refl
itself (value key.Mode) s = refl
itself (value key.Name) s = refl
itself (value key.Symlink) s = refl
itself (value key.Priority) s = refl
itself (value key.Watch) s = refl
itself event s = refl

pub through : (k : Kept) (s t u : Scene) → At k s t → At k t u → At k s u
through (value key.Run) s t u a b = (b.0 ∙ a.0, b.1 ∙ a.1)
through (value key.Owner) s t u a b = b ∙ a
through (value key.Group) s t u a b = b ∙ a
through (value key.Mode) s t u a b = b ∙ a
through (value key.Name) s t u a b = b ∙ a
through (value key.Symlink) s t u a b = b ∙ a
through (value key.Priority) s t u a b = b ∙ a
through (value key.Watch) s t u a b = b ∙ a
through event s t u a b = b ∙ a

pub both : (k : Kept) (s t u : Scene) → Same k s t → Same k t u → Same k s u
both k s t u a b = (through k s t u a.0 b.0, b.1 ∙ a.1)

pub same_notes : (k : Kept) (s : Scene) (notes : List Note) → At k s (record s { notes = notes })
same_notes (value key.Run) s notes = (refl, refl)
same_notes (value key.Owner) s notes = refl
same_notes (value key.Group) s notes = refl
same_notes (value key.Mode) s notes = refl
same_notes (value key.Name) s notes = refl
same_notes (value key.Symlink) s notes = refl
same_notes (value key.Priority) s notes = refl
same_notes (value key.Watch) s notes = refl
same_notes event s notes = refl

same_finals : (k : Kept) (s : Scene) (f : Finals) → At k s (record s { finals = f })
same_finals (value key.Run) s f = (refl, refl)
same_finals (value key.Owner) s f = refl
same_finals (value key.Group) s f = refl
same_finals (value key.Mode) s f = refl
same_finals (value key.Name) s f = refl
same_finals (value key.Symlink) s f = refl
same_finals (value key.Priority) s f = refl
same_finals (value key.Watch) s f = refl
same_finals event s f = refl

pub same_env : (k : Kept) (s : Scene) (env : List Pair) → At k s (with_env env s)
same_env (value key.Run) s env = (refl, refl)
same_env (value key.Owner) s env = refl
same_env (value key.Group) s env = refl
same_env (value key.Mode) s env = refl
same_env (value key.Name) s env = refl
same_env (value key.Symlink) s env = refl
same_env (value key.Priority) s env = refl
same_env (value key.Watch) s env = refl
same_env event s env = refl

pub same_tags : (k : Kept) (s : Scene) (gone tags : List Text) → At k s (record s { gone = gone; state = record s.state { tags = tags } })
same_tags (value key.Run) s gone tags = (refl, refl)
same_tags (value key.Owner) s gone tags = refl
same_tags (value key.Group) s gone tags = refl
same_tags (value key.Mode) s gone tags = refl
same_tags (value key.Name) s gone tags = refl
same_tags (value key.Symlink) s gone tags = refl
same_tags (value key.Priority) s gone tags = refl
same_tags (value key.Watch) s gone tags = refl
same_tags event s gone tags = refl

pub same_tables : (k : Kept) (s : Scene) (labels attrs sysctls : List Pair) → At k s (record s { labels = labels; attrs = attrs; sysctls = sysctls })
same_tables (value key.Run) s labels attrs sysctls = (refl, refl)
same_tables (value key.Owner) s labels attrs sysctls = refl
same_tables (value key.Group) s labels attrs sysctls = refl
same_tables (value key.Mode) s labels attrs sysctls = refl
same_tables (value key.Name) s labels attrs sysctls = refl
same_tables (value key.Symlink) s labels attrs sysctls = refl
same_tables (value key.Priority) s labels attrs sysctls = refl
same_tables (value key.Watch) s labels attrs sysctls = refl
same_tables event s labels attrs sysctls = refl

pub same_owner : (k : Kept) (s : Scene) (owner : Option Text) → Other k (Some key.Owner) → At k s (record s { owner = owner })
same_owner (value key.Owner) s owner other = absurd (other refl)
same_owner (value key.Run) s owner other = (refl, refl)
same_owner (value key.Group) s owner other = refl
same_owner (value key.Mode) s owner other = refl
same_owner (value key.Name) s owner other = refl
same_owner (value key.Symlink) s owner other = refl
same_owner (value key.Priority) s owner other = refl
same_owner (value key.Watch) s owner other = refl
same_owner event s owner other = refl

pub same_group : (k : Kept) (s : Scene) (group : Option Text) → Other k (Some key.Group) → At k s (record s { group = group })
same_group (value key.Group) s group other = absurd (other refl)
same_group (value key.Run) s group other = (refl, refl)
same_group (value key.Owner) s group other = refl
same_group (value key.Mode) s group other = refl
same_group (value key.Name) s group other = refl
same_group (value key.Symlink) s group other = refl
same_group (value key.Priority) s group other = refl
same_group (value key.Watch) s group other = refl
same_group event s group other = refl

pub same_mode : (k : Kept) (s : Scene) (mode : Option Text) → Other k (Some key.Mode) → At k s (record s { mode = mode })
same_mode (value key.Mode) s mode other = absurd (other refl)
same_mode (value key.Run) s mode other = (refl, refl)
same_mode (value key.Owner) s mode other = refl
same_mode (value key.Group) s mode other = refl
same_mode (value key.Name) s mode other = refl
same_mode (value key.Symlink) s mode other = refl
same_mode (value key.Priority) s mode other = refl
same_mode (value key.Watch) s mode other = refl
same_mode event s mode other = refl

pub same_name : (k : Kept) (s : Scene) (name : Option Text) → Other k (Some key.Name) → At k s (record s { state = record s.state { name = name } })
same_name (value key.Name) s name other = absurd (other refl)
same_name (value key.Run) s name other = (refl, refl)
same_name (value key.Owner) s name other = refl
same_name (value key.Group) s name other = refl
same_name (value key.Mode) s name other = refl
same_name (value key.Symlink) s name other = refl
same_name (value key.Priority) s name other = refl
same_name (value key.Watch) s name other = refl
same_name event s name other = refl

pub same_links : (k : Kept) (s : Scene) (links : List Text) → Other k (Some key.Symlink) → At k s (record s { state = record s.state { links = links } })
same_links (value key.Symlink) s links other = absurd (other refl)
same_links (value key.Run) s links other = (refl, refl)
same_links (value key.Owner) s links other = refl
same_links (value key.Group) s links other = refl
same_links (value key.Mode) s links other = refl
same_links (value key.Name) s links other = refl
same_links (value key.Priority) s links other = refl
same_links (value key.Watch) s links other = refl
same_links event s links other = refl

pub same_runs : (k : Kept) (s : Scene) (runs : List RunValue) (made : List MadeRun) → Other k (Some key.Run) → At k s (record s { runs = runs; made = made })
same_runs (value key.Run) s runs made other = absurd (other refl)
same_runs (value key.Owner) s runs made other = refl
same_runs (value key.Group) s runs made other = refl
same_runs (value key.Mode) s runs made other = refl
same_runs (value key.Name) s runs made other = refl
same_runs (value key.Symlink) s runs made other = refl
same_runs (value key.Priority) s runs made other = refl
same_runs (value key.Watch) s runs made other = refl
same_runs event s runs made other = refl

pub same_finally : (k : Kept) (s t : Scene) (o : AssignOperator) (own : Option FinalKey) → At k s t → At k s (finally o own t)
same_finally k s t AssignFinal None h = h
same_finally k s t AssignFinal (Some j) h = through k s t _ h (same_finals k t _)
same_finally k s t Assign own h = h
same_finally k s t Add own h = h
same_finally k s t Remove own h = h
