-- The names of kernel parameters, as udev takes them.
use Rattle.std.specs.Prelude.{ℕ, Bool, not, ◌==◌, ◌||◌, if◌then◌else◌, map, Some}
use Rattle.std.specs.List.{join_with_byte}
use Rattle.text_bytes.specs.Names.{dot, slash}
use Rattle.text_bytes.specs.Texts.{begins_with, skip_while}
use Rattle.text_tables.specs.Pairs.{with_value}
use Rattle.text_bytes.specs.Text.{Text}
use Rattle.rule_types.specs.declared.keys.Key.TheVariants as key
use Rattle.rule_types.specs.Rules.{Rule}
use Rattle.eval_rendering.specs.Bounds.{most_path_bytes, within}
use Rattle.eval_rendering.specs.Rendering.{rendered_as_udev}
use Rattle.eval_rendering.specs.declared.rendered.Rendered.{Rendered}
use Rattle.eval_rendering.specs.declared.rendered.Rendered.TheVariants as rendered
use Rattle.eval_state.specs.Scenes.{noted_key}
use Rattle.eval_state.specs.declared.note_kind.NoteKind.TheVariants.{TextTooLong}
use Rattle.eval_state.specs.declared.scene.Scene.{Scene}
use Rattle.eval_assignments.specs.Links.{components}

-- whether a byte separates the components of a parameter's name
abbrev pub is_separator : ℕ → Bool
is_separator b = b == dot || b == slash

-- a dot for a slash, and a slash for a dot
abbrev pub exchanged : ℕ → ℕ
exchanged b = if b == dot then slash else if b == slash then dot else b

-- the name of a parameter with slashes: if a dot is its first separator, dots and slashes are exchanged
abbrev pub with_slashes : Text → Text
with_slashes name = if begins_with dot (skip_while (λ b. not (is_separator b)) name) then map exchanged name else name

-- the name of a parameter as udev reports it: its path below `/proc/sys`
abbrev pub parameter_name : Text → Text
parameter_name name = join_with_byte slash (components (with_slashes name))

-- a value is assigned to a parameter by its name once this is rendered; one that is too long leaves a note with the
-- name as it is written
abbrev pub parameter_put : Rule → Text → Rendered → Text → Scene → Scene
parameter_put r written rendered.TooLong t s = noted_key r TextTooLong key.Sysctl (Some written) s
parameter_put r written (rendered.Text name) t s = record s { sysctls = with_value s.sysctls (parameter_name name) t }

-- a value is assigned to a parameter, by its name as it is written
abbrev pub parameter_set : Rule → Text → Text → Scene → Scene
parameter_set r written t s = parameter_put r written (within most_path_bytes (rendered_as_udev written s.state)) t s
