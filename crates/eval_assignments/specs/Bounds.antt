-- How many bytes udev has room for in a text that is assigned; a longer text is left out as a whole.
use Rattle.std.specs.Prelude.{ℕ}
use Rattle.rule_types.specs.declared.roles.Target.{Target}
use Rattle.rule_types.specs.declared.roles.Target.TheVariants as target
use Rattle.eval_rendering.specs.Bounds.{most_command_bytes, most_path_bytes, most_value_bytes}

-- the most bytes of a text, by what it is assigned to
abbrev pub most_bytes_of : Target → ℕ
most_bytes_of (target.Seclabel name) = most_command_bytes
most_bytes_of target.Tag = most_path_bytes
most_bytes_of target.Name = most_path_bytes
most_bytes_of target.Symlink = most_path_bytes
most_bytes_of about = most_value_bytes
