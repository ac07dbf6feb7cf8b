-- The names of substitutions.
use Rattle.std.specs.Prelude.{List, [], ◌∷◌, ◌++◌, Option, Some, None, length, drop, nat_eq, if◌then◌else◌, codes}
use Rattle.std.specs.List.{starts_with}
use Rattle.text_bytes.specs.Text.{Text}
use Rattle.text_bytes.specs.declared.profile.Profile.{Profile}
use Rattle.text_bytes.specs.declared.profile.Profile.TheVariants.{Manual, Udev}
use Rattle.rule_tokens.specs.declared.names.Substitution.{Substitution}
use Rattle.rule_tokens.specs.declared.names.Substitution.TheVariants as name

-- the names after a `$`, with what each asks for; `sysfs` and `tempnode` are refused, and `$$` means `$`
abbrev pub long_names : List (Text × Substitution)
long_names =
    (codes "kernel", name.Kernel)
    ∷ (codes "number", name.Number)
    ∷ (codes "devpath", name.Devpath)
    ∷ (codes "id", name.Id)
    ∷ (codes "driver", name.Driver)
    ∷ (codes "attr", name.Attr)
    ∷ (codes "env", name.Env)
    ∷ (codes "major", name.Major)
    ∷ (codes "minor", name.Minor)
    ∷ (codes "result", name.Result)
    ∷ (codes "parent", name.Parent)
    ∷ (codes "name", name.Name)
    ∷ (codes "links", name.Links)
    ∷ (codes "root", name.Root)
    ∷ (codes "sysfs", name.Refused)
    ∷ (codes "sys", name.Sys)
    ∷ (codes "devnode", name.Devnode)
    ∷ (codes "tempnode", name.Refused)
    ∷ (codes "$", name.Dollar)
    ∷ []

-- the letters after a `%`
abbrev pub short_names : List (Text × Substitution)
short_names =
    (codes "k", name.Kernel)
    ∷ (codes "n", name.Number)
    ∷ (codes "p", name.Devpath)
    ∷ (codes "b", name.Id)
    ∷ (codes "s", name.Attr)
    ∷ (codes "E", name.Env)
    ∷ (codes "M", name.Major)
    ∷ (codes "m", name.Minor)
    ∷ (codes "c", name.Result)
    ∷ (codes "P", name.Parent)
    ∷ (codes "r", name.Root)
    ∷ (codes "S", name.Sys)
    ∷ (codes "N", name.Devnode)
    ∷ (codes "%", name.Percent)
    ∷ []

-- the names after a `$` that the manual refuses and udev reads
abbrev pub old_names : List (Text × Substitution)
old_names = (codes "sysfs", name.Attr) ∷ (codes "tempnode", name.Devnode) ∷ []

-- the letters after a `%` that only udev knows
abbrev pub more_letters : List (Text × Substitution)
more_letters = (codes "d", name.Driver) ∷ (codes "D", name.Name) ∷ (codes "L", name.Links) ∷ []

-- the names after a `$`, by a profile
abbrev pub long_names_as : Profile → List (Text × Substitution)
long_names_as Manual = long_names
long_names_as Udev = old_names ++ long_names

-- the letters after a `%`, by a profile
abbrev pub short_names_as : Profile → List (Text × Substitution)
short_names_as Manual = short_names
short_names_as Udev = more_letters ++ short_names

-- what the first name at the front of a text asks for, and what is left after that name
abbrev pub named : List (Text × Substitution) → Text → Option (Substitution × Text)
named [] text = None
named (row ∷ rows) text = if starts_with nat_eq text row.0 then Some (row.1, drop (length row.0) text) else named rows text
