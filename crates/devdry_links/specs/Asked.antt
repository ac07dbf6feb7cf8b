-- What a line asks to be told.
use Rattle.std.specs.Prelude.{Bool, true, false, not, ◌&&◌, ◌||◌, ◌==◌, length, map, vec_len}
use Rattle.text_bytes.specs.Text.{Text}
use Rattle.text_bytes.specs.declared.profile.Profile.{Profile}
use Rattle.text_bytes.specs.declared.profile.Profile.TheVariants.{Manual, Udev}
use Rattle.text_tables.specs.Texts.{is_among}
use Rattle.engine_sessions.specs.Readers.{is_for_people}
use Rattle.engine_sessions.specs.declared.line.Line.{Line}
use Rattle.engine_sessions.specs.declared.line.Verb.{Verb}
use Rattle.engine_sessions.specs.declared.line.Verb.TheVariants.{Update, Query, Verify, Events}

-- whether rules are read as udev itself reads them
abbrev pub is_as_udev : Profile → Bool
is_as_udev Udev = true
is_as_udev Manual = false

-- whether a subcommand checks rules
abbrev pub is_verify : Verb → Bool
is_verify Verify = true
is_verify _ = false

-- whether what no editor shows is told: rules are checked as udev reads them, or with lints
abbrev pub asks_unseen : Line → Bool
asks_unseen line = is_verify line.verb && (is_as_udev line.profile || line.lint)

-- whether a line asks for more than messages about files of its kind: `verify` for every check, `update` for lints, and both for people
abbrev pub asks_more : Verb → (strict lint people : Bool) → Bool
asks_more Verify strict lint people = strict || people
asks_more Update strict lint people = lint || people
asks_more _ strict lint people = false

-- whether files of another kind are told
abbrev pub asks_kinds : Line → Bool
asks_kinds line = asks_more line.verb line.strict line.lint (is_for_people line.format)

-- whether a line asks if a file that it names is a folder: messages are for people
abbrev pub asks_folder : Line → (path : Text) → Bool
asks_folder line path = is_for_people line.format && is_among (map (λ f. f.now) line.files.items) path

-- whether a line asks about rules that belong together: `verify` for every check, and `events` for what rules met
abbrev pub asks_rules : Verb → (strict why : Bool) → Bool
asks_rules Verify strict why = strict
asks_rules Events strict why = why
asks_rules _ strict why = false

-- whether a line asks if the rules of its root are not read: it has a root, and a file is named in place of them
abbrev pub asks_root : Line → Bool
asks_root line = asks_rules line.verb line.strict (not (vec_len line.why == 0)) && (not (length line.root.now == 0) && not (vec_len line.files == 0))
