-- What the lines about the last device have of commands, and of properties behind them.
use Rattle.std.proofs.Common.{◌≡◌, true, false, List, [], ◌∷◌, ◌++◌, Option, Some, None, option_map, fold, refl, ap, ◌∙◌}
use Rattle.std.proofs.lemmas.List.Sums.{fold-append}
use Rattle.std.specs.List.{AllByRecursion}
use Rattle.text_bytes.specs.Text.{Text}
use Rattle.text_tables.specs.Pairs.{Pair as NameAndValue}
use Rattle.device_core.specs.Lines.{Row}
use Rattle.device_core.specs.Parts.{pair_of}
use Rattle.device_core.specs.Blocks.{BehindValue, behind_after, behind_in, is_kind, nothing_behind}
use Rattle.device_core.specs.declared.lines.DeviceField.{DeviceField}
use Rattle.device_core.specs.declared.lines.DeviceField.TheVariants.{Subsystem, Driver, Node, Devnum, Attribute, Property, Stored, Tag, Link}
use Rattle.device_core.specs.declared.lines.LineKind.{LineKind}
use Rattle.device_core.specs.declared.lines.LineKind.TheVariants.{Action, Device, Field, Constant, Command, Answer, Output}

-- that, after some lines more
abbrev from : BehindValue → List Row → BehindValue
from behind rows = fold (λ (b : BehindValue) (row : Row). behind_after b row.0 row.1) behind rows

pub behind_append : (above rows : List Row) → behind_in (above ++ rows) ≡ from (behind_in above) rows
unfolding behind_in
behind_append above rows = fold-append (λ (b : BehindValue) (row : Row). behind_after b row.0 row.1) nothing_behind above rows

-- a command, and the first property behind one
abbrev commanded : Option Text → BehindValue
commanded property = record { has_command = true; property = property }

-- lines that neither begin a device nor give a property leave a command without one
waits_field : (field : DeviceField) (rest : Text) → is_kind (Field Property) (Field field, rest) ≡ false → behind_after (commanded None) (Field field) rest ≡ commanded None
waits_field Subsystem rest p = refl
waits_field Driver rest p = refl
waits_field Node rest p = refl
waits_field Devnum rest p = refl
waits_field Attribute rest p = refl
waits_field Property rest p = cc
waits_field Stored rest p = refl
waits_field Tag rest p = refl
waits_field Link rest p = refl

waits_row : (kind : LineKind) (rest : Text) → is_kind Device (kind, rest) ≡ false → is_kind (Field Property) (kind, rest) ≡ false → behind_after (commanded None) kind rest ≡ commanded None
waits_row Action rest d p = refl
waits_row Device rest d p = cc
waits_row (Field field) rest d p = waits_field field rest p
waits_row Constant rest d p = refl
waits_row Command rest d p = refl
waits_row Answer rest d p = refl
waits_row Output rest d p = refl

waits : (rows : List Row) → AllByRecursion (λ row. is_kind Device row ≡ false) rows → AllByRecursion (λ row. is_kind (Field Property) row ≡ false) rows → from (commanded None) rows ≡ commanded None
waits [] d p = refl
waits (row ∷ rows) d p = ap (λ b. from b rows) (waits_row row.0 row.1 d.0 p.0) ∙ waits rows d.1 p.1

-- a property that is known stays until a device begins
stays_field : (name : Text) (field : DeviceField) (rest : Text) → behind_after (commanded (Some name)) (Field field) rest ≡ commanded (Some name)
stays_field name Subsystem rest = refl
stays_field name Driver rest = refl
stays_field name Node rest = refl
stays_field name Devnum rest = refl
stays_field name Attribute rest = refl
stays_field name Property rest = refl
stays_field name Stored rest = refl
stays_field name Tag rest = refl
stays_field name Link rest = refl

stays_row : (name : Text) (kind : LineKind) (rest : Text) → is_kind Device (kind, rest) ≡ false → behind_after (commanded (Some name)) kind rest ≡ commanded (Some name)
stays_row name Action rest d = refl
stays_row name Device rest d = cc
stays_row name (Field field) rest d = stays_field name field rest
stays_row name Constant rest d = refl
stays_row name Command rest d = refl
stays_row name Answer rest d = refl
stays_row name Output rest d = refl

stays : (name : Text) (rows : List Row) → AllByRecursion (λ row. is_kind Device row ≡ false) rows → from (commanded (Some name)) rows ≡ commanded (Some name)
stays name [] d = refl
stays name (row ∷ rows) d = ap (λ b. from b rows) (stays_row name row.0 row.1 d.0) ∙ stays name rows d.1

-- no property is known where there is no command
none_field : (field : DeviceField) (rest : Text) → behind_after nothing_behind (Field field) rest ≡ nothing_behind
none_field Subsystem rest = refl
none_field Driver rest = refl
none_field Node rest = refl
none_field Devnum rest = refl
none_field Attribute rest = refl
none_field Property rest = refl
none_field Stored rest = refl
none_field Tag rest = refl
none_field Link rest = refl

none_row : (kind : LineKind) (rest : Text) → is_kind Command (kind, rest) ≡ false → behind_after nothing_behind kind rest ≡ nothing_behind
none_row Action rest c = refl
none_row Device rest c = refl
none_row (Field field) rest c = none_field field rest
none_row Constant rest c = refl
none_row Command rest c = cc
none_row Answer rest c = refl
none_row Output rest c = refl

none : (rows : List Row) → AllByRecursion (λ row. is_kind Command row ≡ false) rows → from nothing_behind rows ≡ nothing_behind
none [] c = refl
none (row ∷ rows) c = ap (λ b. from b rows) (none_row row.0 row.1 c.0) ∙ none rows c.1

-- without a command below the last `P:` nothing is known
pub without_command : (above about : List Row) (path : Text) → AllByRecursion (λ row. is_kind Command row ≡ false) about → (behind_in (above ++ (Device, path) ∷ about)).property ≡ None
without_command above about path c = ap (λ b. b.property) (behind_append above ((Device, path) ∷ about) ∙ none about c)

-- the first property behind the command is known
pub behind_command : (above between below : List Row) (path command text : Text) (pair : NameAndValue) → (about : List Row) → AllByRecursion (λ row. is_kind Command row ≡ false) about
    → AllByRecursion (λ row. is_kind Device row ≡ false) between → AllByRecursion (λ row. is_kind (Field Property) row ≡ false) between → AllByRecursion (λ row. is_kind Device row ≡ false) below
    → pair_of text ≡ Some pair → (behind_in (((above ++ (Device, path) ∷ about) ++ (Command, command) ∷ between) ++ (Field Property, text) ∷ below)).property ≡ Some pair.0
behind_command above between below path command text pair about c d p e is =
    let first : behind_in (above ++ (Device, path) ∷ about) ≡ nothing_behind = behind_append above ((Device, path) ∷ about) ∙ none about c in
    let second : behind_in ((above ++ (Device, path) ∷ about) ++ (Command, command) ∷ between) ≡ commanded None =
    behind_append (above ++ (Device, path) ∷ about) ((Command, command) ∷ between) ∙ ap (λ b. from b ((Command, command) ∷ between)) first ∙ waits between d p in
    let third = behind_append ((above ++ (Device, path) ∷ about) ++ (Command, command) ∷ between) ((Field Property, text) ∷ below)
    ∙ ap (λ b. from b ((Field Property, text) ∷ below)) second ∙ ap (λ o. from (commanded (option_map (λ q. q.0) o)) below) is ∙ stays pair.0 below e in
    ap (λ b. b.property) third
