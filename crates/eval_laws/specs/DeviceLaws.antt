-- What a block gives and what its groups are, in terms of its lines and not of how they are read.
use Rattle.std.specs.Prelude.{◌≡◌, ℕ, ◌+◌, ◌≤◌, Bool, true, false, List, ◌∷◌, ◌++◌, length, Some}
use Rattle.std.specs.List.{filter_map, flat_map, list_any, AllByRecursion}
use Rattle.text_bytes.specs.Text.{Text}
use Rattle.device_core.specs.Lines.{Row, row_of}
use Rattle.device_core.specs.Blocks.{is_kind, before_device, groups}
use Rattle.device_core.specs.Faults.{line_fault}
use Rattle.device_core.specs.declared.lines.LineKind.TheVariants.{Device}
use Rattle.device_core.specs.declared.faults.BlockFault.{BlockFault}
use Rattle.device_core.specs.declared.faults.BlockFaultKind.{BlockFaultKind}

-- lines by their kinds and rests
abbrev pub rows_of : List Text → List Row
rows_of lines = filter_map row_of lines

-- the line of this number, counted from 1, is faulty
pub record IsFaulty (lines : List Text) (number : ℕ) (kind : BlockFaultKind) : Type 0 where
  pub above : List Text
  pub line : Text
  pub below : List Text
  pub is_present : lines ≡ above ++ line ∷ below
  pub counted : number ≡ length above + 1
  pub wrong : line_fault (rows_of above) line below ≡ Some kind

-- no line is faulty
abbrev pub AreFaultless : List Text → Type 0
AreFaultless lines = (number : ℕ) (kind : BlockFaultKind) → ¬ IsFaulty lines number kind

-- the fault of the first faulty line
pub record IsLeastFault (lines : List Text) (fault : BlockFault) : Type 0 where
  pub faulty : IsFaulty lines fault.line fault.kind
  pub least : (number : ℕ) (kind : BlockFaultKind) → IsFaulty lines number kind → fault.line ≤ number

-- one of the lines is a `P:`
abbrev pub has_device : List Row → Bool
has_device rows = list_any (is_kind Device) rows

-- a group is a `P:` and lines that are not
pub record IsGroup (group : List Row) : Type 0 where
  pub head : Row
  pub tail : List Row
  pub is_present : group ≡ head ∷ tail
  pub begins : is_kind Device head ≡ true
  pub alone : has_device tail ≡ false

-- lines are some that are not a `P:`, and then the groups one after another
pub record AreGrouped (rows : List Row) : Type 0 where
  pub whole : rows ≡ before_device rows ++ flat_map (λ group. group) (groups rows)
  pub before : has_device (before_device rows) ≡ false
  pub each : AllByRecursion IsGroup (groups rows)
