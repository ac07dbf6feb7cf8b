-- Lines are those above each `P:`, and then the groups.
use Rattle.std.proofs.Common.{◌≡◌, Bool, true, false, ◌||◌, List, [], ◌∷◌, ◌++◌, refl, ap, ◌∙◌, if◌then◌else◌}
use Rattle.std.specs.List.{flat_map, AllByRecursion}
use Rattle.device_core.specs.Lines.{Row}
use Rattle.device_core.specs.Blocks.{is_kind, before_device, groups}
use Rattle.eval_laws.specs.DeviceLaws.{has_device, IsGroup, AreGrouped}
use Rattle.device_core.specs.declared.lines.LineKind.TheVariants.{Device}

none_before : (rows : List Row) → has_device (before_device rows) ≡ false
unfolding before_device
none_before [] = refl
none_before (row ∷ rows) = by (is_kind Device row) refl (none_before rows)
  where
    by : (b : Bool) → is_kind Device row ≡ b → has_device (before_device rows) ≡ false → has_device (if b then [] else row ∷ before_device rows) ≡ false
    by true e more = refl
    by false e more = ap (λ (c : Bool). c || has_device (before_device rows)) e ∙ more

all_lines : (rows : List Row) → rows ≡ before_device rows ++ flat_map (λ group. group) (groups rows)
unfolding before_device groups
all_lines [] = refl
all_lines (row ∷ rows) = by (is_kind Device row) (all_lines rows)
  where
    by : (b : Bool) → rows ≡ before_device rows ++ flat_map (λ group. group) (groups rows)
        → row ∷ rows ≡ (if b then [] else row ∷ before_device rows) ++ flat_map (λ group. group) (if b then (row ∷ before_device rows) ∷ groups rows else groups rows)
    by true more = ap (λ rs. row ∷ rs) more
    by false more = ap (λ rs. row ∷ rs) more

each_group : (rows : List Row) → AllByRecursion IsGroup (groups rows)
unfolding groups
each_group [] = tt
each_group (row ∷ rows) = by (is_kind Device row) refl (each_group rows)
  where
    by : (b : Bool) → is_kind Device row ≡ b → AllByRecursion IsGroup (groups rows) → AllByRecursion IsGroup (if b then (row ∷ before_device rows) ∷ groups rows else groups rows)
    by true e more = (record { head = row; tail = before_device rows; is_present = refl; begins = e; alone = none_before rows }, more)
    by false e more = more

pub grouped : (rows : List Row) → AreGrouped rows
grouped rows = record { whole = all_lines rows; before = none_before rows; each = each_group rows }
