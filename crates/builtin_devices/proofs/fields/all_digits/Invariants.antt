use Rattle.std.proofs.Common.{◌≡◌, flat_map, map, take}
use Rattle.builtin_devices.specs.Fields.{field_digits}
use Rattle.builtin_devices.proofs.fields.all_digits.Given as goal

abbrev pub invariant-loop-field : goal.invariant-loop-field
invariant-loop-field l = l.digits.items ≡ flat_map (field_digits l.width) (map (λ t. t.now) (take l.field-index l.fields))
