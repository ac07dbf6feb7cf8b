-- The codes of what can be found in a file.
use Rattle.std.proofs.Common.{◌≡◌, ◌∙◌, true, false, Option, Some, None, refl, ap}
use Rattle.std.specs.Option.{option_map_or}
use Rattle.text_bytes.specs.Text.{Text}
use Rattle.file_catalogue.specs.Catalogue.{code_of, remark_of}
use Rattle.file_catalogue.specs.declared.remark.Remark.{Remark}
use Rattle.file_catalogue.proofs.Each.{each_found, each_named}
use Rattle.engine_checks.specs.Codes.{is_code, is_found}

-- the code of what can be found is one
pub found_code : (remark : Remark) → is_found remark ≡ true → is_code (code_of remark) ≡ true
found_code remark found = ap (λ o. option_map_or is_found o false) (each_found remark) ∙ found

-- a code that is one is that of something that can be found
pub is_named : (code : Text) → is_code code ≡ true → (remark : Remark) × ((is_found remark ≡ true) × (code_of remark ≡ code))
is_named code e = by (remark_of code) refl e
  where
    by : (r : Option Remark) → remark_of code ≡ r → option_map_or is_found r false ≡ true → (remark : Remark) × ((is_found remark ≡ true) × (code_of remark ≡ code))
    by None h k = absurd (cc)
    by (Some remark) h k = (remark, (k, each_named code remark h))
