-- What lines give, by which of them are faulty.
use Rattle.std.proofs.Common.{◌≡◌, ℕ, ◌+◌, Bool, true, false, not, ◌||◌, List, [], ◌∷◌, ◌++◌, length, map, Option, Some, None, Result, Ok, Err, IsOk, refl, ap, sym, ◌∙◌, subst, if◌then◌else◌, arith}
use Rattle.std.proofs.lemmas.List.{append-nil, append_assoc, length-append}
use Rattle.std.specs.Option.{option_to_list}
use Rattle.std.specs.List.{cons_option}
use Rattle.text_bytes.specs.Texts.{is_empty}
use Rattle.text_bytes.specs.Text.{Text}
use Rattle.device_core.specs.Values.{DeviceValue, EventValue, chain}
use Rattle.device_core.specs.Lines.{Row, row_of}
use Rattle.device_core.specs.Blocks.{is_kind, before_device, groups, device, devices, event}
use Rattle.device_core.specs.Faults.{line_fault, unless_faulty, given_with, given_below, given_by}
use Rattle.eval_laws.specs.DeviceLaws.{rows_of, AreFaultless, IsLeastFault, has_device}
use Rattle.device_core.specs.declared.lines.LineKind.TheVariants.{Device}
use Rattle.device_core.specs.declared.faults.BlockFault.{BlockFault}
use Rattle.device_core.specs.declared.faults.BlockFaultKind.{BlockFaultKind}
use Rattle.device_core.specs.declared.faults.BlockFaultKind.TheVariants.{NoDevice}
use Rattle.device_core.proofs.Judged.{counted}

onto : (o : Option Row) (rows more : List Row) → rows ++ cons_option o more ≡ (rows ++ option_to_list o) ++ more
onto None rows more = ap (λ rs. rs ++ more) (sym (append-nil rows))
onto (Some row) rows more = sym (append_assoc rows (row ∷ []) more)

-- the lines above, with one line more and then others
rows_on : (line : Text) (lines : List Text) (rows : List Row) → rows ++ rows_of (line ∷ lines) ≡ (rows ++ option_to_list (row_of line)) ++ rows_of lines
rows_on line lines rows = onto (row_of line) rows (rows_of lines)

-- no line of these is faulty, below some rows and above some lines
abbrev pub IsClean : List Row → List Text → List Text → Type 0
IsClean rows lines rest = (above : List Text) (line : Text) (below : List Text) → lines ≡ above ++ line ∷ below → line_fault (rows ++ rows_of above) line (below ++ rest) ≡ None

module _ (rest : List Text) where
  given_on : (line : Text) (lines : List Text) (rows : List Row) → line_fault rows line lines ≡ None → given_below rows (line ∷ lines) ≡ given_below (rows ++ option_to_list (row_of line)) lines
  unfolding given_below
  given_on line lines rows none = rw none refl

  here : (line : Text) (lines : List Text) (rows : List Row) → IsClean rows (line ∷ lines) rest → line_fault rows line (lines ++ rest) ≡ None
  here line lines rows clean = ap (λ rs. line_fault rs line (lines ++ rest)) (sym (append-nil rows)) ∙ clean [] line lines refl

  later : (line : Text) (lines : List Text) (rows : List Row) → IsClean rows (line ∷ lines) rest → IsClean (rows ++ option_to_list (row_of line)) lines rest
  later line lines rows clean above next below e = ap (λ rs. line_fault rs next (below ++ rest)) (sym (rows_on line above rows)) ∙ clean (line ∷ above) next below (ap (λ ls. line ∷ ls) e)

  -- lines that are not faulty are passed
  passed : (lines : List Text) (rows : List Row) → IsClean rows lines rest → given_below rows (lines ++ rest) ≡ given_below (rows ++ rows_of lines) rest
  passed [] rows clean = ap (λ rs. given_below rs rest) (sym (append-nil rows))
  passed (line ∷ lines) rows clean =
      given_on line (lines ++ rest) rows (here line lines rows clean)
      ∙ passed lines (rows ++ option_to_list (row_of line)) (later line lines rows clean)
      ∙ ap (λ rs. given_below rs rest) (sym (rows_on line lines rows))

  -- and each of them is a row
  as_long : (lines : List Text) (rows : List Row) → IsClean rows lines rest → length (rows ++ rows_of lines) ≡ length rows + length lines
  as_long [] rows clean = ap length (append-nil rows) ∙ omega arith
  as_long (line ∷ lines) rows clean =
      let one = counted rows line (lines ++ rest) (here line lines rows clean) in
      let more = as_long lines (rows ++ option_to_list (row_of line)) (later line lines rows clean) in
      ap length (rows_on line lines rows) ∙ more ∙ omega (arith, one)

-- ---- the least faulty line

none_or : {P : Type 0} (fault : Option BlockFaultKind) → ((kind : BlockFaultKind) → fault ≡ Some kind → P) → (P → fault ≡ None) → fault ≡ None
none_or None wrong never = refl
none_or (Some kind) wrong never = never (wrong kind refl)

given_after : (above : List Text) (line : Text) (below : List Text) → given_by (above ++ line ∷ below) ≡ given_below [] (above ++ line ∷ below)
unfolding given_by
given_after [] line below = refl
given_after (first ∷ above) line below = refl

fails_here : (rows : List Row) (line : Text) (below : List Text) (kind : BlockFaultKind) → line_fault rows line below ≡ Some kind → given_below rows (line ∷ below) ≡ Err (record { line = length rows + 1; kind = kind })
unfolding given_below
fails_here rows line below kind wrong = rw wrong refl

module _ (lines : List Text) (fault : BlockFault) (h : IsLeastFault lines fault) where
  clean_above : IsClean [] h.faulty.above (h.faulty.line ∷ h.faulty.below)
  clean_above above line below e = none_or {P = ⊥} (line_fault (rows_of above) line (below ++ h.faulty.line ∷ h.faulty.below)) earlier absurd
    where
      earlier : (kind : BlockFaultKind) → line_fault (rows_of above) line (below ++ h.faulty.line ∷ h.faulty.below) ≡ Some kind → ⊥
      earlier kind wrong =
          let least = h.least (length above + 1) kind (record {
            above = above;
            line = line;
            below = below ++ h.faulty.line ∷ h.faulty.below;
            is_present = h.faulty.is_present ∙ ap (λ ls. ls ++ h.faulty.line ∷ h.faulty.below) e ∙ append_assoc above (line ∷ below) (h.faulty.line ∷ h.faulty.below);
            counted = refl;
            wrong = wrong;
          }) in
          let long : length h.faulty.above ≡ length above + length (line ∷ below) = ap length e ∙ length-append above (line ∷ below) in
          omega (arith, least, h.faulty.counted, long)

  -- the fault of the least faulty line is what the lines give
  pub least_counts : given_by lines ≡ Err fault
  least_counts =
      let rest = h.faulty.line ∷ h.faulty.below in
      let long = as_long rest h.faulty.above [] clean_above in
      let count : length (rows_of h.faulty.above) + 1 ≡ fault.line = omega (arith, long, h.faulty.counted) in
      ap given_by h.faulty.is_present
      ∙ given_after h.faulty.above h.faulty.line h.faulty.below
      ∙ passed rest h.faulty.above [] clean_above
      ∙ fails_here (rows_of h.faulty.above) h.faulty.line h.faulty.below fault.kind h.faulty.wrong
      ∙ ap (λ n. Err (record { line = n; kind = fault.kind })) count

-- ---- lines of which none is faulty

clean_all : (lines : List Text) → AreFaultless lines → IsClean [] lines []
clean_all lines faultless above line below e = none_or {P = ⊥} (line_fault (rows_of above) line (below ++ [])) found absurd
  where
    found : (kind : BlockFaultKind) → line_fault (rows_of above) line (below ++ []) ≡ Some kind → ⊥
    found kind wrong = faultless (length above + 1) kind (record {
      above = above;
      line = line;
      below = below ++ [];
      is_present = e ∙ ap (λ ls. above ++ line ∷ ls) (sym (append-nil below));
      counted = refl;
      wrong = wrong;
    })

-- what lines give of which none is faulty
module _ (line : Text) (below : List Text) (clean : IsClean [] (line ∷ below) []) where
  given_all : given_by (line ∷ below) ≡ given_with (rows_of (line ∷ below)) (devices (rows_of (line ∷ below)))
  unfolding given_by given_below
  given_all = ap (λ ls. given_below [] ls) (sym (append-nil (line ∷ below))) ∙ passed [] (line ∷ below) [] clean

  pub lacks : devices (rows_of (line ∷ below)) ≡ [] → given_by (line ∷ below) ≡ Err (record { line = length (line ∷ below); kind = NoDevice })
  lacks none =
      let long = as_long [] (line ∷ below) [] clean in
      let count : length (rows_of (line ∷ below)) ≡ length (line ∷ below) = omega (arith, long) in
      given_all ∙ ap (given_with (rows_of (line ∷ below))) none ∙ ap (λ n. Err (record { line = n; kind = NoDevice })) count

fault_free : (n : ℕ) (fault : Option BlockFaultKind) (whole : Result EventValue BlockFault) → IsOk (unless_faulty n fault whole) → (fault ≡ None) × IsOk whole
fault_free n None whole ok = (refl, ok)
fault_free n (Some kind) whole ok = cc

-- if lines give an event, none of them is faulty
ok_clean : (above : List Text) (line : Text) (below : List Text) (rows : List Row) → IsOk (given_below rows (above ++ line ∷ below)) → line_fault (rows ++ rows_of above) line below ≡ None
unfolding given_below
ok_clean [] line below rows ok = ap (λ rs. line_fault rs line below) (append-nil rows) ∙ (fault_free (length rows + 1) (line_fault rows line below) (given_below (rows ++ option_to_list (row_of line)) below) ok).0
ok_clean (first ∷ above) line below rows ok =
    ap (λ rs. line_fault rs line below) (rows_on first above rows)
    ∙ ok_clean above line below (rows ++ option_to_list (row_of first)) (fault_free (length rows + 1) (line_fault rows first (above ++ line ∷ below)) (given_below (rows ++ option_to_list (row_of first)) (above ++ line ∷ below)) ok).1

ok_all : (line : Text) (below : List Text) → IsOk (given_by (line ∷ below)) → IsClean [] (line ∷ below) []
unfolding given_by
ok_all line below ok above next after e = ok_clean above next (after ++ []) [] (subst (λ (ls : List Text). IsOk (given_below [] ls)) (e ∙ ap (λ ls. above ++ next ∷ ls) (sym (append-nil after))) ok)

ok_faultless : (lines : List Text) → IsOk (given_by lines) → AreFaultless lines
ok_faultless lines ok number kind f =
    let none = ok_clean f.above f.line f.below [] (subst (λ (r : Result EventValue BlockFault). IsOk r) (ap given_by f.is_present ∙ given_after f.above f.line f.below) ok) in
    let both : None ≡ Some kind = sym none ∙ f.wrong in
    cc

-- ---- devices

abbrev pub is_there : {X : Type 0} → List X → Bool
is_there xs = not (is_empty xs)

groups_there : (rows : List Row) → is_there (groups rows) ≡ has_device rows
unfolding groups
groups_there [] = refl
groups_there (row ∷ rows) = by (is_kind Device row) (groups_there rows)
  where
    by : (b : Bool) → is_there (groups rows) ≡ has_device rows → is_there (if b then (row ∷ before_device rows) ∷ groups rows else groups rows) ≡ (b || has_device rows)
    by true h = refl
    by false h = h

pub devices_there : (rows : List Row) → is_there (devices rows) ≡ has_device rows
unfolding devices
devices_there rows = by (groups rows) ∙ groups_there rows
  where
    by : (gs : List (List Row)) → is_there (map device gs) ≡ is_there gs
    by [] = refl
    by (g ∷ gs) = refl

none_there : {X : Type 0} (xs : List X) → is_there xs ≡ false → xs ≡ []
none_there [] h = refl
none_there (x ∷ xs) h = cc

ok_with : (rows : List Row) (ds : List DeviceValue) → IsOk (given_with rows ds) → is_there ds ≡ true
ok_with rows [] ok = cc
ok_with rows (d ∷ ds) ok = refl

with_ok : (rows : List Row) (ds : List DeviceValue) → is_there ds ≡ true → IsOk (given_with rows ds)
with_ok rows [] some = cc
with_ok rows (d ∷ ds) some = refl

-- ---- the laws

pub ok_says : (lines : List Text) → IsOk (given_by lines) → (AreFaultless lines) × (has_device (rows_of lines) ≡ true)
unfolding given_by
ok_says [] ok = cc
ok_says (line ∷ below) ok =
    let given = given_all line below (ok_all line below ok) in
    (ok_faultless (line ∷ below) ok, sym (devices_there (rows_of (line ∷ below))) ∙ ok_with (rows_of (line ∷ below)) (devices (rows_of (line ∷ below))) (subst (λ (r : Result EventValue BlockFault). IsOk r) given ok))

pub says_ok : (lines : List Text) → (AreFaultless lines) × (has_device (rows_of lines) ≡ true) → IsOk (given_by lines)
says_ok [] h = cc
says_ok (line ∷ below) h =
    subst (λ (r : Result EventValue BlockFault). IsOk r) (sym (given_all line below (clean_all (line ∷ below) h.0)))
    (with_ok (rows_of (line ∷ below)) (devices (rows_of (line ∷ below))) (devices_there (rows_of (line ∷ below)) ∙ h.1))

event_with : (rows : List Row) (ds : List DeviceValue) (given : EventValue) → given_with rows ds ≡ Ok given → (chain given ≡ ds) × (given ≡ event rows given.device given.parents)
unfolding event
event_with rows [] given e = cc
event_with rows (d ∷ ds) given e = let same : event rows d ds ≡ given = cc in (ap chain (sym same), sym same ∙ ap (λ g. event rows g.device g.parents) same)

pub event_says : (lines : List Text) (given : EventValue) → given_by lines ≡ Ok given → (chain given ≡ devices (rows_of lines)) × (given ≡ event (rows_of lines) given.device given.parents)
unfolding given_by
event_says [] given e = cc
event_says (line ∷ below) given e =
    let clean = ok_all line below (subst (λ (r : Result EventValue BlockFault). IsOk r) (sym e) refl) in
    event_with (rows_of (line ∷ below)) (devices (rows_of (line ∷ below))) given (sym (given_all line below clean) ∙ e)

pub lacks_device : (line : Text) (below : List Text) → AreFaultless (line ∷ below) → has_device (rows_of (line ∷ below)) ≡ false → given_by (line ∷ below) ≡ Err (record { line = length (line ∷ below); kind = NoDevice })
lacks_device line below faultless none = lacks line below (clean_all (line ∷ below) faultless) (none_there (devices (rows_of (line ∷ below))) (devices_there (rows_of (line ∷ below)) ∙ none))
