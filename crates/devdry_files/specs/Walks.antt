-- Where a path leads inside a folder, the root, by what the disk says of each name on the way.
use Rattle.std.specs.Prelude.{◌≡◌, ◌≢◌, ◌++◌, ◌∷◌, ◌⊎◌, ◌==◌, ◌||◌, ◌-◌, ℕ, Bool, true, false, List, [], codes, flat_map, if◌then◌else◌, length}
use Rattle.std.specs.Prelude.{string_bytes, suc, take, zero}
use Rattle.std.specs.List.{slice_split}
use Rattle.std.specs.Str.{bytes_eq}
use Rattle.text_bytes.specs.Text.{Text}
use Rattle.text_bytes.specs.Names.{slash}
use Rattle.devdry_files.specs.Answers.{Answer}
use Rattle.devdry_files.specs.Answers.Answer.{Stepped}
use Rattle.devdry_files.specs.declared.look.Look.TheVariants as look
use Rattle.devdry_files.specs.declared.step.End.{End}
use Rattle.devdry_files.specs.declared.step.End.TheVariants as end
use Rattle.devdry_files.specs.declared.step.Step.{Step}
use Rattle.devdry_files.specs.declared.step.Step.TheVariants as step
use Rattle.devdry_files.specs.declared.walking.Next.{Next}
use Rattle.devdry_files.specs.declared.walking.Next.TheVariants as next

-- names on the way from the root to a place, each in the folder of those before it
abbrev pub Way : Type 0
Way = List Text

-- the names of a path, between its slashes
abbrev pub names_in : Text → Way
names_in path = slice_split (λ b. b == slash) path

-- the path of the place that a way comes to
abbrev pub place_in : Text → Way → Text
place_in root way = root ++ flat_map (λ name. slash ∷ name) way

-- a name that leads to the folder that it is in
abbrev pub is_here : Text → Bool
is_here name = bytes_eq name [] || bytes_eq name (codes ".")

-- a name that leads to the folder above
abbrev pub is_up : Text → Bool
is_up name = bytes_eq name (codes "..")

-- the way to the folder above; that above the root is the root
abbrev pub above : Way → Way
above way = take (length way - 1) way

-- a path that begins at the root
abbrev pub is_absolute : Text → Bool
is_absolute (first ∷ rest) = first == slash
is_absolute [] = false

-- what follows a name, by what is there: a link to the null device leads to it, whatever the root has there
abbrev pub next_by : Step → Next
next_by step.Folder = next.Further
next_by (step.File identity) = next.Stop (end.File identity)
next_by (step.Link target) = if bytes_eq (string_bytes target) (codes "/dev/null") then next.Stop end.Null else next.Follow target
next_by step.OddLink = next.Stop end.OddLink
next_by (step.NoWay shown) = next.Stop (end.NoWay shown)

-- where the way goes on after a name in a place, by what is there: a symlink is followed from the folder that it is in,
-- or from the root if it leads to an absolute path
abbrev pub place_by : Step → Way → Text → Way
place_by (step.Link target) way name = if is_absolute (string_bytes target) then [] else way
place_by _ way name = way ++ name ∷ []

-- what the disk may say of a name leads to this, and the way goes on from there
abbrev pub EntersBy : Bool → Bool → (Answer → Type 0) → Text → Way → Text → Next → Way → Type 0
EntersBy true up may root way name then_next to = (then_next ≡ next.Further) × (to ≡ way)
EntersBy false true may root way name then_next to = (then_next ≡ next.Further) × (to ≡ above way)
EntersBy false false may root way name then_next to = (it : Step) × may (Stepped (place_in root (way ++ name ∷ [])) it)
    × (then_next ≡ next_by it) × (to ≡ place_by it way name)

-- a name in a place leads to this, and the way goes on from there
abbrev pub Enters : (Answer → Type 0) → Text → Way → Text → Next → Way → Type 0
Enters may root way name then_next to = EntersBy (is_here name) (is_up name) may root way name then_next to

-- what names below a file, or below nothing, lead to
abbrev pub below : End → End
below (end.NoWay shown) = end.NoWay shown
below _ = end.NoWay look.Other

-- what a path leads to whose way ends here, before these names: nothing is below a file
abbrev pub settled : Way → End → End
settled [] it = it
settled (name ∷ names) it = below it

-- what comes of the names after one, by what follows it
abbrev pub GoesOn : Next → (Way → Type 0) → (Text → Way → Type 0) → (End → Way → Type 0) → Way → Type 0
GoesOn next.Further Further Follow Stop to = Further to
GoesOn (next.Follow target) Further Follow Stop to = Follow (string_bytes target) to
GoesOn (next.Stop it) Further Follow Stop to = Stop it to

-- These names lead from a place to this end at this way, where a symlink leads on as it is said.
abbrev pub Walks : (Answer → Type 0) → Text → (Way → Way → End → Way → Type 0) → Way → Way → End → Way → Type 0
Walks may root Onward way [] it at = (it ≡ end.Folder) × (at ≡ way)
Walks may root Onward way (name ∷ names) it at = (then_next : Next) × (to : Way) × Enters may root way name then_next to
    × GoesOn then_next (λ on. Walks may root Onward on names it at) (λ target on. Onward on (names_in target ++ names) it at)
    (λ stop on. (it ≡ settled names stop) × (at ≡ on)) to

-- the most symlinks on a way
abbrev pub max_links : ℕ
max_links = 40

-- These names lead from a place to this end at this way, over fewer symlinks than a number; with too many they lead
-- nowhere.
abbrev pub Leads : (Answer → Type 0) → Text → ℕ → Way → Way → End → Way → Type 0
Leads may root zero way names it at = (it ≡ end.NoWay look.Failed) × (at ≡ way)
Leads may root (suc links) way names it at = Walks may root (Leads may root links) way names it at

-- These names lead from a place to this end at this way.
unfoldable pub LeadsOn : (may : Answer → Type 0) → (root : Text) → (way names : Way) → End → Way → Type 0
LeadsOn may root way names it at = Leads may root (suc max_links) way names it at

-- a path leads to this end at this way inside a root; what is not below the root is not there
abbrev pub Comes : (Answer → Type 0) → Text → Text → End → Way → Type 0
Comes may root path it at = ((rest : Text) × (path ≡ root ++ rest) × LeadsOn may root [] (names_in rest) it at)
    ⊎ (((rest : Text) → path ≢ root ++ rest) × (it ≡ end.NoWay look.Absent) × (at ≡ []))
