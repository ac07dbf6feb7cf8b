-- The counts of each rule are those of its own fates.
use Rattle.std.proofs.Common.{◌≡◌, ℕ, zero, suc, ◌<◌, List, [], ◌∷◌, length, map, fold, get_or, refl, ap, sym, ◌∙◌, subst, arith}
use Rattle.std.proofs.lemmas.List.{get_or-map, length-map}
use Rattle.builtin_devices.specs.Knowledge.{Known}
use Rattle.rule_types.specs.Rules.{Rule}
use Rattle.device_core.specs.Values.{EventValue}
use Rattle.device_core.specs.Tried.{tried}
use Rattle.eval_courses.specs.Fates.{fates}
use Rattle.eval_courses.specs.declared.fate.Fate.{Fate}
use Rattle.eval_courses.specs.declared.fate.Fate.TheVariants.{Passed}
use Rattle.text_bytes.specs.Text.{Text}
use Rattle.engine_courses.specs.Unused.{lines_by}
use Rattle.engine_courses.specs.UnusedLaws.{after, fates_of}
use Rattle.engine_courses.specs.Rows.{Row, counted, unreached, with_fate, with_fates}

sizes : (rows : List Row) (fs : List Fate) → length (with_fates rows fs) ≡ length rows
unfolding with_fates
sizes [] fs = refl
sizes (row ∷ rows) [] = refl
sizes (row ∷ rows) (f ∷ fs) = ap suc (sizes rows fs)

own : (rows : List Row) (fs : List Fate) (place : ℕ) (d : Row) → place < length rows → get_or (with_fates rows fs) place d ≡ with_fate (get_or rows place d) (get_or fs place Passed)
unfolding with_fates
own [] fs place d h = absurd (omega (arith, h))
own (row ∷ rows) [] zero d h = refl
own (row ∷ rows) [] (suc place) d h = refl
own (row ∷ rows) (f ∷ fs) zero d h = refl
own (row ∷ rows) (f ∷ fs) (suc place) d h = own rows fs place d (omega (arith, h))

own_all : (read : List Rule) (known : Known) (rows : List Row) (events : List EventValue) (place : ℕ) (d : Row) → place < length rows
    → get_or (counted read known rows events) place d ≡ fold with_fate (get_or rows place d) (fates_of read known place events)
unfolding counted
own_all read known rows [] place d h = refl
own_all read known rows (event ∷ events) place d h =
    own_all read known (with_fates rows (fates (tried event read) known event)) events place d (subst (λ n. place < n) (sym (sizes rows (fates (tried event read) known event))) h)
    ∙ ap (λ row. fold with_fate row (fates_of read known place events)) (own rows (fates (tried event read) known event) place d h)

pub own_fates : (read : List Rule) (known : Known) (events : List EventValue) (place : ℕ) (r : Rule) → place < length read
    → get_or (counted read known (map unreached read) events) place (unreached r) ≡ after (get_or read place r) (fates_of read known place events)
own_fates read known events place r h =
    own_all read known (map unreached read) events place (unreached r) (subst (λ n. place < n) (sym (length-map read unreached)) h)
    ∙ ap (λ row. fold with_fate row (fates_of read known place events)) (get_or-map unreached read place r (unreached r) h)

-- one event more
pub counted_more : (names : List Text) (read : List Rule) (known : Known) (rows now : List Row) (event : EventValue) (later : List EventValue) → now ≡ with_fates rows (fates (tried event read) known event)
    → lines_by names read (counted read known now later) ≡ lines_by names read (counted read known rows (event ∷ later))
unfolding counted
counted_more names read known rows now event later e = ap (λ all. lines_by names read (fold (λ each event. with_fates each (fates (tried event read) known event)) all later)) e
