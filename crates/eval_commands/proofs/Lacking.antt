-- What the block lacks for the devices that `hwdb` looks at, one after another up to the last of them.
use Rattle.std.proofs.Common.{◌≡◌, ℕ, suc, ◌+◌, ◌<◌, cond, map, length, drop, get_or, add-one, drop-cons, true, false, List, ◌∷◌, ◌++◌, ap, sym, ◌∙◌, append_assoc}
use Rattle.std.specs.Prelude.{Bool, Option}
use Rattle.text_bytes.specs.Text.{Text}
use Rattle.text_bytes.specs.declared.profile.Profile.TheVariants.{Udev}
use Rattle.device_core.specs.Values.{DeviceValue, EventValue}
use Rattle.eval_commands.specs.LookUps.{Candidate, candidate, is_last}
use Rattle.eval_commands.specs.LookUpNeeds.{modalias_word, modalias_words, parent_seen}

pub next_item : {X : Type 0} (xs : List X) (i : ℕ) (x : X) → x ≡ get_or xs i x → i < length xs → drop i xs ≡ x ∷ drop (i + 1) xs
next_item xs i x is inside = rw (add-one, drop-cons xs i x inside) (ap (λ y. y ∷ drop (suc i) xs) (sym is))

-- the words for a device that is the last one looked at are all that are missing
pub last_word : (told event : EventValue) (subsystem : Option Text) (device : DeviceValue) (left parents : List DeviceValue) (seen : Candidate) (words pushed whole : List Text) (last : Bool)
    → told ≡ event → parents ≡ device ∷ left → seen ≡ candidate Udev device device.env → last ≡ is_last subsystem seen → last ≡ true
    → pushed ≡ words ++ modalias_word told subsystem device seen → words ++ modalias_words event subsystem (map parent_seen parents) ≡ whole → pushed ≡ whole
last_word told event subsystem device left parents seen words pushed whole last same cut at l is_true push so_far =
    let here : List Text = modalias_word event subsystem device (candidate Udev device device.env) in
    let more : List Text = here ++ modalias_words event subsystem (map parent_seen left) in
    let ends : is_last subsystem (candidate Udev device device.env) ≡ true = sym (ap (is_last subsystem) at) ∙ (sym l ∙ is_true) in
    push
    ∙ ap (λ e. words ++ modalias_word e subsystem device seen) same
    ∙ ap (λ c. words ++ modalias_word event subsystem device c) at
    ∙ ap (λ b. words ++ cond b here more) (sym ends)
    ∙ ap (λ ps. words ++ modalias_words event subsystem (map parent_seen ps)) (sym cut)
    ∙ so_far

-- after those for another device come those for the others
pub one_word : (told event : EventValue) (subsystem : Option Text) (device : DeviceValue) (left parents : List DeviceValue) (seen : Candidate) (words pushed whole : List Text) (last : Bool)
    → told ≡ event → parents ≡ device ∷ left → seen ≡ candidate Udev device device.env → last ≡ is_last subsystem seen → last ≡ false
    → pushed ≡ words ++ modalias_word told subsystem device seen → words ++ modalias_words event subsystem (map parent_seen parents) ≡ whole
    → pushed ++ modalias_words event subsystem (map parent_seen left) ≡ whole
one_word told event subsystem device left parents seen words pushed whole last same cut at l is_false push so_far =
    let here : List Text = modalias_word event subsystem device (candidate Udev device device.env) in
    let others : List Text = modalias_words event subsystem (map parent_seen left) in
    let goes_on : is_last subsystem (candidate Udev device device.env) ≡ false = sym (ap (is_last subsystem) at) ∙ (sym l ∙ is_false) in
    ap (λ all. all ++ others) push
    ∙ ap (λ e. (words ++ modalias_word e subsystem device seen) ++ others) same
    ∙ ap (λ c. (words ++ modalias_word event subsystem device c) ++ others) at
    ∙ append_assoc words here others
    ∙ ap (λ b. words ++ cond b here (here ++ others)) (sym goes_on)
    ∙ ap (λ ps. words ++ modalias_words event subsystem (map parent_seen ps)) (sym cut)
    ∙ so_far
