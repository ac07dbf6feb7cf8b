-- Each fault of a block is found by its sentences.
use Rattle.std.proofs.Common.{◌≡◌, ◌||◌, false, List, [], ◌∷◌, Option, Some, refl, ap, sym, ◌∙◌}
use Rattle.std.specs.List.{find}
use Rattle.text_bytes.specs.Texts.{is_empty}
use Rattle.text_bytes.specs.Text.{Text}
use Rattle.text_tables.specs.Texts.{same_text}
use Rattle.device_core.specs.declared.faults.BlockFaultKind.{BlockFaultKind}
use Rattle.device_core.specs.declared.faults.BlockFaultKind.TheVariants.{NoAction, NoDevice, Letter, Twice, Path, Number, Pair, Nul, TooLong, TooDeep, Memory}
use Rattle.engine_sessions.specs.BlockAdvice.{advice_on, wrong_in}

all_kinds : List BlockFaultKind
all_kinds = NoAction ∷ NoDevice ∷ Letter ∷ Twice ∷ Path ∷ Number ∷ Pair ∷ Nul ∷ TooLong ∷ TooDeep ∷ Memory ∷ []

-- the first fault with this sentence
abbrev with_sentence : (BlockFaultKind → Text) → Text → Option BlockFaultKind
with_sentence sentence text = find (λ kind. same_text (sentence kind) text) all_kinds

wrong_is : (kind : BlockFaultKind) → with_sentence wrong_in (wrong_in kind) ≡ Some kind
unfolding all_kinds
wrong_is NoAction = refl
wrong_is NoDevice = refl
wrong_is Letter = refl
wrong_is Twice = refl
wrong_is Path = refl
wrong_is Number = refl
wrong_is Pair = refl
wrong_is Nul = refl
wrong_is TooLong = refl
wrong_is TooDeep = refl
wrong_is Memory = refl

advice_is : (kind : BlockFaultKind) → with_sentence advice_on (advice_on kind) ≡ Some kind
unfolding all_kinds
advice_is NoAction = refl
advice_is NoDevice = refl
advice_is Letter = refl
advice_is Twice = refl
advice_is Path = refl
advice_is Number = refl
advice_is Pair = refl
advice_is Nul = refl
advice_is TooLong = refl
advice_is TooDeep = refl
advice_is Memory = refl

some_is : (a b : BlockFaultKind) → Some a ≡ Some b → a ≡ b
some_is a b e = cc

pub own_wrong : (a b : BlockFaultKind) → wrong_in a ≡ wrong_in b → a ≡ b
own_wrong a b e = some_is a b (sym (wrong_is a) ∙ ap (with_sentence wrong_in) e ∙ wrong_is b)

pub own_advice : (a b : BlockFaultKind) → advice_on a ≡ advice_on b → a ≡ b
own_advice a b e = some_is a b (sym (advice_is a) ∙ ap (with_sentence advice_on) e ∙ advice_is b)

pub none_empty : (kind : BlockFaultKind) → (is_empty (wrong_in kind) || is_empty (advice_on kind)) ≡ false
none_empty NoAction = refl
none_empty NoDevice = refl
none_empty Letter = refl
none_empty Twice = refl
none_empty Path = refl
none_empty Number = refl
none_empty Pair = refl
none_empty Nul = refl
none_empty TooLong = refl
none_empty TooDeep = refl
none_empty Memory = refl
