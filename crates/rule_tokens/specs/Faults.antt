-- How the result of a function agrees with what reading gives.
use Rattle.std.specs.Prelude.{◌≡◌, Result, Ok, Err}
use Rattle.rule_tokens.specs.declared.fault.TemplateFault.{TemplateFault}
use Rattle.rule_tokens.specs.declared.fault.TemplateFault.TheVariants.{Unknown, Brace, Number, Memory}

-- a fault is the one that reading gives; about out of memory nothing is said
abbrev pub Fails : {A : Type 0} → TemplateFault → Result A TemplateFault → Type 0
Fails Memory read = Unit {0}
Fails Unknown read = read ≡ Err Unknown
Fails Brace read = read ≡ Err Brace
Fails Number read = read ≡ Err Number

-- what was returned, as seen, is what reading gives, unless memory ran out
abbrev pub Gives : {A B : Type 0} → (A → B) → Result A TemplateFault → Result B TemplateFault → Type 0
Gives seen (Ok x) read = read ≡ Ok (seen x)
Gives seen (Err fault) read = Fails fault read

-- what was returned, as seen, is just what reading gives
abbrev pub GivesJust : {A B : Type 0} → (A → B) → Result A TemplateFault → Result B TemplateFault → Type 0
GivesJust seen (Ok x) read = read ≡ Ok (seen x)
GivesJust seen (Err fault) read = read ≡ Err fault
