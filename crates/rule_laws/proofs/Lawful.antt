-- The reading of texts follows the grammar.
use Rattle.std.proofs.Common.{◌≡◌, ℕ, ◌<◌, ◌≤◌, Bool, true, false, List, length, Result, Ok, Err, ltb, refl, sym, ◌∙◌, subst}
use Rattle.std.proofs.lemmas.Bool.{ltb-true, ltb-false}
use Rattle.rule_laws.specs.Grammar.{FollowsGrammar}
use Rattle.text_core.specs.Spell.{items_at, max_len, spell_by}
use Rattle.text_core.specs.declared.glob_fault.GlobFault.{GlobFault}
use Rattle.text_core.specs.declared.glob_fault.GlobFault.TheVariants.{Class, TooLong}
use Rattle.text_core.specs.declared.item.Item.{Item}
use Rattle.text_core.specs.declared.reading.Reading.{Reading}
use Rattle.text_core.proofs.Scanning.{spell_by_long, spell_by_short}
use Rattle.rule_laws.proofs.Spelling.{Says, says, IsClass, said_items, said_class, spelled_read, class_read}

-- a text that is not too long is read by its items
pub never_long : (reading : Reading) (t : List ℕ) → items_at reading t 0 0 ≡ Err TooLong → ⊥
never_long reading t e = let c : IsClass t 0 TooLong = subst (Says reading t 0) e (says reading t 0 0 0 refl) in let is = c.is in cc

-- what is not TooLong was not too long
short_of : (reading : Reading) (t : List ℕ) (r : Result (List Item) GlobFault) → spell_by reading t ≡ r → (r ≡ Err TooLong → ⊥) → length t ≤ max_len
short_of reading t r e other = by_test (ltb max_len (length t)) refl where
  by_test : (v : Bool) → ltb max_len (length t) ≡ v → length t ≤ max_len
  by_test true h = absurd (other (sym e ∙ spell_by_long reading t (ltb-true max_len (length t) h)))
  by_test false h = ltb-false max_len (length t) h

long_of : (reading : Reading) (t : List ℕ) → spell_by reading t ≡ Err TooLong → max_len < length t
long_of reading t e = by_test (ltb max_len (length t)) refl where
  by_test : (v : Bool) → ltb max_len (length t) ≡ v → max_len < length t
  by_test true h = ltb-true max_len (length t) h
  by_test false h = absurd (never_long reading t (sym (spell_by_short reading t (ltb-false max_len (length t) h)) ∙ e))

pub follows : (reading : Reading) → FollowsGrammar reading (spell_by reading)
follows reading = record {
  items = λ t items. (
    λ e. let short : length t ≤ max_len = short_of reading t (Ok items) e (λ h. cc) in (short, said_items reading t items (sym (spell_by_short reading t short) ∙ e)),
    λ s. spell_by_short reading t s.0 ∙ spelled_read reading t items s.1,
  );
  class = λ t at. (
    λ e. let short : length t ≤ max_len = short_of reading t (Err (Class at)) e (λ h. cc) in (short, said_class reading t at (sym (spell_by_short reading t short) ∙ e)),
    λ s. spell_by_short reading t s.0 ∙ class_read reading t at s.1,
  );
  too_long = λ t. (long_of reading t, spell_by_long reading t);
}
