-- What a `[` begins, by what its end and its members are.
use Rattle.std.proofs.Common.{◌≡◌, ℕ, ◌+◌, List, take, drop, Option, Some, None, Ok, Err, sym, ◌∙◌, ap}
use Rattle.std.specs.Option.{option_map}
use Rattle.text_core.specs.declared.reading.Reading.{Reading}
use Rattle.text_bytes.specs.Names.{open_bracket}
use Rattle.text_core.specs.Sets.{set_of, set_takes}
use Rattle.text_core.specs.Spell.{WrittenSet, negated, sign_len, members_len, class_place, set_or_byte, set_unless_class, bracket}
use Rattle.text_core.specs.declared.glob_fault.GlobFault.TheVariants.{Class}
use Rattle.text_core.specs.declared.item.Item.TheVariants.{Byte, Among}

-- the set of these members after a `[` at a place
abbrev pub written : ℕ → List ℕ → List ℕ → ℕ → WrittenSet
written at t members n = record { negated = negated t; members = members; place = at + 1 + sign_len t; len = sign_len t + n + 1 }

module _ (reading : Reading) (at : ℕ) (t m : List ℕ) (body : m ≡ drop (sign_len t) t) where
  unrolled : bracket reading at t ≡ set_or_byte reading (option_map (λ n. written at t (take n m) n) (members_len m))
  unfolding bracket
  unrolled = ap (λ (b : List ℕ). set_or_byte reading (option_map (λ n. written at t (take n b) n) (members_len b))) (sym body)

  pub bracket_open : members_len m ≡ None → bracket reading at t ≡ Ok (record { item = Byte open_bracket; following = 0 })
  bracket_open e = unrolled ∙ ap (λ (o : Option ℕ). set_or_byte reading (option_map (λ n. written at t (take n m) n) o)) e

  module _ (n : ℕ) (members : List ℕ) (close : members_len m ≡ Some n) (prefix : members ≡ take n m) where
    closed : bracket reading at t ≡ set_unless_class reading (written at t members n) (class_place members)
    closed =
        unrolled ∙ ap (λ (o : Option ℕ). set_or_byte reading (option_map (λ n. written at t (take n m) n) o)) close
        ∙ ap (λ (ms : List ℕ). set_unless_class reading (written at t ms n) (class_place ms)) (sym prefix)

    pub bracket_class : (k : ℕ) → class_place members ≡ Some k → bracket reading at t ≡ Err (Class (at + 1 + sign_len t + k))
    bracket_class k e = closed ∙ ap (set_unless_class reading (written at t members n)) e

    pub bracket_set : class_place members ≡ None → bracket reading at t ≡ Ok (record { item = Among (set_of (set_takes reading (negated t) members)); following = sign_len t + n + 1 })
    bracket_set e = closed ∙ ap (set_unless_class reading (written at t members n)) e
