-- The tokens of parts, place by place.
use Rattle.std.proofs.Common.{◌≡◌, ℕ, zero, suc, List, [], ◌∷◌, slice_get, option_map, refl}
use Rattle.rule_types.specs.Tokens.{WrittenPart, tokens_in}

pub token_there : (parts : List WrittenPart) (n : ℕ) → slice_get (tokens_in parts) n ≡ option_map (λ (w : WrittenPart). w.token) (slice_get parts n)
token_there [] n = refl
token_there (w ∷ parts) zero = refl
token_there (w ∷ parts) (suc n) = token_there parts n
