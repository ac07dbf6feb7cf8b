-- The keys that are final after one more.
use Rattle.std.proofs.Common.{◌≡◌, ◌≢◌, true, refl}
use Rattle.eval_state.specs.Finals.{is_final, made_final}
use Rattle.eval_state.specs.declared.finals.FinalKey.{FinalKey}
use Rattle.eval_state.specs.declared.finals.FinalKey.TheVariants as key
use Rattle.eval_state.specs.declared.finals.Finals.{Finals}

pub made_is_final : (f : Finals) (k : FinalKey) → is_final (made_final f k) k ≡ true
made_is_final f key.Owner = refl
made_is_final f key.Group = refl
made_is_final f key.Mode = refl
made_is_final f key.Name = refl
made_is_final f key.Symlink = refl
made_is_final f key.Run = refl
made_is_final f key.Priority = refl
made_is_final f key.Watch = refl

pub others_stay : (f : Finals) (k j : FinalKey) → k ≢ j → is_final (made_final f k) j ≡ is_final f j
others_stay f key.Owner key.Owner other = absurd (other refl)
others_stay f key.Owner j other = refl
others_stay f key.Group key.Group other = absurd (other refl)
others_stay f key.Group j other = refl
others_stay f key.Mode key.Mode other = absurd (other refl)
others_stay f key.Mode j other = refl
others_stay f key.Name key.Name other = absurd (other refl)
others_stay f key.Name j other = refl
others_stay f key.Symlink key.Symlink other = absurd (other refl)
others_stay f key.Symlink j other = refl
others_stay f key.Run key.Run other = absurd (other refl)
others_stay f key.Run j other = refl
others_stay f key.Priority key.Priority other = absurd (other refl)
others_stay f key.Priority j other = refl
others_stay f key.Watch key.Watch other = absurd (other refl)
others_stay f key.Watch j other = refl

-- a key that is made final leaves the others final
pub made_final_stays : (k j : FinalKey) (f : Finals) → is_final f k ≡ true → is_final (made_final f j) k ≡ true
made_final_stays key.Owner key.Owner f h = refl
made_final_stays key.Owner j f h = h
made_final_stays key.Group key.Group f h = refl
made_final_stays key.Group j f h = h
made_final_stays key.Mode key.Mode f h = refl
made_final_stays key.Mode j f h = h
made_final_stays key.Name key.Name f h = refl
made_final_stays key.Name j f h = h
made_final_stays key.Symlink key.Symlink f h = refl
made_final_stays key.Symlink j f h = h
made_final_stays key.Run key.Run f h = refl
made_final_stays key.Run j f h = h
made_final_stays key.Priority key.Priority f h = refl
made_final_stays key.Priority j f h = h
made_final_stays key.Watch key.Watch f h = refl
made_final_stays key.Watch j f h = h
