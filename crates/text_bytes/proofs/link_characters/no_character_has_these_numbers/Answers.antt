use Rattle.std.proofs.Common.{refl}
use Rattle.text_bytes.specs.Characters.{is_covered, noncharacter_len, value_byte, value_safe}
use Rattle.text_bytes.specs.Encoded.{encoded, encoded_byte, is_own}
use Rattle.text_bytes.specs.Safe.{is_hex_escape, is_reached, safe_byte, sequence_len, stays}
use Rattle.text_bytes.proofs.link_characters.no_character_has_these_numbers.Goals as goal

pub returns-clause-empty : goal.returns-clause-empty
unfolding value_safe value_byte is_covered noncharacter_len safe_byte stays is_hex_escape is_reached sequence_len
returns-clause-empty c = refl

pub returns-clause-encoded : goal.returns-clause-encoded
unfolding encoded encoded_byte is_own is_covered noncharacter_len is_reached sequence_len
returns-clause-encoded c = refl

pub returns-clause-before : goal.returns-clause-before
unfolding value_safe value_byte is_covered noncharacter_len safe_byte stays is_hex_escape is_reached sequence_len
returns-clause-before c = refl

pub returns-clause-row : goal.returns-clause-row
unfolding value_safe value_byte is_covered noncharacter_len safe_byte stays is_hex_escape is_reached sequence_len
returns-clause-row c = refl

pub returns-clause-planes : goal.returns-clause-planes
unfolding value_safe value_byte is_covered noncharacter_len safe_byte stays is_hex_escape is_reached sequence_len
returns-clause-planes c = refl
