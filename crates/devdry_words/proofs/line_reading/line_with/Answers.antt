use Rattle.std.proofs.Common.{rules, ap, not, refl}
use Rattle.devdry_words.proofs.line_reading.line_with.Goals as goal

-- src/line_reading.rt:132:1
pub returns : goal.returns
returns c = record {
  verb_is = refl;
  root_is = refl;
  files = refl;
  added_are = refl;
  input_name = c.input_name_of.ensures;
  index = c.value.ensures;
  strict = c.is_given.ensures;
  sources = c.is_given-2.ensures;
  why = c.in_ok-texts.ensures;
  questions = c.is_given-3.ensures;
  unused = c.is_given-4.ensures;
  modalias = c.text.ensures;
  summary = ap not c.is_given-5.ensures;
  style = ap not c.is_given-6.ensures;
  lint = c.is_given_or_every.ensures;
  checks_links = c.is_given-7.ensures;
  check = c.is_given-8.ensures;
  format = search rules;
  color = search rules;
  all = c.asks_all_of.ensures;
  ignored = c.in_ok-ignored_codes.ensures;
  profile = c.profile_of.ensures;
  users = c.account_file.ensures;
  groups = c.account_file-2.ensures;
  links = c.new.ensures.items;
}
