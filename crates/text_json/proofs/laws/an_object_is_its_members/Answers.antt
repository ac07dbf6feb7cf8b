use Rattle.std.proofs.Common.{sym}
use Rattle.text_json.proofs.Listed.{object_listed}
use Rattle.text_json.proofs.laws.an_object_is_its_members.Goals as goal

pub returns : goal.returns
returns c members = sym (object_listed members)
