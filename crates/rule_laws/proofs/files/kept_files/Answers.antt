use Rattle.std.proofs.Common.{[]}
use Rattle.std.proofs.lemmas.List.Elements.{All-nil}
use Rattle.text_bytes.specs.FileOrder.{ordered, with_suffix}
use Rattle.text_bytes.specs.OrderLaws.{IsFirstOfLeastRank}
use Rattle.text_bytes.proofs.Placing.{rises_none}
use Rattle.rule_laws.proofs.Winning.{Keeps, HasName, keeps_all, all_of, any_of}
use Rattle.rule_laws.proofs.files.kept_files.Goals as goal

keeps_none : Keeps [] []
keeps_none = record { rise = rises_none; first = tt; there = All-nil (λ g. HasName g.name []) }

pub returns : goal.returns
returns c = record {
  rise = λ suffix files. (keeps_all [] (with_suffix suffix files) [] keeps_none).rise;
  first = λ suffix files. all_of (IsFirstOfLeastRank (with_suffix suffix files)) (ordered suffix files) (keeps_all [] (with_suffix suffix files) [] keeps_none).first;
  there = λ suffix files k d l. any_of _ (ordered suffix files) ((keeps_all [] (with_suffix suffix files) [] keeps_none).there k d l);
}
