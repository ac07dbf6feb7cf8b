use Rattle.std.proofs.Common.{◌≡◌, drop}
use Rattle.text_tables.specs.Texts.{with_texts}
use Rattle.builtin_link.specs.Link.{file_for, file_needs}
use Rattle.builtin_link.proofs.link.file_for.Given as goal

abbrev pub invariant-loop-file : goal.invariant-loop-file
invariant-loop-file l =
    record {
      file : file_for l.event l.env (drop l.file-index l.files) ≡ file_for l.event l.env l.files;
      needs : with_texts l.needs (file_needs l.event l.env (drop l.file-index l.files)) ≡ with_texts l.fn.needs (file_needs l.event l.env l.files);
    }
