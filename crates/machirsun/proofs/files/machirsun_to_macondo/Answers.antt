-- `machirsun::machirsun_to_macondo` meets its contract: the number is a format, and the answer is made flat.
use mathlib.Core.Path.{ap, ◌∙◌}
use lib.ListN.{length}
use Rattle.macondo_file.specs.Row.{to_macondo}
use Rattle.macondo.specs.Said.{format_of}
use Rattle.machirsun.proofs.files.machirsun_to_macondo.Goals as goal
use Rattle.machirsun.proofs.files.machirsun_to_macondo.Goals.{After-format_numbered-kind, Start}

abbrev start : After-format_numbered-kind → Start
start s = (goal.at.After-format_numbered-kind s).Start

pub returns : goal.returns
returns c =
    let read = (goal.at.returns c).After-format_numbered-kind in
    let a = (start read).args in
    let done = c.to_macondo.ensures in record {
      written = rw c.flat_macondo.ensures.answer
          (done.written
          ∙ ap (λ f. to_macondo a.nodes.now a.labels.now a.name.now (format_of f) (length a.work.now) a.file.now)
          read.format_numbered-kind.ensures);
      free = done.free;
      flat = c.flat_macondo.ensures.flat;
    }
