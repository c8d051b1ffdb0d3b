-- Why a label file is refused: "27 for the first bad line of the label file with its line number from 1" (02, C-13).
use Rattle.std.specs.Prelude.{[], ◌∷◌}
use Rattle.answers.specs.Answers.{Refusal, refusing}
use Rattle.label_index.specs.declared.refusal.BadLabelLine.{BadLabelLine}

abbrev pub bad_label_line_refusal : BadLabelLine → Refusal
bad_label_line_refusal e = refusing 27 (e.0 ∷ [])
