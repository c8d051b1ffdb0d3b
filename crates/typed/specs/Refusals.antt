-- Why words are refused: 27 of the label file, "28 for unreadable text with its byte place", "16 for a full word buffer" (02, C-13).
use Rattle.std.specs.Prelude.{[], ◌∷◌}
use Rattle.answers.specs.Answers.{Refusal, refusing}
use Rattle.label_index.specs.Refusals.{bad_label_line_refusal}
use Rattle.typed.specs.declared.refusal.TypedRefusal.{TypedRefusal}
use Rattle.typed.specs.declared.refusal.TypedRefusal.TheVariants.{BadLabelLine, Unreadable, BufferFull}

abbrev pub typed_refusal : TypedRefusal → Refusal
typed_refusal (BadLabelLine e) = bad_label_line_refusal e
typed_refusal (Unreadable p) = refusing 28 (p ∷ [])
typed_refusal BufferFull = refusing 16 []
