-- What the contracts on an output cite: what is printed between two states of it.
use Rattle.std.specs.Prelude.{ℕ, List, IsNone}
use Rattle.std.specs.declared.option.Option.{Option}
use Rattle.std.specs.Io.KnownBytes.{Appends}
use Rattle.console.specs.declared.output.Output.{Output}

-- if nothing has failed, nothing had, and just these bytes were added to those that the writer holds, where it tells
abbrev pub Prints : {W : Type 0} → (W → Option (List ℕ)) → Output W → Output W → List ℕ → Type 0
Prints contents before after bytes = IsNone after.failed → IsNone before.failed × Appends (contents before.writer) (contents after.writer) bytes
