-- What the contracts on lines cite: a line with one byte more, what a whole line is, and the numbers of the room that either completes.
use Rattle.std.specs.Prelude.{ℕ, ◌+◌, ◌*◌, ◌-◌, ◌^◌, Bool, true, false, List, set, ltb, leb, eqb}
use Rattle.stored.specs.Inputs.{pick}
use Rattle.stored.specs.declared.lines.Line.{Line}
use Rattle.stored.specs.declared.lines.Part.{Part}
use Rattle.stored.specs.declared.lines.Part.TheVariants.{Start, Number, Blank, Spoilt}
use Rattle.stored.specs.declared.lines.Ended.{Ended}
use Rattle.stored.specs.declared.lines.Ended.TheVariants.{Case, Malformed}

abbrev pub partial_line : ℕ → Part → Line
partial_line count part = record { count = count; part = part }

-- the line of which no byte has come yet
abbrev pub empty_line : Line
empty_line = partial_line 0 Start

abbrev pub is_start : Part → Bool
is_start Start = true
is_start (Number value) = false
is_start Blank = false
is_start Part.Comment = false
is_start Spoilt = false

abbrev pub or_spoilt : Bool → Part → Part
or_spoilt true p = p
or_spoilt false p = Spoilt

-- a digit is one of the bytes 48 to 57; a number is below 2 ^ 64
abbrev pub with_digit : ℕ → ℕ → Part
with_digit value byte =
    or_spoilt (leb 48 byte) (or_spoilt (leb byte 57) (or_spoilt (ltb (value * 10 + (byte - 48)) (2 ^ 64)) (Number (value * 10 + (byte - 48)))))

-- byte 35 starts a comment
abbrev pub first_part : ℕ → Part
first_part byte = pick (eqb byte 35) Part.Comment (with_digit 0 byte)

-- how many numbers there are once one more is kept, where there is room for it
abbrev pub count_kept : ℕ → ℕ → ℕ
count_kept room count = pick (ltb count room) (count + 1) count

-- after a number and a blank, where there is room for the number
abbrev pub after_blank : ℕ → ℕ → Line
after_blank room count = pick (ltb count room) (partial_line (count + 1) Blank) (partial_line count Spoilt)

-- the line of so many numbers and a part, with one byte more; byte 32 is a blank
abbrev pub with_byte : ℕ → ℕ → Part → ℕ → Line
with_byte room count Start byte = partial_line count (first_part byte)
with_byte room count (Number value) byte = pick (eqb byte 32) (after_blank room count) (partial_line count (with_digit value byte))
with_byte room count Blank byte = partial_line count (with_digit 0 byte)
with_byte room count Part.Comment byte = partial_line count Part.Comment
with_byte room count Spoilt byte = partial_line count Spoilt

-- what the whole line is: a case ends in a number that there is room for
abbrev pub line_ended : ℕ → ℕ → Part → Ended
line_ended room count Start = Malformed
line_ended room count (Number value) = pick (ltb count room) (Case (count + 1)) Malformed
line_ended room count Blank = Malformed
line_ended room count Part.Comment = Ended.Comment
line_ended room count Spoilt = Malformed

-- the room's numbers with the one that the line ends in, where it ends in one and there is room for it, at its place
abbrev pub line_completed : ℕ → Part → List ℕ → List ℕ
line_completed count Start numbers = numbers
line_completed count (Number value) numbers = set numbers count value
line_completed count Blank numbers = numbers
line_completed count Part.Comment numbers = numbers
line_completed count Spoilt numbers = numbers

-- a blank completes the number before it, no other byte does
abbrev pub completed_by : ℕ → ℕ → Part → List ℕ → List ℕ
completed_by byte count part numbers = pick (eqb byte 32) (line_completed count part numbers) numbers
