-- What the answers of the call say, and what its parts leave.
use Rattle.std.specs.Prelude.{◌≡◌, List, [], ◌++◌, ℕ, ◌<◌, length, drop, Result, Ok, Err, Option as Maybe, None, Some}
use Rattle.std.proofs.Math.Option.{Option, none, some}
use Rattle.laws.specs.Lists.{All}
use Rattle.answers.specs.Answers.{Answer, gives, Refusal, refusing, as_answer, said_result}
use Rattle.graph.specs.Words.{Word}
use Rattle.export.specs.Written.{Written}
use Rattle.lookup.specs.Steps.{Try, on, stop}
use Rattle.lookup.specs.Refusals.{lookup_refusal}
use Rattle.lookup.specs.declared.refusals.LookupRefusal.{LookupRefusal}
use Rattle.page.specs.Rows.{ShownWord, page_widths, label_of}
use Rattle.page.specs.Shown.{shown_by}
use Rattle.page.specs.Held.{held_word, held}
use Rattle.page.specs.declared.refusals.PageRefusal.{PageRefusal}
use Rattle.page.specs.declared.refusals.PageRefusal.TheVariants as P
use Rattle.page.specs.declared.held.Held.{Held}

-- "19 for a long title, 11 for a page under 960 bytes, 14 and 15 of word numbers, 21 for a shown tile without a label, then 26 where a
-- title byte or a shown label is outside 20 to 7E hexadecimal"
abbrev pub page_refusal : PageRefusal → Refusal
page_refusal P.TitleTooLong = refusing 19 []
page_refusal P.PageTooShort = refusing 11 []
page_refusal (P.Lookup e) = lookup_refusal e
page_refusal P.NoLabel = refusing 21 []
page_refusal P.NotPrintable = refusing 26 []

abbrev pub said_page : Result Unit PageRefusal → Answer
said_page r = said_result (λ t. gives []) page_refusal r

-- the call's result in the terms of its definition
abbrev pub page_written_as : Result Unit PageRefusal → List ℕ → Written
page_written_as r bytes = record { answer = said_page r; bytes = bytes }

-- ---- the walks
-- what one walk found, its word in a buffer as long as there are columns
abbrev pub found_try : ℕ → Result (Maybe ℕ) LookupRefusal → List ℕ → Try (Option ShownWord)
found_try n (Ok (Some size)) buffer = on (some (held_word (length buffer) n buffer size))
found_try n (Ok None) buffer = on none
found_try n (Err e) buffer = stop (as_answer (lookup_refusal e))

-- one number: what was found, and its tiles at the front of the buffer
pub record RowPut (number : ℕ) (walk : Word × Answer) (before after : List ℕ) (r : Result (Maybe ℕ) LookupRefusal) : Type 0 where
  pub size : length after ≡ length before
  pub found : found_try number r after ≡ shown_by number walk
  pub tiles : after ≡ walk.0 ++ drop (length walk.0) before

-- the words that are held
abbrev pub held_by : Held → List ShownWord
held_by h = held page_widths.word h.first h.tiles.now h.sizes.now

-- what the walks of all rows found
abbrev pub walked_try : Result Held LookupRefusal → Try (List ShownWord)
walked_try (Ok h) = on (held_by h)
walked_try (Err e) = stop (as_answer (lookup_refusal e))

-- ---- labels
-- each tile has a label that is a byte
abbrev pub Labelled : List ℕ → Word → Type 0
Labelled labels tiles = All (λ t. (t < length labels) × (label_of labels t < 256)) tiles
