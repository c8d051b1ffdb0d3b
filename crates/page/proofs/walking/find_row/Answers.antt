-- `walking::find_row` meets its contract: each answer of the walk as a row.
use mathlib.Core.Path.{subst}
use mathlib.Core.List.{List}
use Prim.Native.Nat.{ℕ}
use Rattle.answers.specs.Answers.{Answer}
use Rattle.graph.specs.Words.{Word}
use Rattle.lookup.specs.Said.{WordPut}
use Rattle.lookup.specs.Walks.{word_by_index}
use Rattle.lookup.specs.WalkedLaws.{by-index-walked}
use Rattle.page.specs.Rows.{page_widths}
use Rattle.page.proofs.WalkingLaws.{Walked, row-found, row-full}
use Rattle.page.proofs.walking.find_row.Goals as goal
use Rattle.page.proofs.walking.find_row.Goals.{After-get_word_by_index, Start}

-- the walk, with room for so many tiles
module _ (s : After-get_word_by_index) where
  abbrev start : Start
  start = (goal.at.After-get_word_by_index s).Start

  abbrev walk : ℕ → Word × Answer
  walk room = let a = start.args in word_by_index a.counts.now a.nodes.now room a.p a.number

  abbrev after : List ℕ
  after = s.get_word_by_index.new.word

  abbrev Put : ℕ → Type 0
  Put room = WordPut (walk room) start.args.word.now after s.get_word_by_index.result

  -- the buffer is as long as there are columns
  walked : Walked page_widths.word (walk page_widths.word) start.args.word.now after s.get_word_by_index.result
  walked =
      record {
        leaves = by-index-walked _ _ page_widths.word _ _;
        put = subst Put start.requires s.get_word_by_index.ensures;
        size = start.requires;
      }

pub returns-in-Ok : goal.returns-in-Ok
returns-in-Ok c = row-found (walked (goal.at.returns-in-Ok c).After-get_word_by_index) c.in-Ok.found c.in-Ok.is

pub returns-in-Err-BufferFull : goal.returns-in-Err-BufferFull
returns-in-Err-BufferFull c = row-full (walked (goal.at.returns-in-Err-BufferFull c).After-get_word_by_index) (cc)
