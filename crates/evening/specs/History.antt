-- Calls one after the other over one record, and what their history alone says of each answer; from document 02, C-17: "A player must be
-- able to trust this over the whole evening".
use Rattle.std.specs.Prelude.{Bool, true, false, ◌&&◌, not, List, [], ◌∷◌, ℕ, ◌-◌, eqb, length, get_or}
use Rattle.laws.specs.Lists.{filtered, some_of}
use Rattle.laws.specs.Same.{same}
use Rattle.answers.specs.Answers.{Answer, gives, nothing, refused, refusing, Row, first_of, or_else}
use Rattle.node.specs.Nodes.{kbwg}
use Rattle.graph.specs.Runs.{Graph}
use Rattle.graph.specs.Words.{Word, words}
use Rattle.in_play.specs.InPlay.{up_from, remaining, play}
use Rattle.in_play.specs.declared.Move.{Move}
use Rattle.in_play.specs.declared.Move.TheVariants as M

-- "A word arrives, or leaves"
pub record Call : Type 0 where
  pub move : Move
  pub word : Word

-- ---- the calls, "with one start node over one record [..] that nobody else writes"
pub record Evening : Type 0 where
  pub answers : List Answer
  pub bits : List ℕ

unfoldable pub play_all : ℕ → Graph → List ℕ → ℕ → List Call → List ℕ → Evening
play_all limit nodes counts start [] bits = record { answers = []; bits = bits }
play_all limit nodes counts start (c ∷ cs) bits =
    let first = play limit c.move nodes counts start c.word bits in
    let rest = play_all limit nodes counts start cs first.bits in
    record { answers = first.answer ∷ rest.answers; bits = rest.bits }

-- ---- the history: the calls accepted so far, the latest first
abbrev pub is_arrival : Move → Bool
is_arrival M.Arrives = true
is_arrival M.Leaves = false

-- a word "whose last accepted call was an arrival"
abbrev pub arrived : List Call → Word → Bool
arrived [] w = false
arrived (c ∷ accepted) w = elim (same c.word w) [ true ↦ is_arrival c.move | false ↦ arrived accepted w ]

-- the history after a call with its answer
abbrev pub noted : Answer → Call → List Call → List Call
noted (gives vs) c accepted = c ∷ accepted
noted nothing c accepted = accepted
noted (refused k vs) c accepted = accepted

-- "A start node 0 is a lexicon of no words."
abbrev pub lexicon : Graph → ℕ → List Word
lexicon g start = elim (eqb start 0) [ true ↦ [] | false ↦ words kbwg g start ]

-- ---- what a lexicon of these words answers, by the history
module _ (lex : List Word) where
  -- "the count is the lexicon's count less the words whose last accepted call was an arrival"
  unfoldable pub count_after : List Call → ℕ
  count_after accepted = length lex - length (filtered (arrived accepted) lex)

  -- the numbers of the others, the lowest first
  unfoldable pub numbers_after : List Call → List ℕ
  numbers_after accepted = filtered (λ n. not (arrived accepted (get_or lex n []))) (up_from 0 (length lex))

  -- "29 for a word not in the lexicon [..], 30 for an arrival of a word in play, 31 for leaving when it isn't"
  abbrev pub history_row : List Call → Call → Row
  history_row accepted c =
      (not (some_of (same c.word) lex), refusing 29 [])
      ∷ (is_arrival c.move && arrived accepted c.word, refusing 30 [])
      ∷ (not (is_arrival c.move) && not (arrived accepted c.word), refusing 31 [])
      ∷ []

  unfoldable pub answer_after : List Call → Call → Answer
  answer_after accepted c = or_else (first_of (history_row accepted c)) (remaining (count_after (c ∷ accepted)) (numbers_after (c ∷ accepted)))

  unfoldable pub answers_after : List Call → List Call → List Answer
  answers_after accepted [] = []
  answers_after accepted (c ∷ cs) = answer_after accepted c ∷ answers_after (noted (answer_after accepted c) c accepted) cs

  -- the history when all calls are made
  unfoldable pub history_after : List Call → List Call → List Call
  history_after accepted [] = accepted
  history_after accepted (c ∷ cs) = history_after (noted (answer_after accepted c) c accepted) cs
