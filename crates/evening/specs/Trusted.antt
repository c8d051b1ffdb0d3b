-- What can be trusted over a whole evening.
use Rattle.std.specs.Prelude.{◌≡◌, true, false, ◌↔◌, ℕ, ◌*◌, ◌≤◌, ◌<◌, length, get_or}
use mathlib.Core.List.{List, [], map, Memᴰ}
use Rattle.answers.specs.Answers.{refused, refusal_in}
use Rattle.graph.specs.Words.{Word}
use Rattle.in_play.specs.InPlay.{in_play}
use Rattle.evening.specs.History.{Call, Evening, is_arrival, arrived, answer_after, answers_after, history_after}

-- "one record, empty at first": no word of the lexicon is in play
abbrev pub EmptyAtFirst : List Word → List ℕ → Type 0
EmptyAtFirst lex first = (n : ℕ) → n < length lex → in_play first n ≡ false

-- the record says of every word what the history says of it, and of bits past the count what it said at first
pub record Agrees (lex : List Word) (first bits : List ℕ) (accepted : List Call) : Type 0 where
  pub size : length bits ≡ length first
  pub within : (n : ℕ) → n < length lex → in_play bits n ≡ arrived accepted (get_or lex n [])
  pub past : (n : ℕ) → length lex ≤ n → in_play bits n ≡ in_play first n

-- "29 for a word not in the lexicon [..], 30 for an arrival of a word in play, 31 for leaving when it isn't": a call after this history is refused by
-- each exactly then
pub record Exactly (lex : List Word) (accepted : List Call) (c : Call) : Type 0 where
  pub unknown : (refusal_in (answer_after lex accepted c) ≡ 29) ↔ (Memᴰ c.word lex → ⊥)
  pub again : (refusal_in (answer_after lex accepted c) ≡ 30) ↔ (is_arrival c.move ≡ true) × (arrived accepted c.word ≡ true)
  pub away : (refusal_in (answer_after lex accepted c) ≡ 31)
      ↔ (is_arrival c.move ≡ false) × (arrived accepted c.word ≡ false) × Memᴰ c.word lex

-- every answer of a list of calls over a record, refused ones too, and the record in the end
pub record Trusted (lex : List Word) (first : List ℕ) (calls : List Call) (played : Evening) : Type 0 where
  -- every answer is the one that the history gives
  pub answered : length lex ≤ 8 * length first → played.answers ≡ answers_after lex [] calls
  pub recorded : length lex ≤ 8 * length first → Agrees lex first played.bits (history_after lex [] calls)
  -- and a call that comes after them is refused exactly where the history says so
  pub refusing : (c : Call) → Exactly lex (history_after lex [] calls) c
  -- "11 for too few bits": every call, and nothing changes
  pub too_few : 8 * length first < length lex → (played.answers ≡ map (λ c. refused 11 []) calls) × (played.bits ≡ first)
