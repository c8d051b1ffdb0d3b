-- What a call changes of the record, on every graph and with any counts, from document 02, C-17: "A refused call changes no bit." One that is not
-- refused changes that of its word alone; and bits past the start's count are neither read nor changed.
use Rattle.std.specs.Prelude.{◌≡◌, not, ◌≢◌, List, ℕ, ◌≤◌, ◌<◌, length}
use Rattle.answers.specs.Answers.{gives, refused}
use Rattle.in_play.specs.InPlay.{in_play, Played}

-- one bit is another, below the count, and no other bit is
pub record OneBit (total : ℕ) (before after : List ℕ) : Type 0 where
  pub number : ℕ
  pub below : number < total
  pub turned_over : in_play after number ≡ not (in_play before number)
  pub others : (m : ℕ) → m ≢ number → in_play after m ≡ in_play before m

-- two records of one length with the same bits below the count
pub record SameBelow (total : ℕ) (one other : List ℕ) : Type 0 where
  pub size : length one ≡ length other
  pub bits : (n : ℕ) → n < total → in_play one n ≡ in_play other n

-- a call over a record, from a start of so many words
pub record Changes (total : ℕ) (call : List ℕ → Played) (bits : List ℕ) : Type 0 where
  pub size : length (call bits).bits ≡ length bits
  pub refused_none : {k : ℕ} {vs : List ℕ} → (call bits).answer ≡ refused k vs → (call bits).bits ≡ bits
  pub accepted-one : {vs : List ℕ} → (call bits).answer ≡ gives vs → OneBit total bits (call bits).bits
  pub past-kept : (n : ℕ) → total ≤ n → in_play (call bits).bits n ≡ in_play bits n
  pub past-unread : (other : List ℕ) → SameBelow total bits other → (call other).answer ≡ (call bits).answer
